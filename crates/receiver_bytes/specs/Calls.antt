-- The receiver's calls on a record that the caller keeps as bytes: the number, and what everything lent holds
-- afterwards.
use Rattle.std.specs.Prelude.{ℕ, List, length}
use Rattle.octets.specs.Buffers.{placed}
use Rattle.refusals.specs.{Numbers.accepted, Outcome.Outcome, Rules.settled}
use Rattle.trivium.specs.Keystream.{trivium}
use Rattle.names.specs.Naming.{name_faults}
use Rattle.frames.specs.Frames.{bytes, heard}
use Rattle.receiver.specs.Receiver.{fresh_receiver, receive_faults, on_frame}
use Rattle.record_bytes.specs.Making.{made_of}
use Rattle.receiver_bytes.specs.Record.{receiver_size, receiver_bytes, receiver_in}

unfoldable pub receiver_make : List ℕ → List ℕ → List ℕ → Outcome ℕ ℕ
receiver_make buffer key pair =
    made_of (name_faults key pair) receiver_size (receiver_bytes (fresh_receiver key pair)) buffer

-- the number, the record, the sound, the answer frame and its length
pub record Reception : Type 0 where
  pub number : ℕ
  pub receiver : List ℕ
  pub sound : List ℕ
  pub answer : List ℕ
  pub count : ℕ

abbrev pub reception : List ℕ → List ℕ → List ℕ → ℕ → ℕ → Reception
reception receiver sound answer count number =
    record { number = number; receiver = receiver; sound = sound; answer = answer; count = count }

-- `before` is what the answer's length held
unfoldable pub receiver_hear : List ℕ → List ℕ → List ℕ → List ℕ → ℕ → Reception
receiver_hear receiver frame sound answer before =
    let r = receiver_in receiver in
    let h = heard frame in
    let e = on_frame trivium r sound h in
    let reply = bytes e.answer in
    settled (receive_faults r (length sound) (length answer) h)
    (reception (receiver_bytes e.next) e.sound (placed answer 0 reply) (length reply) accepted)
    (reception receiver sound answer before)
