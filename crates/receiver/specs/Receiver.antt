-- What each public call of a receiver owes, for every input: its rules in order, what it does, what a refusal
-- leaves. Hearing is lent two buffers, one for the sound and one for the answer frame.
use Rattle.std.specs.Prelude.{ℕ, ◌+◌, Result, Ok, Err}
use mathlib.Core.{Bool.Bool, Bool.true, Bool.false, Bool.cond, List.List, List.[], List.◌∷◌, List.◌++◌}
use lib.{Dec.ltb, Dec.eqb, ListN.length}
use Rattle.octets.specs.{Buffers.placed, Stream.Cipher}
use Rattle.refusals.specs.Numbers.{accepted, no_room, wrong_sound, not_a_frame, other_session, impossible, out_of_rule}
use Rattle.refusals.specs.{Numbers.other_length, Rules.Fault, Rules.◌says◌, Rules.settled, Answers.number_of}
use Rattle.refusals.specs.declared.Refusal.{Refusal}
use Rattle.refusals.specs.Rules.{◌over◌, ◌under◌, ◌unlike◌, unless, ◌given◌is◌}
use Rattle.blocks.specs.{Blocks.blocks, Blocks.place, Blocks.size, Covering.covered}
use Rattle.names.specs.Naming.{name_faults, no_key, no_pair}
use Rattle.frames.specs.Frames.{Frame, opening, block, holds, too_long, bytes, Heard, it, no_frame, heard}
use Rattle.receiver.specs.{Rules.receiver_in_rule, declared.Receiver.Receiver, declared.Answered.Answered}

-- ---- making: the names' refusals; a refused making has only zeros to give

abbrev pub fresh_receiver : List ℕ → List ℕ → Receiver
fresh_receiver key pair = record { key = key; pair = pair; session = 0; length = 0; count = 0 }

-- the number and the receiver, and what an Ok or an Err stands for
pub record ReceiverMade : Type 0 where
  pub refusal : ℕ
  pub receiver : Receiver

abbrev pub made : Receiver → ℕ → ReceiverMade
made r number = record { refusal = number; receiver = r }

abbrev pub made_in : Result Receiver Refusal → ReceiverMade
made_in (Ok r) = made r accepted
made_in (Err refusal) = made (fresh_receiver no_key no_pair) (number_of refusal)

unfoldable pub making_receiver : List ℕ → List ℕ → ReceiverMade
making_receiver key pair =
    settled (name_faults key pair) (made (fresh_receiver key pair) accepted) (made (fresh_receiver no_key no_pair))

-- ---- hearing: Opening and Block are the frames for this end

abbrev pub for_receiver : Heard → Bool
for_receiver no_frame = false
for_receiver (it (opening session sound)) = true
for_receiver (it (block session k run)) = true
for_receiver (it (holds session held)) = false
for_receiver (it (too_long session)) = false

-- room for any answer
abbrev pub answer_room : ℕ
answer_room = 7

-- `sound` is how many bytes the buffer for the sound has
abbrev pub content_faults : Receiver → ℕ → Heard → List Fault
content_faults r sound no_frame = []
content_faults r sound (it (opening session long)) =
    (session under r.session says other_session)
    ∷ (long unlike r.length given session is r.session says other_length)
    ∷ []
content_faults r sound (it (block session k run)) =
    (session unlike r.session says other_session)
    ∷ (k + 1 over blocks r.length says impossible)
    ∷ (length run unlike size r.length k says impossible)
    ∷ (r.length over sound says wrong_sound)
    ∷ []
content_faults r sound (it (holds session held)) = []
content_faults r sound (it (too_long session)) = []

-- what speaks against the frame, whatever room there is for the answer
abbrev pub frame_faults : Receiver → ℕ → Heard → List Fault
frame_faults r sound h = (unless (for_receiver h) says not_a_frame) ∷ content_faults r sound h

abbrev pub room_faults : ℕ → List Fault
room_faults reply = (reply under answer_room says no_room) ∷ []

abbrev pub receive_faults : Receiver → ℕ → ℕ → Heard → List Fault
receive_faults r sound reply h =
    (unless (receiver_in_rule r) says out_of_rule) ∷ (frame_faults r sound h ++ room_faults reply)

-- the same receiver with this transfer: session, length, blocks held
abbrev pub taking : Receiver → ℕ → ℕ → ℕ → Receiver
taking r session long count = record { key = r.key; pair = r.pair; session = session; length = long; count = count }

-- what a frame brings about: the record and the sound afterwards, and the answer
pub record Effect : Type 0 where
  pub next : Receiver
  pub sound : List ℕ
  pub answer : Frame

abbrev pub effect : Receiver → List ℕ → Frame → Effect
effect next sound answer = record { next = next; sound = sound; answer = answer }

-- nothing changes, and the count held is the answer
abbrev pub still_held : Receiver → List ℕ → Effect
still_held r sound = effect r sound (holds r.session r.count)

-- an opening of its own session is a repeat; one above it is taken if the buffer is long enough
abbrev pub on_opening : Receiver → List ℕ → ℕ → ℕ → Effect
on_opening r sound session long =
    cond (eqb session r.session) (still_held r sound)
    (cond (ltb (length sound) long) (effect r sound (too_long session))
    (effect (taking r session long 0) sound (holds session 0)))

-- the block in turn goes to its place, and the count grows by one; any other changes nothing
abbrev pub on_block : Cipher → Receiver → List ℕ → ℕ → List ℕ → Effect
on_block cipher r sound k run =
    cond (eqb k r.count)
    (effect (taking r r.session r.length (k + 1))
    (placed sound (place k) (covered cipher r.key r.pair r.session k run))
    (holds r.session (k + 1)))
    (still_held r sound)

abbrev pub on_frame : Cipher → Receiver → List ℕ → Heard → Effect
on_frame cipher r sound no_frame = still_held r sound
on_frame cipher r sound (it (opening session long)) = on_opening r sound session long
on_frame cipher r sound (it (block session k run)) = on_block cipher r sound k run
on_frame cipher r sound (it (holds session held)) = still_held r sound
on_frame cipher r sound (it (too_long session)) = still_held r sound

-- the answer of a hearing: the number, the length of the frame that was written, and the receiver afterwards
pub record ReceiverAnswer : Type 0 where
  pub refusal : ℕ
  pub length : ℕ
  pub receiver : Receiver

abbrev pub answered : Receiver → ℕ → Answered
answered next length = record { length = length; receiver = next }

-- what an Ok or an Err stands for: a refused hearing leaves the receiver as given
abbrev pub answer_in : Receiver → Result Answered Refusal → ReceiverAnswer
answer_in r (Ok a) = record { refusal = accepted; length = a.length; receiver = a.receiver }
answer_in r (Err refusal) = record { refusal = number_of refusal; length = 0; receiver = r }

-- what hearing comes to: the answer, and what the two buffers hold afterwards
pub record Received : Type 0 where
  pub answer : ReceiverAnswer
  pub sound : List ℕ
  pub reply : List ℕ

abbrev pub received : ReceiverAnswer → List ℕ → List ℕ → Received
received answer sound reply = record { answer = answer; sound = sound; reply = reply }

unfoldable pub receiving : Cipher → Receiver → List ℕ → List ℕ → List ℕ → Received
receiving cipher r sound reply frame =
    let h = heard frame in
    let e = on_frame cipher r sound h in
    settled (receive_faults r (length sound) (length reply) h)
    (received (record { refusal = accepted; length = length (bytes e.answer); receiver = e.next })
    e.sound (placed reply 0 (bytes e.answer)))
    (λ number. received (record { refusal = number; length = 0; receiver = r }) sound reply)
