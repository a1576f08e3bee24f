-- The sender's calls on a record that the caller keeps as bytes: the number, and what everything lent holds afterwards.
use Rattle.std.specs.Prelude.{ℕ, List, length}
use Rattle.octets.specs.Buffers.{placed}
use Rattle.refusals.specs.{Numbers.accepted, Outcome.Outcome, Outcome.outcome, Rules.settled}
use Rattle.trivium.specs.Keystream.{trivium}
use Rattle.names.specs.Naming.{name_faults}
use Rattle.frames.specs.Frames.{heard}
use Rattle.sender.specs.Sender.{fresh_sender, begin_faults, begun, due_in, send_faults, hear_faults, informed}
use Rattle.record_bytes.specs.{Making.made_of, Written.Written, Written.wrote}
use Rattle.sender_record.specs.Record.{sender_size, sender_bytes, sender_in}

unfoldable pub sender_make : List ℕ → List ℕ → List ℕ → Outcome ℕ ℕ
sender_make buffer key pair = made_of (name_faults key pair) sender_size (sender_bytes (fresh_sender key pair)) buffer

unfoldable pub sender_begin : List ℕ → List ℕ → Outcome ℕ ℕ
sender_begin sender sound =
    let s = sender_in sender in
    settled (begin_faults s sound)
    (outcome accepted (sender_bytes (begun s sound)))
    (λ number. outcome number sender)

-- `before` is what the count held
unfoldable pub sender_send : List ℕ → List ℕ → List ℕ → ℕ → Written
sender_send sender sound frame before =
    let s = sender_in sender in
    let due = due_in trivium s sound s.phase in
    settled (send_faults s sound (length due) (length frame))
    (wrote (placed frame 0 due) (length due) accepted)
    (wrote frame before)

unfoldable pub sender_hear : List ℕ → List ℕ → Outcome ℕ ℕ
sender_hear sender frame =
    let s = sender_in sender in
    let h = heard frame in
    settled (hear_faults s h)
    (outcome accepted (sender_bytes (informed s h)))
    (λ number. outcome number sender)
