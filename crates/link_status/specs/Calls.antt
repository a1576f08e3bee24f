-- What the records of both link ends say of their transfer, as five numbers each, in the header's order.
use Rattle.std.specs.Prelude.{ℕ}
use mathlib.Core.{Bool.Bool, Bool.cond, Bool.◌&&◌, List.List, List.[], List.◌∷◌}
use lib.{Dec.eqb, ListN.length, ListN.get_or}
use Rattle.octets.specs.Buffers.{placed}
use Rattle.refusals.specs.{Numbers.accepted, Numbers.no_room, Numbers.out_of_rule, Outcome.Outcome, Outcome.outcome}
use Rattle.refusals.specs.Rules.{◌under◌, unless, Fault, ◌says◌, settled}
use Rattle.blocks.specs.Blocks.{blocks}
use Rattle.frames.specs.Frames.{some}
use Rattle.sender.specs.{Rules.sender_in_rule, declared.Phase.Phase, declared.Sender.Sender}
use Rattle.sender.specs.declared.Phase.TheVariants.{Idle, Opening, Sending, Done, Refused}
use Rattle.receiver.specs.{Rules.receiver_in_rule, declared.Receiver.Receiver}
use Rattle.sender_record.specs.Record.{phase_numbers, sender_in}
use Rattle.receiver_bytes.specs.Record.{receiver_in}

-- how many of a sound's blocks are known to be held in a phase: once done, all of them
abbrev pub known_in : ℕ → Phase → ℕ
known_in all Idle = 0
known_in all Opening = 0
known_in all (Sending known) = known
known_in all Done = all
known_in all (Refused why) = 0

-- phase, session, length, blocks known to be held, blocks
abbrev pub sender_numbers : Sender → List ℕ
sender_numbers s =
    let all = blocks s.length in
    get_or (phase_numbers s.phase) 0 0 ∷ s.session ∷ s.length ∷ known_in all s.phase ∷ all ∷ []

-- there is a session, and the whole of its sound is held
abbrev pub is_whole : Receiver → Bool
is_whole r = some r.session && eqb r.count (blocks r.length)

-- session, length, blocks held, blocks, and 1 if the sound is whole
abbrev pub receiver_numbers : Receiver → List ℕ
receiver_numbers r = r.session ∷ r.length ∷ r.count ∷ blocks r.length ∷ cond (is_whole r) 1 0 ∷ []

abbrev pub status_room : ℕ
status_room = 5

abbrev pub status_faults : Bool → ℕ → List Fault
status_faults is_in_rule room = (unless is_in_rule says out_of_rule) ∷ (room under status_room says no_room) ∷ []

-- what telling comes to
abbrev pub telling : Bool → List ℕ → List ℕ → Outcome ℕ ℕ
telling is_in_rule numbers answer =
    settled (status_faults is_in_rule (length answer))
    (outcome accepted (placed answer 0 numbers))
    (λ number. outcome number answer)

unfoldable pub sender_status : List ℕ → List ℕ → Outcome ℕ ℕ
sender_status sender answer = let s = sender_in sender in telling (sender_in_rule s) (sender_numbers s) answer

unfoldable pub receiver_status : List ℕ → List ℕ → Outcome ℕ ℕ
receiver_status receiver answer = let r = receiver_in receiver in telling (receiver_in_rule r) (receiver_numbers r) answer
