-- Making a record that the caller keeps as bytes: the maker's own rules, and then room for the record at the buffer's
-- front.
use Rattle.std.specs.Prelude.{ℕ, List, [], ◌∷◌, ◌++◌, length}
use Rattle.octets.specs.Buffers.{placed}
use Rattle.refusals.specs.{Numbers.accepted, Numbers.no_room, Outcome.Outcome, Outcome.outcome}
use Rattle.refusals.specs.Rules.{◌under◌, Fault, ◌says◌, settled}

-- the number, and what the buffer holds afterwards, for a record of this size with these bytes
abbrev pub made_of : List Fault → ℕ → List ℕ → List ℕ → Outcome ℕ ℕ
made_of faults size bytes buffer =
    settled (faults ++ ((length buffer under size says no_room) ∷ []))
    (outcome accepted (placed buffer 0 bytes))
    (λ number. outcome number buffer)
