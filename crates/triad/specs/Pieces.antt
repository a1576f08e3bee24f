-- What a tag is over, taken in by any number of pieces one behind the other.
use Rattle.std.specs.Prelude.{ℕ, List, [], ◌∷◌, ◌++◌, length}
use Rattle.triad.specs.{Calls.absorbing, Calls.absorbing_under, Calls.skipping, declared.Registers.Registers}

-- the run that the pieces make
unfoldable pub together : List (List ℕ) → List ℕ
together [] = []
together (piece ∷ more) = piece ++ together more

unfoldable pub absorbing_all : Registers → List (List ℕ) → Registers
absorbing_all r [] = r
absorbing_all r (piece ∷ more) = absorbing_all (absorbing r piece) more

-- pieces that are lent enciphered, the cipher moved on by each
unfoldable pub absorbing_all_under : Registers → Registers → List (List ℕ) → Registers
absorbing_all_under r cipher [] = r
absorbing_all_under r cipher (piece ∷ more) =
    absorbing_all_under (absorbing_under r cipher piece) (skipping cipher (length piece)) more
