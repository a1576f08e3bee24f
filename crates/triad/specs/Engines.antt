-- The plain engine, one bit a step, many times over on the record itself.
use Rattle.std.specs.Prelude.{ℕ, List, [], ◌∷◌}
use Rattle.triad.specs.{Calls.stepping, declared.Registers.Registers}

-- a step for each of these bits of a message
unfoldable pub plainly : List ℕ → Registers → Registers
plainly [] r = r
plainly (bit ∷ message) r = plainly message (stepping r bit).next

unfoldable pub plain_bits : List ℕ → Registers → List ℕ
plain_bits [] r = []
plain_bits (bit ∷ message) r = (stepping r bit).bit ∷ plain_bits message (stepping r bit).next
