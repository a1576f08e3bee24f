-- The plain engine, one bit a step, many times over on the record itself.
use Rattle.std.specs.Prelude.{ℕ, zero, suc, List, [], ◌∷◌}
use Rattle.trivium.specs.{Calls.stepping, declared.Registers.Registers}

unfoldable pub plainly : ℕ → Registers → Registers
plainly zero r = r
plainly (suc n) r = plainly n (stepping r).next

unfoldable pub plain_bits : ℕ → Registers → List ℕ
plain_bits zero r = []
plain_bits (suc n) r = (stepping r).bit ∷ plain_bits n (stepping r).next
