-- Steps that each take a bit from outside: how a cipher moves its registers, and what it puts out.
use Rattle.std.specs.Prelude.{ℕ, List, [], ◌∷◌}
use Rattle.shift_registers.specs.Registers.{State}

-- the bit that a step puts out, read before it, and the state that it leaves
pub record Mover : Type 0 where
  pub out : State → ℕ
  pub next : ℕ → State → State

-- a step for each of these bits
unfoldable pub steps_by : Mover → List ℕ → State → State
steps_by m [] s = s
steps_by m (bit ∷ more) s = steps_by m more (m.next bit s)

-- and what they put out
unfoldable pub bits_by : Mover → List ℕ → State → List ℕ
bits_by m [] s = []
bits_by m (bit ∷ more) s = m.out s ∷ bits_by m more (m.next bit s)
