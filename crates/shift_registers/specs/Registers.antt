-- Shift registers as whole numbers, whatever cipher they belong to.
use Rattle.std.specs.Prelude.{ℕ, ◌+◌, ◌-◌, ◌*◌, ◌/◌, ◌%◌, ◌^◌}

-- Three registers. One of w bits is a number below 2 ^ w: its newest bit, x(i-1), is the number's lowest, and its
-- oldest, x(i-w), the highest.
pub record State : Type 0 where
  pub a : ℕ
  pub b : ℕ
  pub c : ℕ

infixl 90 ◌⟨i-◌⟩
-- x(i-k)
abbrev pub ◌⟨i-◌⟩ : ℕ → ℕ → ℕ
x ⟨i- k ⟩ = x / 2 ^ (k - 1) % 2

-- the new bit comes in, and the oldest of the w bits goes
abbrev pub moved : ℕ → ℕ → ℕ → ℕ
moved w x new = (2 * x + new) % 2 ^ w
