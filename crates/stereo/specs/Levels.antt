-- A sample as a float: exactly the sample divided by 32,768, by sign, exponent and fraction.
use Rattle.std.specs.Prelude.{ℕ, zero, suc, ◌+◌, ◌-◌, ◌*◌, ◌/◌, ◌^◌, ◌<◌, ◌≤◌, ℤ, pos, negsuc, neg_ℤ, nat_abs, Float}
use mathlib.Core.{Bool.Bool, Bool.true, Bool.false, Bool.cond, Path.◌≡◌}
use Rattle.std.specs.Float.{nan, inf, fin, binary32}
use Rattle.std.specs.Float.Ieee.{of_fields, size, up, down}

abbrev pub negative : ℤ → Bool
negative (pos n) = false
negative (negsuc n) = true

-- the place of the highest one among a number's binary digits, the lowest place being 0
abbrev pub highest_one : ℕ → ℕ
highest_one n = size n - 1

-- the two fields of a sample's magnitude; those of zero are 0
unfoldable pub exponent_of : ℕ → ℕ
exponent_of zero = 0
exponent_of (suc m) = 112 + highest_one (suc m)

unfoldable pub fraction_of : ℕ → ℕ
fraction_of zero = 0
fraction_of (suc m) = suc m * 2 ^ (23 - highest_one (suc m)) - 2 ^ 23

-- For the reader: where the highest one stands, and what the two fields come to. With the digit that a float doesn't
-- write, the fraction, moved up by the exponent, is the magnitude, moved up by 23 places; and both fit their fields.
pub record Exactly (n : ℕ) : Type 0 where
  pub above : 2 ^ highest_one n ≤ n
  pub below : n < 2 ^ (highest_one n + 1)
  pub value : (2 ^ 23 + fraction_of n) * 2 ^ (exponent_of n - 112) ≡ n * 2 ^ 23
  pub fraction : fraction_of n < 2 ^ 23
  pub exponent : exponent_of n ≤ 127

abbrev pub FieldsExact : Type 0
FieldsExact = (n : ℕ) → 0 < n → n ≤ 32768 → Exactly n

-- the float of 32 bits that a sample is; zero is positive zero
unfoldable pub level_of : ℤ → Float
level_of z = of_fields binary32 (negative z) (exponent_of (nat_abs z)) (fraction_of (nat_abs z))

-- The way back: a float's number m * 2 ^ e, times 32,768, with its sign.
abbrev pub with_sign : Bool → ℕ → ℤ
with_sign s n = cond s (neg_ℤ (pos n)) (pos n)

unfoldable pub sample_at : Float → ℤ
sample_at nan = pos 0
sample_at (inf s) = pos 0
sample_at (fin s m e) = with_sign s (m * up e * 32768 / down e)

abbrev pub SampleBack : Type 0
SampleBack = (z : ℤ) → nat_abs z ≤ 32768 → sample_at (level_of z) ≡ z
