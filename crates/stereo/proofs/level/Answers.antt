-- `stereo::level` meets its contract: zero by computing, any other sample by `divided`.
use Rattle.std.proofs.Common.{arith, ◌≡◌, zero, suc, ◌<◌, ◌≤◌, refl, ℤ, pos, negsuc}
use Rattle.std.proofs.lemmas.Int.{to_z-of_z}
use Rattle.std.specs.Int.{w16}
use mathlib.Core.Logic.{◌⊎◌, inl, inr}
use lib.{IntN.nat_abs, Signed.mag}
use lib.Ieee.{of_int, of_bits, of_fields, div, neg, sub}
use Rattle.stereo.specs.Levels.{level_of, exponent_of, fraction_of}
use Rattle.stereo.proofs.Levels.{divided}
use Rattle.stereo.proofs.level.Goals as goal

zero_or_more : (z : ℤ) → (z ≡ pos 0) ⊎ (0 < nat_abs z)
zero_or_more (pos zero) = inl refl
zero_or_more (pos (suc n)) = inr (omega arith)
zero_or_more (negsuc n) = inr (omega arith)

in_range : (z : ℤ) → mag z < 32768 → nat_abs z ≤ 32768
in_range (pos n) h = omega arith
in_range (negsuc n) h = omega arith

-- zero is computed, with all that may turn its sign: must-fail/negative_zero.edit has `neg` and `sub`
pub returns : goal.returns
returns c =
    let z : ℤ = c.args.sample in
    elim (zero_or_more z) [
      | inl e ↦ rw e (unfold level_of exponent_of fraction_of of_fields of_int of_bits div neg sub in refl)
      | inr h ↦
          rw (to_z-of_z w16 z c.ranges.sample)
          (divided z _ h (in_range z c.ranges.sample.sfits) (omega arith))
    ]
