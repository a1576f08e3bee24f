-- Samples in rule: each that is passed had an opposite, so the whole is as good as what is left.
use Prim.Native.Nat.{ℕ, zero, suc, ◌+◌, ◌<◌, ◌≤◌}
use mathlib.Core.Bool.{Bool, true, false, ◌&&◌}
use mathlib.Core.List.{List, [], ◌∷◌}
use mathlib.Core.Path.{◌≡◌, refl, sym, ap, ap₂, ◌∙◌}
use native.Mathlib.Omega.{arith}
use borrow.Author.Tests.{leb-true, le-leb, lt-leb}
use lib.{Dec.leb, IntN.ℤ, IntN.pos, IntN.nat_abs, ListN.length, ListN.get_or, ListN.drop, Seq.drop-length}
use Rattle.octets.proofs.Slices.{element_rest}
use Rattle.refusals.proofs.Tests.{and_first, and_second}
use Rattle.samples.proofs.Words.{AllGood}
use Rattle.pack.specs.{Layout.samples_good, Limits.highest_sample}

pub good_all : (zs : List ℤ) → samples_good zs ≡ true → AllGood zs
unfolding samples_good
good_all [] e i = omega arith
good_all (z ∷ zs) e zero =
    leb-true (nat_abs z) highest_sample (and_first (leb (nat_abs z) highest_sample) (samples_good zs) e)
good_all (z ∷ zs) e (suc i) = good_all zs (and_second (leb (nat_abs z) highest_sample) (samples_good zs) e) i

pub all_good : (zs : List ℤ) → AllGood zs → samples_good zs ≡ true
unfolding samples_good
all_good [] good = refl
all_good (z ∷ zs) good =
    ap₂ (λ (a b : Bool). a && b) (le-leb (nat_abs z) highest_sample (good 0)) (all_good zs (λ i. good (suc i)))

-- ---- sample number i of a run

module _ (zs : List ℤ) (i : ℕ) where
  abbrev left : ℕ → Bool
  left n = samples_good (drop n zs)

  pub no_sample_left : i ≡ length zs → left i ≡ true
  unfolding samples_good
  no_sample_left e = ap left e ∙ ap samples_good (drop-length zs)

  module _ (there : i < length zs) {z : ℤ} (is : z ≡ get_or zs i (pos 0)) where
    next_sample : drop i zs ≡ z ∷ drop (i + 1) zs
    next_sample = sym (element_rest zs i (pos 0) there) ∙ ap (λ (y : ℤ). y ∷ drop (i + 1) zs) (sym is)

    pub bad_sample : highest_sample < nat_abs z → left i ≡ false
    unfolding samples_good
    bad_sample h = ap samples_good next_sample ∙ rw (lt-leb (nat_abs z) highest_sample h)

    pub good_sample : nat_abs z ≤ highest_sample → left i ≡ left (i + 1)
    unfolding samples_good
    good_sample h = ap samples_good next_sample ∙ rw (le-leb (nat_abs z) highest_sample h)
