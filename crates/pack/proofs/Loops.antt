-- Loops in rule: each two numbers of a run are a loop, so what is passed was in rule and the whole is as good as what
-- is left.
use Prim.Native.Nat.{ℕ, zero, suc, ◌+◌, ◌*◌, ◌/◌, ◌<◌, ◌≤◌}
use mathlib.Core.Bool.{Bool, true, false, ◌&&◌}
use mathlib.Core.List.{List, [], ◌∷◌}
use mathlib.Core.Path.{◌≡◌, refl, sym, ap, ◌∙◌}
use native.Mathlib.Omega.{arith}
use borrow.Author.Tests.{ltb-true, leb-true, lt-ltb, le-ltb, le-leb, lt-leb}
use lib.{Dec.leb, Dec.ltb, ListN.length, ListN.get_or, ListN.drop, Seq.drop-length}
use Rattle.octets.proofs.{Numbers.Below, Slices.element_rest}
use Rattle.pack.specs.Layout.{loops_good}

both_true : (a b : Bool) → (a && b) ≡ true → (a ≡ true) × (b ≡ true)
both_true true b e = (refl, e)
both_true false b e = let z : ◌≡◌ {A = ℕ} 0 1 = cc in absurd (omega arith)

-- each start and end is at most the sample count
pub loops_small : (count bound : ℕ) (loops : List ℕ) → count < bound → loops_good count loops ≡ true → Below bound loops
unfolding loops_good
loops_small count bound [] h e i = omega arith
loops_small count bound (start ∷ []) h e i = let z : ◌≡◌ {A = ℕ} 0 1 = cc in absurd (omega arith)
loops_small count bound (start ∷ end ∷ loops) h e i =
    let outer = both_true (ltb start end && leb end count) (loops_good count loops) e in
    let inner = both_true (ltb start end) (leb end count) outer.0 in
    go (ltb-true start end inner.0) (leb-true end count inner.1) (loops_small count bound loops h outer.1) i
  where
    go : start < end → end ≤ count → Below bound loops → Below bound (start ∷ end ∷ loops)
    go s l b zero = omega arith
    go s l b (suc zero) = omega arith
    go s l b (suc (suc j)) = b j

-- every start has its end
pub loops_even : (count : ℕ) (loops : List ℕ) → loops_good count loops ≡ true → length loops ≡ 2 * (length loops / 2)
unfolding loops_good
loops_even count [] e = refl
loops_even count (start ∷ []) e = let z : ◌≡◌ {A = ℕ} 0 1 = cc in absurd (omega arith)
loops_even count (start ∷ end ∷ loops) e =
    more (length loops)
    (loops_even count loops (both_true (ltb start end && leb end count) (loops_good count loops) e).1)
  where
    more : (n : ℕ) → n ≡ 2 * (n / 2) → suc (suc n) ≡ 2 * (suc (suc n) / 2)
    more n h = omega arith

-- ---- loop number i of a run

module _ (samples : ℕ) (loops : List ℕ) (i : ℕ) where
  abbrev left : ℕ → Bool
  left n = loops_good samples (drop (2 * n) loops)

  pub none_left : 2 * i ≡ length loops → left i ≡ true
  unfolding loops_good
  none_left e = ap (λ (n : ℕ). loops_good samples (drop n loops)) e ∙ ap (loops_good samples) (drop-length loops)

  module _ (there : 2 * i + 1 < length loops) {start end : ℕ} (s : start ≡ get_or loops (2 * i) 0)
      (e : end ≡ get_or loops (2 * i + 1) 0) where
    next_loop : drop (2 * i) loops ≡ start ∷ end ∷ drop (2 * (i + 1)) loops
    next_loop =
        sym (element_rest loops (2 * i) 0 (omega arith))
        ∙ ap (λ (l : List ℕ). get_or loops (2 * i) 0 ∷ l) (sym (element_rest loops (2 * i + 1) 0 there))
        ∙ (λ j. sym s j ∷ sym e j ∷ drop (two j) loops)
      where
        two : 2 * i + 1 + 1 ≡ 2 * (i + 1)
        two = omega arith

    pub bad_start : end ≤ start → left i ≡ false
    unfolding loops_good
    bad_start h = ap (loops_good samples) next_loop ∙ rw (le-ltb start end h)

    pub bad_end : start < end → samples < end → left i ≡ false
    unfolding loops_good
    bad_end h k = ap (loops_good samples) next_loop ∙ rw (lt-ltb start end h, lt-leb end samples k)

    pub good_loop : start < end → end ≤ samples → left i ≡ left (i + 1)
    unfolding loops_good
    good_loop h k = ap (loops_good samples) next_loop ∙ rw (lt-ltb start end h, le-leb end samples k)
