-- Steps by a list of bits: every law is an induction over the bits, for any way to move.
use mathlib.Core.Path.{◌≡◌, refl, sym, ap, ap₂, subst, ◌∙◌}
use mathlib.Core.List.{List, [], ◌∷◌, ◌++◌}
use Prim.Native.Nat.{ℕ, zero, suc, ◌+◌, ◌*◌, ◌/◌, ◌%◌, ◌^◌, ◌<◌}
use native.Mathlib.{Nat.mod-lt, Omega.arith}
use lib.{ListN.length, Pow.pow_pos, Pow.shr-shr}
use Rattle.octets.specs.Digits.{number, digits}
use Rattle.octets.proofs.Numbers.{Below, number_append, number_below}
use Rattle.shift_registers.specs.{Registers.State, Steps.Mover, Steps.steps_by, Steps.bits_by}

-- one more digit at the end
pub digits_snoc : (n x : ℕ) → digits 2 (suc n) x ≡ digits 2 n (x / 2) ++ (x % 2 ∷ [])
unfolding digits
digits_snoc zero x = ap (λ (v : ℕ). v % 2 ∷ []) (omega arith)
digits_snoc (suc n) x =
    ap₂ (λ (v : ℕ) (l : List ℕ). v % 2 ∷ l) (half x n) (digits_snoc n x)
  where
    half : (x n : ℕ) → x / 2 ^ suc n ≡ x / 2 / 2 ^ n
    half x n = ap (λ (e : ℕ). x / 2 ^ e) (omega arith) ∙ sym (shr-shr x 1 n)

module _ (m : Mover) where
  pub steps_append : (xs ys : List ℕ) (s : State) → steps_by m (xs ++ ys) s ≡ steps_by m ys (steps_by m xs s)
  unfolding steps_by
  steps_append [] ys s = refl
  steps_append (x ∷ xs) ys s = steps_append xs ys (m.next x s)

  pub steps_snoc : (xs : List ℕ) (x : ℕ) (s : State) → steps_by m (xs ++ (x ∷ [])) s ≡ m.next x (steps_by m xs s)
  unfolding steps_by
  steps_snoc xs x s = steps_append xs (x ∷ []) s

  -- ---- the bits put out

  pub bits_append : (xs ys : List ℕ) (s : State)
      → bits_by m (xs ++ ys) s ≡ bits_by m xs s ++ bits_by m ys (steps_by m xs s)
  unfolding bits_by steps_by
  bits_append [] ys s = refl
  bits_append (x ∷ xs) ys s = ap (λ (l : List ℕ). m.out s ∷ l) (bits_append xs ys (m.next x s))

  pub length_by : (xs : List ℕ) (s : State) → length (bits_by m xs s) ≡ length xs
  unfolding bits_by
  length_by [] s = refl
  length_by (x ∷ xs) s = ap suc (length_by xs (m.next x s))

  -- some bits and then others, as numbers
  pub number_by : (xs ys : List ℕ) (s : State)
      → number 2 (bits_by m (xs ++ ys) s)
      ≡ number 2 (bits_by m xs s) * 2 ^ length ys + number 2 (bits_by m ys (steps_by m xs s))
  number_by xs ys s =
      let there : State = steps_by m xs s in
      ap (number 2) (bits_append xs ys s)
      ∙ number_append 2 (bits_by m xs s) (bits_by m ys there)
      ∙ ap (λ (k : ℕ). number 2 (bits_by m xs s) * 2 ^ k + number 2 (bits_by m ys there)) (length_by ys there)

  -- what comes out are bits
  module _ (two : (s : State) → m.out s < 2) where
    pub below_by : (xs : List ℕ) (s : State) → Below 2 (bits_by m xs s)
    unfolding bits_by
    below_by [] s i = omega arith
    below_by (x ∷ xs) s zero = two s
    below_by (x ∷ xs) s (suc i) = below_by xs (m.next x s) i

    pub small_by : (xs : List ℕ) (s : State) → number 2 (bits_by m xs s) < 2 ^ length xs
    small_by xs s =
        subst (λ (k : ℕ). number 2 (bits_by m xs s) < 2 ^ k) (length_by xs s)
        (number_below 2 (bits_by m xs s) (below_by xs s))

-- ---- states whose registers fit their widths

pub record Held (u v w : ℕ) (s : State) : Type 0 where
  pub a : s.a < 2 ^ u
  pub b : s.b < 2 ^ v
  pub c : s.c < 2 ^ w

pub held_cut : (u v w x y z : ℕ) → Held u v w (record { a = x % 2 ^ u; b = y % 2 ^ v; c = z % 2 ^ w })
held_cut u v w x y z = record { a = mod-lt x (pow_pos u); b = mod-lt y (pow_pos v); c = mod-lt z (pow_pos w) }

-- where a step cuts each register to its width, a first one does, and more keep them so
module _ (m : Mover) (u v w : ℕ) (cuts : (x : ℕ) (s : State) → Held u v w (m.next x s)) where
  pub held_first : (x : ℕ) (xs : List ℕ) (s : State) → Held u v w (steps_by m (x ∷ xs) s)
  unfolding steps_by
  held_first x [] s = cuts x s
  held_first x (y ∷ xs) s = held_first y xs (m.next x s)

  pub held_by : (xs : List ℕ) (s : State) → Held u v w s → Held u v w (steps_by m xs s)
  unfolding steps_by
  held_by [] s h = h
  held_by (x ∷ xs) s h = held_first x xs s
