-- Parts of runs, by going along the list. Neighbours that are read one by one are a part.
use mathlib.Core.{Path.◌≡◌, Path.refl, Path.sym, Path.ap, Path.◌∙◌, List.List, List.[], List.◌∷◌, List.◌++◌}
use Prim.Native.Nat.{ℕ, zero, suc, ◌+◌, ◌-◌, ◌<◌, ◌≤◌, min}
use native.Mathlib.{Nat.zero-min, Nat.min-zero, Nat.suc-min-suc, Numerals.add-one, Omega.arith}
use lib.ListN.{length, get_or, take, drop, length-drop, take-append-drop}
use lib.Seq.{take_all, take-add, drop_at, drop-cons, drop-drop, length-take-le, take-append-le, drop-append-le}
use Rattle.octets.specs.Buffers.{slice}

module _ {A : Type 0} where
  take_min : (n : ℕ) (l : List A) → take (min n (length l)) l ≡ take n l
  take_min zero l = ap (λ (k : ℕ). take k l) (zero-min (length l))
  take_min (suc n) [] = ap (λ (k : ℕ). take k []) (min-zero (suc n))
  take_min (suc n) (x ∷ l) =
      ap (λ (k : ℕ). take k (x ∷ l)) (suc-min-suc n (length l)) ∙ ap (λ (r : List A). x ∷ r) (take_min n l)

  -- as many of n elements from `at` as are there
  pub take_there : (s : List A) (at n count : ℕ) → count ≡ min n (length s - at) → slice s at count ≡ slice s at n
  take_there s at n count e = ap (slice s at) (e ∙ ap (min n) (sym (length-drop at s))) ∙ take_min n (drop at s)

  -- a part that is all there
  pub length_slice : (s : List A) (at n : ℕ) → at + n ≤ length s → length (slice s at n) ≡ n
  length_slice s at n h = length-take-le n (drop at s) (simp length-drop (omega arith))

  -- a part of the first of two runs, and the second of them as a part
  pub slice_front : (xs ys : List A) (at n : ℕ) → at + n ≤ length xs → slice (xs ++ ys) at n ≡ slice xs at n
  slice_front xs ys at n h =
      ap (take n) (drop-append-le at xs ys (omega arith))
      ∙ take-append-le n (drop at xs) ys (simp length-drop (omega arith))

  pub slice_behind : (xs ys : List A) (at n : ℕ) → length xs ≡ at → length ys ≡ n → slice (xs ++ ys) at n ≡ ys
  slice_behind xs ys at n e f = ap (take n) (drop_at xs ys at e) ∙ take_all n ys (omega arith)

  -- a part and the part behind it
  pub slice_add : (s : List A) (at m n : ℕ) → slice s at (m + n) ≡ slice s at m ++ slice s (at + m) n
  slice_add s at m n = take-add m n (drop at s) ∙ ap (λ (l : List A). slice s at m ++ take n l) (drop-drop m at s)

  -- a part and all the rest
  pub slice_rest : (s : List A) (at n : ℕ) → slice s at n ++ drop (at + n) s ≡ drop at s
  slice_rest s at n = ap (λ (l : List A). slice s at n ++ l) (sym (drop-drop n at s)) ∙ take-append-drop n (drop at s)

  -- an element and all the rest
  pub element_rest : (s : List A) (at : ℕ) (z : A) → at < length s → get_or s at z ∷ drop (at + 1) s ≡ drop at s
  element_rest s at z h = ap (λ (n : ℕ). get_or s at z ∷ drop n s) (add-one at) ∙ sym (drop-cons s at z h)

  -- ---- neighbours, one by one

  -- n elements from at + k on, as straight-line code reads them
  abbrev pub neighbours : List A → ℕ → ℕ → ℕ → A → List A
  neighbours s at k zero z = []
  neighbours s at k (suc n) z = get_or s (at + k) z ∷ neighbours s at (suc k) n z

  element_there : (s : List A) (at n : ℕ) (z : A) → at < length s
      → slice s at (suc n) ≡ get_or s at z ∷ slice s (suc at) n
  element_there s at n z h = ap (take (suc n)) (drop-cons s at z h)

  neighbours_read : (s : List A) (at k n : ℕ) (z : A) → at + k + n ≤ length s
      → neighbours s at k n z ≡ slice s (at + k) n
  neighbours_read s at k zero z h = refl
  neighbours_read s at k (suc n) z h =
      ap (λ (l : List A). get_or s (at + k) z ∷ l)
      (neighbours_read s at (suc k) n z (omega arith) ∙ ap (λ (p : ℕ). slice s p n) next)
      ∙ sym (element_there s (at + k) n z (omega arith))
    where
      next : at + suc k ≡ suc (at + k)
      next = omega arith

  pub slice_read : (s : List A) (at n : ℕ) (z : A) → at + suc n ≤ length s
      → get_or s at z ∷ neighbours s at 1 n z ≡ slice s at (suc n)
  slice_read s at n z h =
      ap (λ (l : List A). get_or s at z ∷ l) (neighbours_read s at 1 n z (omega arith) ∙ ap (λ (p : ℕ). slice s p n) next)
      ∙ sym (element_there s at n z (omega arith))
    where
      next : at + 1 ≡ suc at
      next = omega arith
