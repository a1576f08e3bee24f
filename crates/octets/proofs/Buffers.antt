-- Runs placed in a buffer: what stands before and behind a run stays, so runs placed one after the other are one run
-- placed. A loop that writes element after element, and stores in straight line, come to the same.
use mathlib.Core.Path.{◌≡◌, refl, sym, ap, ap₂, ◌∙◌}
use mathlib.Core.Bool.{Bool, true, false, cond}
use mathlib.Core.List.{List, [], ◌∷◌, ◌++◌, append_assoc, append-nil}
use Prim.Native.Nat.{ℕ, suc, ◌+◌, ◌-◌, ◌<◌, ◌≤◌}
use native.Mathlib.{Nat.zero-add, Nat.add_assoc, Numerals.add-one, Omega.arith}
use borrow.Author.Tests.{le-leb, lt-leb, leb-true}
use lib.Dec.{leb}
use lib.ListN.{length, get_or, set, take, drop, length-append, length-take, length-drop, drop_of_length-le}
use lib.Seq.{drop-length, drop-cons, take_at, drop_at, get_or_at, drop-drop, take_all, sets, sets-eq, paste, paste-zero}
use lib.Seq.{paste-suc}
use Rattle.octets.specs.Buffers.{slice, placed, put}

module _ {A : Type 0} where
  -- ---- with room and without

  pub put_placed : (d : List A) (at : ℕ) (run : List A) → at + length run ≤ length d → put d at run ≡ placed d at run
  unfolding put
  put_placed d at run room = rw (le-leb (at + length run) (length d) room)

  pub put_none : (d : List A) (at : ℕ) (run : List A) → length d < at + length run → d ≡ put d at run
  unfolding put
  put_none d at run short = rw (lt-leb (at + length run) (length d) short)

  -- a run that fills its buffer
  pub put_whole : (d run : List A) → length run ≡ length d → put d 0 run ≡ run
  unfolding placed
  put_whole d run e =
      let all : 0 + length run ≡ length d = omega arith in
      put_placed d 0 run (omega arith)
      ∙ ap (λ (n : ℕ). run ++ drop n d) all
      ∙ ap (λ (l : List A). run ++ l) (drop-length d)
      ∙ append-nil run

  pub length_placed : (d : List A) (at : ℕ) (run : List A) → at + length run ≤ length d
      → length (placed d at run) ≡ length d
  unfolding placed
  length_placed d at run h = simp (length-append, length-take, length-drop) (omega arith)

  pub length_put : (d : List A) (at : ℕ) (run : List A) → length (put d at run) ≡ length d
  unfolding put
  length_put d at run = go (leb (at + length run) (length d)) refl
    where
      go : (b : Bool) → leb (at + length run) (length d) ≡ b → length (cond b (placed d at run) d) ≡ length d
      go true e = length_placed d at run (leb-true (at + length run) (length d) e)
      go false e = refl

  pub placed_nothing : (d : List A) (at : ℕ) → placed d at [] ≡ d
  unfolding placed
  placed_nothing d at = sym (paste-zero d at [])

  pub put_nothing : (d : List A) (at : ℕ) → d ≡ put d at []
  unfolding put
  put_nothing d at = go (leb (at + 0) (length d))
    where
      go : (b : Bool) → d ≡ cond b (placed d at []) d
      go true = sym (placed_nothing d at)
      go false = refl

  -- ---- one run behind the other

  pub placed_append : (d : List A) (at : ℕ) (xs ys : List A) → at + length xs + length ys ≤ length d
      → placed (placed d at xs) (at + length xs) ys ≡ placed d at (xs ++ ys)
  unfolding placed
  placed_append d at xs ys h =
      let n : ℕ = at + length xs in
      let front : List A = take at d ++ xs in
      let long : length front ≡ n = simp (length-append, length-take) (omega arith) in
      let rest : drop (n + length ys) (front ++ drop n d) ≡ drop (n + length ys) d =
      sym (drop-drop (length ys) n (front ++ drop n d))
      ∙ ap (drop (length ys)) (drop_at front (drop n d) n long)
      ∙ drop-drop (length ys) n d in
      ap₂ (λ (l r : List A). l ++ ys ++ r) (take_at front (drop n d) n long) rest
      ∙ ap₂ (λ (l : List A) (k : ℕ). l ++ drop k d) (append_assoc (take at d) xs ys)
      (add_assoc at (length xs) (length ys) ∙ ap (λ (k : ℕ). at + k) (sym (length-append xs ys)))

  -- what goes on where a run has ended
  pub goes_on : (d : List A) (at : ℕ) (xs ys : List A) {e : List A} {next : ℕ} → e ≡ placed d at xs
      → next ≡ at + length xs
      → next + length ys ≤ length d → put e next ys ≡ placed d at (xs ++ ys)
  goes_on d at xs ys p q room =
      ap₂ (λ (l : List A) (k : ℕ). put l k ys) p q
      ∙ put_placed (placed d at xs) (at + length xs) ys (long (length_placed d at xs (omega arith)))
      ∙ placed_append d at xs ys (omega arith)
    where
      long : length (placed d at xs) ≡ length d → at + length xs + length ys ≤ length (placed d at xs)
      long h = omega arith

  -- the same of runs that are put
  pub puts_on : (d : List A) (at : ℕ) (xs ys : List A) {e : List A} {next : ℕ} → e ≡ put d at xs → next ≡ at + length xs
      → next + length ys ≤ length d → put e next ys ≡ put d at (xs ++ ys)
  puts_on d at xs ys p q room =
      goes_on d at xs ys (p ∙ put_placed d at xs (omega arith)) q room
      ∙ sym (put_placed d at (xs ++ ys) (simp length-append (omega arith)))

  -- what a run at the front of a buffer leaves there, and behind it
  pub take_placed : (d run : List A) → length run ≤ length d → take (length run) (placed d 0 run) ≡ run
  unfolding placed
  take_placed d run h = take_at run (drop (0 + length run) d) (length run) refl

  pub drop_placed : (d run : List A) → length run ≤ length d → drop (length run) (placed d 0 run) ≡ drop (length run) d
  unfolding placed
  drop_placed d run h =
      drop_at run (drop (0 + length run) d) (length run) refl ∙ ap (λ (n : ℕ). drop n d) (zero-add (length run))

  -- a run put over another of its length
  pub put_over : (d : List A) (at : ℕ) (xs ys : List A) → length xs ≡ length ys → at + length ys ≤ length d
      → put (put d at xs) at ys ≡ put d at ys
  unfolding placed
  put_over d at xs ys same room =
      let n : ℕ = at + length xs in
      let before : length (take at d) ≡ at = simp length-take (omega arith) in
      let front : length (take at d ++ xs) ≡ at + length ys = simp length-append (omega arith) in
      let there = length_put d at xs in
      put_placed (put d at xs) at ys (omega arith)
      ∙ ap (λ (l : List A). placed l at ys) (put_placed d at xs (omega arith))
      ∙ ap₂ (λ (l r : List A). l ++ ys ++ r)
      (ap (take at) (append_assoc (take at d) xs (drop n d)) ∙ take_at (take at d) (xs ++ drop n d) at before)
      (drop_at (take at d ++ xs) (drop n d) (at + length ys) front ∙ ap (λ (m : ℕ). drop (at + m) d) same)
      ∙ sym (put_placed d at ys room)

  -- two runs at the front are the second placed behind the first
  pub placed_cut : (d xs ys : List A) → length xs + length ys ≤ length d
      → placed d 0 (xs ++ ys) ≡ xs ++ placed (drop (length xs) d) 0 ys
  unfolding placed
  placed_cut d xs ys h =
      append_assoc xs ys (drop (0 + length (xs ++ ys)) d)
      ∙ ap (λ (l : List A). xs ++ (ys ++ l))
      (ap (λ (n : ℕ). drop n d) (zero-add (length (xs ++ ys)) ∙ length-append xs ys)
      ∙ sym (drop-drop (length ys) (length xs) d)
      ∙ ap (λ (n : ℕ). drop n (drop (length xs) d)) (sym (zero-add (length ys))))

  -- a run written to the front of the part from `at` on stands at `at` in the whole
  pub placed_part : (d : List A) (at : ℕ) (run : List A) → at + length run ≤ length d
      → take at d ++ (placed (slice d at (length d - at)) 0 run ++ drop (length d - at) (drop at d)) ≡ placed d at run
  unfolding placed
  placed_part d at run h =
      let k : ℕ = length d - at in
      let long : length (drop at d) ≡ k = length-drop at d in
      let part : take k (drop at d) ≡ drop at d = take_all k (drop at d) (omega arith) in
      let none : drop k (drop at d) ≡ [] = drop_of_length-le (drop at d) {i = k} (omega arith) in
      let rest : drop (0 + length run) (drop at d) ≡ drop (at + length run) d =
      ap (λ (n : ℕ). drop n (drop at d)) (zero-add (length run)) ∙ drop-drop (length run) at d in
      ap₂ (λ (p e : List A). take at d ++ (run ++ drop (0 + length run) p ++ e)) part none
      ∙ ap (λ (l : List A). take at d ++ l)
      (append-nil (run ++ drop (0 + length run) (drop at d)) ∙ ap (λ (l : List A). run ++ l) rest)
      ∙ sym (append_assoc (take at d) run (drop (at + length run) d))

  pub put_part : (d : List A) (at : ℕ) (run : List A) → at + length run ≤ length d
      → take at d ++ (put (slice d at (length d - at)) 0 run ++ drop (length d - at) (drop at d)) ≡ put d at run
  put_part d at run h =
      ap (λ (l : List A). take at d ++ (l ++ drop (length d - at) (drop at d)))
      (put_placed (slice d at (length d - at)) 0 run (simp (length-take, length-drop) (omega arith)))
      ∙ placed_part d at run h
      ∙ sym (put_placed d at run h)

  -- ---- element after element

  -- what such a loop has not reached is as it was
  pub paste_ahead : (d run : List A) (i : ℕ) (z : A) → i < length d → i ≤ length run
      → get_or (paste d 0 run i) i z ≡ get_or d i z
  paste_ahead d run i z room h =
      ap (λ (l : List A). get_or (take i run ++ l) i z)
      (ap (λ (n : ℕ). drop n d) (zero-add i) ∙ drop-cons d i z room)
      ∙ get_or_at (take i run) (get_or d i z) (drop (suc i) d) z i (simp length-take (omega arith))

  -- one turn of a loop that writes a run
  pub paste_more : (d : List A) (at : ℕ) (run : List A) (i : ℕ) (z : A) → at + i < length d → i < length run
      → set (paste d at run i) (at + i) (get_or run i z) ≡ paste d at run (i + 1)
  paste_more d at run i z room h = paste-suc d at run i z room h ∙ ap (paste d at run) (sym (add-one i))

  -- the same at the front
  pub paste_front : (d run : List A) (i : ℕ) (z : A) → i < length d → i < length run
      → set (paste d 0 run i) i (get_or run i z) ≡ paste d 0 run (i + 1)
  paste_front d run i z room h =
      ap (λ (k : ℕ). set (paste d 0 run i) k (get_or run i z)) (sym (zero-add i)) ∙ paste_more d 0 run i z (omega arith) h

  -- all turns
  pub paste_all : (d : List A) (at : ℕ) (run : List A) (n : ℕ) → n ≡ length run → at + n ≤ length d
      → paste d at run n ≡ put d at run
  unfolding placed
  paste_all d at run n e room =
      ap₂ (λ (l : List A) (k : ℕ). take at d ++ l ++ drop (at + k) d) (take_all n run (omega arith)) e
      ∙ sym (put_placed d at run (omega arith))

  -- neighbours from at + k on, as straight-line code stores them
  abbrev pub stores : List A → ℕ → ℕ → List A → List A
  stores d at k [] = d
  stores d at k (x ∷ xs) = stores (set d (at + k) x) at (suc k) xs

  stores_sets : (d : List A) (at k : ℕ) (xs : List A) → stores d at k xs ≡ sets d (at + k) xs
  stores_sets d at k [] = refl
  stores_sets d at k (x ∷ xs) =
      stores_sets (set d (at + k) x) at (suc k) xs ∙ ap (λ (p : ℕ). sets (set d (at + k) x) p xs) next
    where
      next : at + suc k ≡ suc (at + k)
      next = omega arith

  pub placed_stores : (d : List A) (at : ℕ) (x : A) (xs : List A) → at + suc (length xs) ≤ length d
      → stores (set d at x) at 1 xs ≡ placed d at (x ∷ xs)
  unfolding placed
  placed_stores d at x xs room =
      stores_sets (set d at x) at 1 xs ∙ ap (λ (p : ℕ). sets (set d at x) p xs) (add-one at)
      ∙ sets-eq (x ∷ xs) d at room
