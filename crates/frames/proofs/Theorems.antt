-- Frames and their bytes are inverse: the numbers of a row are read from the places where they were written.
use mathlib.Core.Path.{◌≡◌, refl, sym, ap, ap₂, subst, ◌∙◌}
use mathlib.Core.Bool.{true, ◌&&◌}
use mathlib.Core.List.{List, [], ◌∷◌, ◌++◌}
use Prim.Native.Nat.{ℕ, ◌+◌, ◌≤◌}
use native.Mathlib.Omega.{arith}
use borrow.Author.Tests.{eq-eqb, eqb-true}
use lib.{Dec.eqb, Seq.drop_at}
use lib.ListN.{length, get_or, drop, length-append, length-drop, drop_of_length-le, take-append-drop}
use Rattle.octets.specs.{Digits.number_at, Rows.row, Rows.numbers_at, Rows.row_length, Rows.Fits}
use Rattle.octets.proofs.{Numbers.Below, Rows.length_row, Rows.numbers_back, Rows.row_back, Rows.fits_read}
use Rattle.refusals.proofs.Tests.{by_cond, and_first, and_second}
use Rattle.frames.specs.Frames.{Frame, opening, block, holds, too_long, widths, numbers, behind, bytes, in_limits}
use Rattle.frames.specs.Frames.{Good, Heard, it, kept, heard}

-- ---- what is written is read back

-- a number of a row that is known
nth : {l k : List ℕ} → (n : ℕ) → l ≡ k → get_or l n 0 ≡ get_or k n 0
nth n e = ap (λ (l : List ℕ). get_or l n 0) e

-- a message with a frame's numbers, and as many bytes as the frame has, is that frame
fitting : (f : Frame) (m : List ℕ) → numbers_at (widths f) m 0 ≡ numbers f → drop (row_length (widths f)) m ≡ behind f
    → length m ≡ row_length (widths f) + length (behind f) → in_limits f ≡ true → heard m ≡ it f
unfolding heard numbers_at
fitting (opening session sound) m e rest long limits = rw (nth 0 e, nth 1 e, nth 2 e, long, limits)
fitting (block session k run) m e rest long limits =
    rw (nth 0 e, nth 1 e, nth 2 e, nth 3 e, rest, eq-eqb (length m) (8 + length run) long, limits)
fitting (holds session held) m e rest long limits = rw (nth 0 e, nth 1 e, nth 2 e, long, limits)
fitting (too_long session) m e rest long limits = rw (nth 0 e, nth 1 e, long, limits)

pub heard_bytes : (f : Frame) → Good f → heard (bytes f) ≡ it f
unfolding bytes
heard_bytes f g =
    let head : List ℕ = row (widths f) (numbers f) in
    let long : length head ≡ row_length (widths f) = length_row (widths f) (numbers f) in
    fitting f (bytes f) (numbers_back (widths f) (numbers f) [] (behind f) 0 refl g.fits)
    (drop_at head (behind f) (row_length (widths f)) long)
    (length-append head (behind f) ∙ ap (λ (n : ℕ). n + length (behind f)) long) g.limits

-- ---- what is read is what was written

module _ (m : List ℕ) (b : Below 256 m) where
  -- a message is the bytes of a frame with the numbers that were read, and with what stands behind them
  written : (f : Frame) → numbers f ≡ numbers_at (widths f) m 0 → behind f ≡ drop (row_length (widths f)) m
      → row_length (widths f) ≤ length m → in_limits f ≡ true → (bytes f ≡ m) × Good f
  unfolding bytes
  written f e rest long limits = (
    ap₂ (λ (ns r : List ℕ). row (widths f) ns ++ r) e rest
        ∙ ap (λ (l : List ℕ). l ++ drop (row_length (widths f)) m) (row_back (widths f) m 0 (omega arith) b)
        ∙ take-append-drop (row_length (widths f)) m,
    record { limits = limits; fits = subst (Fits (widths f)) (sym e) (fits_read (widths f) m 0 b) },
  )

  -- what is read back of a message is a good frame, and the message is its bytes
  Back : Heard → Type 0
  Back h = (f : Frame) → h ≡ it f → (bytes f ≡ m) × Good f

  -- a row whose numbers and rest are those of the message, where it fits
  row_fits : (g : Frame) (kind size : ℕ) (other : Heard)
      → (number_at m 0 1 ≡ kind → length m ≡ size
      → (numbers g ≡ numbers_at (widths g) m 0)
      × (behind g ≡ drop (row_length (widths g)) m)
      × (row_length (widths g) ≤ length m))
      → Back other → Back (kept m kind size g other)
  unfolding Back
  row_fits g kind size other so next =
      let begins = eqb (number_at m 0 1) kind in
      let exact = eqb (length m) size in
      by_cond Back (begins && exact && in_limits g) (it g) other
      (λ t f e.
      let shape = and_first (begins && exact) (in_limits g) t in
      let same = so (eqb-true _ _ (and_first begins exact shape)) (eqb-true _ _ (and_second begins exact shape)) in
      let one : g ≡ f = cc in
      subst (λ (f : Frame). (bytes f ≡ m) × Good f) one
      (written g same.0 same.1 same.2 (and_second (begins && exact) (in_limits g) t)))
      (λ _. next)

  pub bytes_heard : (f : Frame) → heard m ≡ it f → (bytes f ≡ m) × Good f
  unfolding Back heard numbers_at
  bytes_heard =
      let session = number_at m 1 4 in
      let none : (n : ℕ) → length m ≤ n → [] ≡ drop n m = λ n short. sym (drop_of_length-le m short) in
      row_fits (opening session (number_at m 5 4)) 1 9 _
      (λ k long. (ap (λ (n : ℕ). n ∷ session ∷ number_at m 5 4 ∷ []) (sym k), none 9 (omega arith), omega arith))
      (row_fits (block session (number_at m 5 2) (drop 8 m)) 2 (8 + number_at m 7 1) _
      (λ k long.
      let rest : length (drop 8 m) ≡ number_at m 7 1 = length-drop 8 m ∙ omega arith in
      (ap₂ (λ (n c : ℕ). n ∷ session ∷ number_at m 5 2 ∷ c ∷ []) (sym k) rest, refl, omega arith))
      (row_fits (holds session (number_at m 5 2)) 3 7 _
      (λ k long. (ap (λ (n : ℕ). n ∷ session ∷ number_at m 5 2 ∷ []) (sym k), none 7 (omega arith), omega arith))
      (row_fits (too_long session) 4 5 _
      (λ k long. (ap (λ (n : ℕ). n ∷ session ∷ []) (sym k), none 5 (omega arith), omega arith))
      (λ f e. let z : ◌≡◌ {A = ℕ} 0 1 = cc in absurd (omega arith)))))
