-- Rows written and read back: the numbers stand one after the other, so each law goes along the widths.
use mathlib.Core.Path.{◌≡◌, refl, sym, ap, ap₂, ◌∙◌}
use mathlib.Core.List.{List, [], ◌∷◌, ◌++◌, append_assoc, append-nil}
use Prim.Native.Nat.{ℕ, zero, suc, ◌+◌, ◌*◌, ◌^◌, ◌<◌, ◌≤◌}
use native.Mathlib.{Numerals.one-add, Omega.arith}
use native.Mathlib.Nat.{add-zero, add_comm, add_assoc, zero-mul, suc-mul, mod-eq_of_lt}
use lib.ListN.{length, get_or, take, drop, replicate, length-append, length-replicate}
use lib.Seq.{take_at, drop_at, get_or-drop}
use Rattle.octets.specs.Buffers.{slice, placed, put}
use Rattle.octets.specs.Digits.{number, digits, number_at}
use Rattle.octets.specs.Rows.{row, numbers_at, row_length, Fits}
use Rattle.octets.proofs.Buffers.{put_placed, placed_nothing, goes_on}
use Rattle.octets.proofs.Numbers.{Below, length_digits, number_digits, number_at_below, digits_read}
use Rattle.octets.proofs.Slices.{slice_add, slice_front}

pub length_row : (widths numbers : List ℕ) → length (row widths numbers) ≡ row_length widths
unfolding row
length_row [] numbers = refl
length_row (width ∷ widths) numbers =
    length-append (digits 256 width (get_or numbers 0 0)) (row widths (drop 1 numbers))
    ∙ ap₂ (λ (m n : ℕ). m + n) (length_digits 256 width (get_or numbers 0 0)) (length_row widths (drop 1 numbers))

-- a number that fits is read back from its digits, whatever stands before and behind them
number_back : (front : List ℕ) (width x : ℕ) (rest : List ℕ) (at : ℕ) → length front ≡ at → x < 256 ^ width
    → number_at (front ++ (digits 256 width x ++ rest)) at width ≡ x
number_back front width x rest at e fits =
    ap (λ (l : List ℕ). number 256 (take width l)) (drop_at front (digits 256 width x ++ rest) at e)
    ∙ ap (number 256) (take_at (digits 256 width x) rest width (length_digits 256 width x))
    ∙ number_digits 256 (omega arith) width x
    ∙ mod-eq_of_lt fits

-- what was written is read back
pub numbers_back : (widths numbers front rest : List ℕ) (at : ℕ) → length front ≡ at → Fits widths numbers
    → numbers_at widths (front ++ (row widths numbers ++ rest)) at ≡ numbers
unfolding row numbers_at
numbers_back [] [] front rest at e fits = refl
numbers_back [] (x ∷ numbers) front rest at e fits = absurd fits
numbers_back (width ∷ widths) [] front rest at e fits = absurd fits
numbers_back (width ∷ widths) (x ∷ numbers) front rest at e fits =
    let this : List ℕ = digits 256 width x in
    let more : List ℕ = row widths numbers in
    let one : front ++ ((this ++ more) ++ rest) ≡ front ++ (this ++ (more ++ rest)) =
    ap (λ (l : List ℕ). front ++ l) (append_assoc this more rest) in
    let two : front ++ ((this ++ more) ++ rest) ≡ (front ++ this) ++ (more ++ rest) =
    one ∙ sym (append_assoc front this (more ++ rest)) in
    let far : length (front ++ this) ≡ at + width =
    length-append front this ∙ ap₂ (λ (m n : ℕ). m + n) e (length_digits 256 width x) in
    ap₂ (λ (n : ℕ) (ns : List ℕ). n ∷ ns)
    (ap (λ (l : List ℕ). number_at l at width) one ∙ number_back front width x (more ++ rest) at e fits.0)
    (ap (λ (l : List ℕ). numbers_at widths l (at + width)) two
    ∙ numbers_back widths numbers (front ++ this) rest (at + width) far fits.1)

pub numbers_row : (widths numbers : List ℕ) → Fits widths numbers → numbers_at widths (row widths numbers) 0 ≡ numbers
numbers_row widths numbers fits =
    ap (λ (l : List ℕ). numbers_at widths l 0) (sym (append-nil (row widths numbers)))
    ∙ numbers_back widths numbers [] [] 0 refl fits

-- what was read is written back
pub row_back : (widths bytes : List ℕ) (at : ℕ) → at + row_length widths ≤ length bytes → Below 256 bytes
    → row widths (numbers_at widths bytes at) ≡ slice bytes at (row_length widths)
unfolding row numbers_at
row_back [] bytes at h b = refl
row_back (width ∷ widths) bytes at h b =
    ap₂ (λ (xs ys : List ℕ). xs ++ ys) (digits_read bytes at width (omega arith) b)
    (row_back widths bytes (at + width) (omega arith) b)
    ∙ sym (slice_add bytes at width (row_length widths))

-- as many numbers are read as there are widths
pub length_numbers : (widths bytes : List ℕ) (at : ℕ) → length (numbers_at widths bytes at) ≡ length widths
unfolding numbers_at
length_numbers [] bytes at = refl
length_numbers (width ∷ widths) bytes at = ap suc (length_numbers widths bytes (at + width))

-- numbers written one after the other from `at` on, as straight-line code does it, are the row
abbrev pub written_from : List ℕ → List ℕ → List ℕ → ℕ → List ℕ
written_from d [] numbers at = d
written_from d (width ∷ widths) numbers at =
    written_from (put d at (digits 256 width (get_or numbers 0 0))) widths (drop 1 numbers) (at + width)

row_placed : (d done widths numbers : List ℕ) (at next : ℕ) → next ≡ at + length done
    → next + row_length widths ≤ length d
    → written_from (placed d at done) widths numbers next ≡ placed d at (done ++ row widths numbers)
unfolding row
row_placed d done [] numbers at next e room = ap (placed d at) (sym (append-nil done))
row_placed d done (width ∷ widths) numbers at next e room =
    let this : List ℕ = digits 256 width (get_or numbers 0 0) in
    let long : length this ≡ width = length_digits 256 width (get_or numbers 0 0) in
    let far : next + width ≡ at + length (done ++ this) = omega (arith, length-append done this) in
    ap (λ (l : List ℕ). written_from l widths (drop 1 numbers) (next + width))
    (goes_on d at done this refl e (omega arith))
    ∙ row_placed d (done ++ this) widths (drop 1 numbers) at (next + width) far (omega arith)
    ∙ ap (placed d at) (append_assoc done this (row widths (drop 1 numbers)))

pub row_written : (d widths numbers : List ℕ) (at : ℕ) → at + row_length widths ≤ length d
    → written_from d widths numbers at ≡ put d at (row widths numbers)
row_written d widths numbers at room =
    ap (λ (l : List ℕ). written_from l widths numbers at) (sym (placed_nothing d at))
    ∙ row_placed d [] widths numbers at at (sym (add-zero at)) room
    ∙ sym (put_placed d at (row widths numbers) (rw (length_row widths numbers) room))

-- and each of them fits its bytes
pub fits_read : (widths bytes : List ℕ) (at : ℕ) → Below 256 bytes → Fits widths (numbers_at widths bytes at)
unfolding numbers_at
fits_read [] bytes at b = tt
fits_read (width ∷ widths) bytes at b = (number_at_below bytes at width b, fits_read widths bytes (at + width) b)

-- numbers that stand in the first of two runs
pub numbers_front : (widths xs ys : List ℕ) (at : ℕ) → at + row_length widths ≤ length xs
    → numbers_at widths (xs ++ ys) at ≡ numbers_at widths xs at
unfolding numbers_at
numbers_front [] xs ys at h = refl
numbers_front (width ∷ widths) xs ys at h =
    ap₂ (λ (n : ℕ) (ns : List ℕ). n ∷ ns) (ap (number 256) (slice_front xs ys at width (omega arith)))
    (numbers_front widths xs ys (at + width) (omega arith))

-- ---- numbers of one width

pub length_equal : (n width : ℕ) → row_length (replicate n width) ≡ n * width
length_equal zero width = sym (zero-mul width)
length_equal (suc n) width = ap (λ (k : ℕ). width + k) (length_equal n width) ∙ more
  where
    more : width + n * width ≡ suc n * width
    more = sym (suc-mul n width ∙ add_comm (n * width) width)

pub fits_equal : (width : ℕ) (numbers : List ℕ) → Below (256 ^ width) numbers
    → Fits (replicate (length numbers) width) numbers
fits_equal width [] b = tt
fits_equal width (x ∷ numbers) b = (b 0, fits_equal width numbers (λ i. b (suc i)))

pub many_read : (width n : ℕ) (bytes : List ℕ) (at : ℕ) → length (numbers_at (replicate n width) bytes at) ≡ n
many_read width n bytes at = length_numbers (replicate n width) bytes at ∙ length-replicate n width

-- number i of those that are read
pub number_in : (width n : ℕ) (bytes : List ℕ) (at i : ℕ) → i < n
    → get_or (numbers_at (replicate n width) bytes at) i 0 ≡ number_at bytes (at + i * width) width
unfolding numbers_at
number_in width zero bytes at i h = absurd (omega arith)
number_in width (suc n) bytes at zero h =
    ap (λ (k : ℕ). number_at bytes k width) (sym (ap (λ (k : ℕ). at + k) (zero-mul width) ∙ add-zero at))
number_in width (suc n) bytes at (suc i) h =
    number_in width n bytes (at + width) i (omega arith)
    ∙ ap (λ (k : ℕ). number_at bytes k width)
    (add_assoc at width (i * width) ∙ ap (λ (k : ℕ). at + k) (add_comm width (i * width) ∙ sym (suc-mul i width)))

-- one number more, whether or not it is given
pub row_more : (width n : ℕ) (numbers : List ℕ)
    → row (replicate (suc n) width) numbers ≡ row (replicate n width) numbers ++ digits 256 width (get_or numbers n 0)
unfolding row
row_more width zero numbers = append-nil (digits 256 width (get_or numbers 0 0))
row_more width (suc n) numbers =
    ap (λ (l : List ℕ). digits 256 width (get_or numbers 0 0) ++ l)
    (row_more width n (drop 1 numbers)
    ∙ ap (λ (x : ℕ). row (replicate n width) (drop 1 numbers) ++ digits 256 width x)
    (get_or-drop 1 numbers n 0 ∙ ap (λ (i : ℕ). get_or numbers i 0) (one-add n)))
    ∙ sym (append_assoc (digits 256 width (get_or numbers 0 0)) (row (replicate n width) (drop 1 numbers)) _)
