-- A number with its digits in the other order. The digits of a number that digits make are those digits, so words that
-- were reversed can be put together as well as the words.
use mathlib.Core.{Path.◌≡◌, Path.refl, Path.sym, Path.subst, Path.ap, Path.ap₂, Path.◌∙◌}
use mathlib.Core.List.{List, [], ◌∷◌, reverse, reverse_aux}
use Prim.Native.Nat.{ℕ, zero, suc, ◌+◌, ◌/◌, ◌%◌, ◌^◌, ◌<◌, ◌≤◌}
use native.Mathlib.{Nat.mod-lt, Nat.mod-eq_of_lt, Omega.arith}
use borrow.Author.Tests.{le-leb, lt-leb}
use lib.{Bits.bit_xor, Bits.xor_lt, ListN.length, ListN.get_or, ListN.drop, Seq.take_all}
use Rattle.std.specs.Int.{from_le_bytes, swap_bytes, to_le_bytes, w64}
use Rattle.octets.specs.{Digits.number, Digits.number_at, Digits.number_after, Digits.digits, Stream.enciphered}
use Rattle.octets.proofs.Slices.{neighbours, slice_read}
use Rattle.octets.proofs.Numbers.{Below, high_first, length_digits, digits_number, number_digits, number_at_below, number_read}
use Rattle.octets.proofs.Streams.{digits_xor, under}
use Rattle.samples.specs.Words.{swapped, eight_from}

below_cons : {bound : ℕ} (x : ℕ) (xs : List ℕ) → x < bound → Below bound xs → Below bound (x ∷ xs)
below_cons x xs h b zero = h
below_cons x xs h b (suc i) = b i

below_back : {bound : ℕ} (xs rest : List ℕ) → Below bound xs → Below bound rest → Below bound (reverse_aux xs rest)
below_back [] rest b c = c
below_back (x ∷ xs) rest b c = below_back xs (x ∷ rest) (λ i. b (suc i)) (below_cons x rest (b 0) c)

pub length_back : (xs rest : List ℕ) → length (reverse_aux xs rest) ≡ length xs + length rest
length_back [] rest = omega arith
length_back (x ∷ xs) rest = length_back xs (x ∷ rest) ∙ omega arith

digits_below : (base n x : ℕ) → 0 < base → Below base (digits base n x)
unfolding digits
digits_below base zero x p i = p
digits_below base (suc n) x p zero = mod-lt _ p
digits_below base (suc n) x p (suc i) = digits_below base n x p i

module _ (base n x : ℕ) (p : 0 < base) where
  abbrev back : List ℕ
  back = reverse (digits base n x)

  back_below : Below base back
  back_below = below_back (digits base n x) [] (digits_below base n x p) (λ i. p)

  back_long : length back ≡ n
  back_long = length_back (digits base n x) [] ∙ omega (arith, length_digits base n x)

  back_digits : digits base n (number base back) ≡ back
  back_digits =
      subst (λ (m : ℕ). digits base m (number base back) ≡ back) back_long (digits_number base p back back_below)

-- ---- eight bytes

pub swapped_digits : (x : ℕ) → digits 256 8 (swapped x) ≡ reverse (digits 256 8 x)
unfolding swapped
swapped_digits x = back_digits 256 8 x (omega arith)

-- the exclusive or of two words goes byte by byte, whatever the order
bytewise : (x y : ℕ)
    → swapped (bit_xor (swapped x) (swapped y))
    ≡ number 256 (enciphered (λ i. get_or (digits 256 8 y) i 0) (digits 256 8 x))
unfolding swapped digits enciphered
bytewise x y =
    ap (λ (l : List ℕ). number 256 (reverse l))
    (digits_xor 8 (swapped x) (swapped y)
    ∙ ap₂ (λ (xs ys : List ℕ). enciphered (λ i. get_or ys i 0) xs) (swapped_digits x) (swapped_digits y))

pub swapped_xor : (x y : ℕ) → x < 2 ^ 64 → y < 2 ^ 64 → swapped (bit_xor (swapped x) (swapped y)) ≡ bit_xor x y
swapped_xor x y hx hy =
    bytewise x y
    ∙ ap (number 256) (sym (digits_xor 8 x y))
    ∙ number_digits 256 (omega arith) 8 (bit_xor x y)
    ∙ mod-eq_of_lt (xor_lt 64 x y hx hy)

-- the library's bytes of a word, the least significant first, and the word that it turns
pub low_bytes : (x : ℕ) → to_le_bytes w64 x ≡ reverse (digits 256 8 x)
unfolding digits
low_bytes x = ap (λ (low : ℕ). low ∷ drop 1 (reverse (digits 256 8 x))) whole
  where
    whole : x % 256 ≡ x / 1 % 256
    whole = omega arith

pub turned : (x : ℕ) → swap_bytes w64 x ≡ swapped x
unfolding swapped
turned x = high_first (to_le_bytes w64 x) refl ∙ ap (number 256) (low_bytes x)

joined : (bytes : List ℕ)
    → from_le_bytes w64 bytes ≡ number 256 (reverse (get_or bytes 0 0 ∷ neighbours bytes 0 1 7 0))
unfolding number_after
joined bytes = omega arith

pub low_first : (bytes : List ℕ) → length bytes ≡ 8 → from_le_bytes w64 bytes ≡ number 256 (reverse bytes)
low_first bytes long =
    joined bytes
    ∙ ap (λ (l : List ℕ). number 256 (reverse l))
    (slice_read bytes 0 7 0 (omega arith) ∙ take_all 8 bytes (omega arith))

-- ---- eight bytes of a run

pub eight_there : (bytes : List ℕ) (at : ℕ) → at + 8 ≤ length bytes → eight_from bytes at ≡ swapped (number_at bytes at 8)
unfolding eight_from
eight_there bytes at h = rw (le-leb (at + 8) (length bytes) h)

pub eight_short : (bytes : List ℕ) (at : ℕ) → length bytes < at + 8 → eight_from bytes at ≡ 0
unfolding eight_from
eight_short bytes at h = rw (lt-leb (at + 8) (length bytes) h)

-- Eight bytes and a word of keystream, both in the other order, are the bytes under the word. `place` and `given` are
-- what the code names.
pub swapped_under : (bytes : List ℕ) (at stream : ℕ) {place read given turn : ℕ} → read ≡ eight_from bytes place
    → place ≡ at → turn ≡ swapped given → given ≡ stream → stream < 2 ^ 64 → at + 8 ≤ length bytes → Below 256 bytes
    → digits 256 8 (swapped (bit_xor read turn)) ≡ under bytes at 8 stream
swapped_under bytes at stream seen there turned same small h b =
    ap₂ (λ (x y : ℕ). digits 256 8 (swapped (bit_xor x y)))
    (seen ∙ ap (eight_from bytes) there ∙ eight_there bytes at h) (turned ∙ ap swapped same)
    ∙ ap (digits 256 8) (swapped_xor (number_at bytes at 8) stream (number_at_below bytes at 8 b) small)
    ∙ ap (λ (x : ℕ). digits 256 8 (bit_xor x stream)) (sym (number_read bytes at 8 b (omega arith)))
