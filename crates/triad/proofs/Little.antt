-- Bytes with the least significant first: a word that is read from them, and a run under a word's bytes.
use mathlib.Core.{Path.◌≡◌, Path.refl, Path.sym, Path.ap, Path.ap₂, Path.◌∙◌, List.List, List.[], List.◌∷◌, List.◌++◌}
use mathlib.Core.List.{reverse, reverse-append, reverse-reverse}
use Prim.Native.Nat.{ℕ, zero, suc, ◌+◌, ◌-◌, ◌*◌, ◌/◌, ◌%◌, ◌^◌, ◌<◌, ◌≤◌, min}
use native.Mathlib.Omega.{arith}
use lib.Bits.{bit_xor, xor_mod, xor_shr}
use lib.{ListN.length, ListN.get_or, ListN.take, ListN.drop, ListN.replicate, ListN.length-append, ListN.length-take}
use lib.{ListN.length-replicate, Seq.get_or-take, Seq.take_all, Seq.ext_get_or}
use Rattle.std.proofs.lemmas.List.{drop-replicate}
use Rattle.std.specs.Int.{w64, from_le_bytes, to_le_bytes}
use Rattle.octets.specs.{Buffers.slice, Digits.number, Digits.number_after, Digits.digits, Stream.enciphered}
use Rattle.octets.proofs.LowFirst.{below_reverse, byte_up, length_reverse, low_snoc}
use Rattle.octets.proofs.Numbers.{Below, digits_number, length_digits, number_append}
use Rattle.octets.proofs.{Slices.slice_read, Slices.take_there, Streams.length_enciphered, Streams.enciphered_at, Streams.power_of_bytes}

-- ---- a word that is read

eight_low : (a b c d e f g h : ℕ)
    → from_le_bytes w64 (a ∷ b ∷ c ∷ d ∷ e ∷ f ∷ g ∷ h ∷ [])
    ≡ number 256 (reverse (a ∷ b ∷ c ∷ d ∷ e ∷ f ∷ g ∷ h ∷ []))
unfolding number_after
eight_low a b c d e f g h = omega arith

-- of eight bytes
pub low_number : (l : List ℕ) → length l ≡ 8 → from_le_bytes w64 l ≡ number 256 (reverse l)
low_number l eight =
    eight_low _ _ _ _ _ _ _ _
    ∙ ap (λ (xs : List ℕ). number 256 (reverse xs)) (slice_read l 0 7 0 (omega arith) ∙ take_all 8 l (omega arith))

low_blank : (n : ℕ) → number 256 (reverse (replicate n 0)) ≡ 0
unfolding number_after
low_blank zero = refl
low_blank (suc n) = low_snoc 0 (replicate n 0) ∙ ap (λ (v : ℕ). v * 256 + 0) (low_blank n)

-- of as many as are there, in front of zeros
pub front_number : (bytes : List ℕ) (n : ℕ) {front : List ℕ} {r : ℕ} → n ≡ min (length bytes) 8 → front ≡ take n bytes
    → r ≡ from_le_bytes w64 (front ++ drop n (replicate 8 0)) → r ≡ number 256 (reverse (slice bytes 0 8))
front_number bytes n count there read =
    let xs : List ℕ = take n bytes in
    let pads : List ℕ = replicate (8 - n) 0 in
    let long : length (xs ++ pads) ≡ 8 = simp (length-append, length-replicate, length-take) (omega arith) in
    read
    ∙ ap₂ (λ (l p : List ℕ). from_le_bytes w64 (l ++ p)) there (drop-replicate n 8 0)
    ∙ low_number (xs ++ pads) long
    ∙ ap (number 256) (reverse-append xs pads)
    ∙ number_append 256 (reverse pads) (reverse xs)
    ∙ ap (λ (v : ℕ). v * 256 ^ length (reverse xs) + number 256 (reverse xs)) (low_blank (8 - n))
    ∙ nought (256 ^ length (reverse xs)) (number 256 (reverse xs))
    ∙ ap (λ (l : List ℕ). number 256 (reverse l)) same
  where
    nought : (p v : ℕ) → 0 * p + v ≡ v
    nought p v = omega arith

    same : take n bytes ≡ slice bytes 0 8
    same = take_there bytes 0 8 n (omega arith)

-- ---- a run under a word's bytes

to_low : (v : ℕ) → to_le_bytes w64 v ≡ reverse (digits 256 8 v)
unfolding digits
to_low v = grind arith

byte_xor : (x y n : ℕ) → bit_xor x y / 256 ^ n % 256 ≡ bit_xor (x / 256 ^ n % 256) (y / 256 ^ n % 256)
byte_xor x y n =
    rw (power_of_bytes n)
    (ap (λ (v : ℕ). v % 256) (xor_shr x y (8 * n)) ∙ xor_mod (x / 2 ^ (8 * n)) (y / 2 ^ (8 * n)) 8)

-- what is left of the front bytes of the exclusive or of both words
pub word_under : (xs : List ℕ) (z : ℕ) {after covered : List ℕ} {read : ℕ} → length xs ≤ 8 → Below 256 xs
    → read ≡ number 256 (reverse (slice xs 0 8)) → covered ≡ to_le_bytes w64 (bit_xor read z)
    → after ≡ take (length xs) covered → after ≡ enciphered (λ i. z / 256 ^ i % 256) xs
word_under xs z {after} {covered} {read} few b seen written kept =
    let n : ℕ = length xs in
    let m : ℕ = number 256 (reverse xs) in
    let v : ℕ = bit_xor read z in
    let back : List ℕ = reverse (digits 256 8 v) in
    let made : after ≡ take n back = kept ∙ ap (take n) (written ∙ to_low v) in
    let long : length back ≡ 8 = length_reverse (digits 256 8 v) ∙ length_digits 256 8 v in
    let under : List ℕ = enciphered (λ i. z / 256 ^ i % 256) xs in
    let same : length (take n back) ≡ length under =
    length-take n back ∙ omega (arith, length_enciphered (λ i. z / 256 ^ i % 256) xs) in
    let turned : reverse (digits 256 n m) ≡ xs =
    ap (λ (k : ℕ). reverse (digits 256 k m)) (sym (length_reverse xs))
    ∙ ap reverse (digits_number 256 (omega arith) (reverse xs) (below_reverse xs b))
    ∙ reverse-reverse xs in
    let there : read ≡ m = seen ∙ ap (λ (l : List ℕ). number 256 (reverse l)) (take_all 8 xs few) in
    made
    ∙ ext_get_or 0 (take n back) under same
    (λ i h.
    let lt : i < n = omega (arith, length-take n back) in
    get_or-take n back i 0 lt
    ∙ byte_up 256 8 v i (omega arith)
    ∙ byte_xor read z i
    ∙ ap (λ (x : ℕ). bit_xor x (z / 256 ^ i % 256))
    (ap (λ (x : ℕ). x / 256 ^ i % 256) there ∙ sym (byte_up 256 n m i lt) ∙ ap (λ (l : List ℕ). get_or l i 0) turned)
    ∙ sym (enciphered_at (λ i. z / 256 ^ i % 256) xs i lt))
