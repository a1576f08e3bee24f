-- The laws of samples and their bytes. A word and its 16 bits go into each other by cases on the sign, but for 80 00,
-- which is read as its neighbour; what a run of bytes makes by twos is said for whatever two bytes make.
use mathlib.Core.Path.{◌≡◌, refl, sym, ap, ap₂, ◌∙◌}
use mathlib.Core.Bool.{Bool, true, false, cond}
use mathlib.Core.{List.List, List.[], List.◌∷◌, List.◌++◌, List.map, Logic.◌≢◌}
use Prim.Native.Nat.{ℕ, zero, suc, ◌+◌, ◌-◌, ◌*◌, ◌/◌, ◌%◌, ◌<◌, ◌≤◌}
use native.Mathlib.{Nat.mod-eq_of_lt, Omega.arith}
use borrow.Author.Tests.{lt-ltb, le-ltb, ltb-true, ltb-false, eqb-false, ne_eqb}
use lib.{Dec.eqb, Dec.ltb, IntN.ℤ, IntN.pos, IntN.negsuc, IntN.nat_abs, Signed.mag}
use lib.ListN.{length, get_or, take, drop, length-append}
use Rattle.std.proofs.lemmas.Int.{ints}
use Rattle.std.specs.Int.{cast_signed, cast_unsigned, int_max, w16}
use Rattle.octets.specs.{Buffers.put, Digits.number, Digits.digits, Stream.Keystream, Stream.enciphered}
use Rattle.octets.proofs.{Buffers.put_none, Streams.length_enciphered}
use Rattle.octets.proofs.Numbers.{Below, number_below, digits_number, number_digits, length_digits}
use Rattle.samples.specs.Words.{signed, unsigned, sample_of, plain_word, word_of, bytes_of, by_twos, words_of}
use Rattle.samples.specs.Words.{NoLowest, bytes_of_all}

-- the library's words for both
pub as_signed : (n : ℕ) → cast_signed w16 n ≡ signed n
unfolding signed
as_signed n = by_cond (ltb n 32768) refl
  where
    by_cond : (b : Bool) → ltb n 32768 ≡ b → cast_signed w16 n ≡ cond b (pos n) (negsuc (65535 - n))
    by_cond true e = rw e refl
    by_cond false e = rw e (ap negsuc same)
      where
        same : 65536 - suc n ≡ 65535 - n
        same = omega arith

pub as_unsigned : (z : ℤ) → cast_unsigned w16 z ≡ unsigned z
unfolding unsigned
as_unsigned (pos n) = refl
as_unsigned (negsuc n) = less
  where
    less : 65536 - suc n ≡ 65535 - n
    less = omega arith

-- every sample has its 16 bits, and no other number has them
pub signed_unsigned : (z : ℤ) → mag z < 32768 → signed (unsigned z) ≡ z
unfolding signed unsigned
signed_unsigned (pos n) h = rw (lt-ltb n 32768 h)
signed_unsigned (negsuc n) h = rw (le-ltb (65535 - n) 32768 (omega arith)) (ap negsuc back)
  where
    back : 65535 - (65535 - n) ≡ n
    back = omega arith

pub unsigned_small : (z : ℤ) → mag z < 32768 → unsigned z < 65536
unfolding unsigned
unsigned_small (pos n) h = omega arith
unsigned_small (negsuc n) h = omega arith

pub unsigned_signed : (n : ℕ) → n < 65536 → unsigned (signed n) ≡ n
unfolding signed unsigned
unsigned_signed n h = by_cond (ltb n 32768) refl
  where
    by_cond : (b : Bool) → ltb n 32768 ≡ b → unsigned (cond b (pos n) (negsuc (65535 - n))) ≡ n
    by_cond true e = refl
    by_cond false e = omega arith

-- ---- what 16 bits are read as

-- a sample has an opposite
abbrev pub Good : ℤ → Type 0
Good z = nat_abs z ≤ 32767

pub good_fits : (z : ℤ) → Good z → mag z < 32768
good_fits (pos n) h = omega arith
good_fits (negsuc n) h = omega arith

signed_good : (n : ℕ) → n ≢ 0x8000 → Good (signed n)
unfolding signed
signed_good n other = by_cond (ltb n 32768) refl
  where
    past : 32768 ≤ n → 32768 < n
    past h = omega (arith, other)

    by_cond : (b : Bool) → ltb n 32768 ≡ b → Good (cond b (pos n) (negsuc (65535 - n)))
    by_cond true e = omega (arith, ltb-true n 32768 e)
    by_cond false e = omega (arith, past (ltb-false n 32768 e))

-- whatever the bits, what they are read as is a sample
pub read_good : (n : ℕ) → Good (sample_of n)
unfolding sample_of
read_good n = by_cond (eqb n 0x8000) refl
  where
    by_cond : (b : Bool) → eqb n 0x8000 ≡ b → Good (cond b (negsuc 32766) (signed n))
    by_cond true e = omega arith
    by_cond false e = signed_good n (eqb-false n 0x8000 e)

-- and it is the greater of their signed number and the lowest sample
pub raised : (n : ℕ) → int_max (signed n) (negsuc 32766) ≡ sample_of n
unfolding signed sample_of
raised n = grind (arith, ints)

-- but for 80 00, bits are read as their signed number
pub read_signed : (n : ℕ) → n ≢ 0x8000 → sample_of n ≡ signed n
unfolding sample_of
read_signed n other = rw (ne_eqb n 0x8000 other)

good_other : (z : ℤ) → Good z → unsigned z ≢ 0x8000
unfolding unsigned
good_other (pos n) h e = omega arith
good_other (negsuc n) h e = omega arith

-- a sample is read back
pub read_back : (z : ℤ) → Good z → sample_of (unsigned z) ≡ z
read_back z h = read_signed (unsigned z) (good_other z h) ∙ signed_unsigned z (good_fits z h)

-- and bits are given back exactly if they aren't 80 00
pub bits_back : (n : ℕ) → n < 65536 → n ≢ 0x8000 → unsigned (sample_of n) ≡ n
bits_back n h other = ap unsigned (read_signed n other) ∙ unsigned_signed n h

pub bits_kept : (n : ℕ) → unsigned (sample_of n) ≡ n → n ≢ 0x8000
unfolding sample_of unsigned
bits_kept n same e = omega (arith, ap (λ (m : ℕ). unsigned (sample_of m)) e)

-- ---- one sample and its two bytes

number_bytes : (z : ℤ) → mag z < 32768 → number 256 (bytes_of z) ≡ unsigned z
number_bytes z h = number_digits 256 (omega arith) 2 (unsigned z) ∙ mod-eq_of_lt (unsigned_small z h)

word_bytes : (z : ℤ) → Good z → sample_of (number 256 (bytes_of z)) ≡ z
word_bytes z h = ap sample_of (number_bytes z (good_fits z h)) ∙ read_back z h

two_below : {upper lower : ℕ} → upper < 256 → lower < 256 → Below 256 (upper ∷ lower ∷ [])
two_below hu hl zero = hu
two_below hu hl (suc zero) = hl
two_below hu hl (suc (suc i)) = omega arith

pub word_small : (upper lower : ℕ) → upper < 256 → lower < 256 → plain_word upper lower < 65536
word_small upper lower hu hl = number_below 256 (upper ∷ lower ∷ []) (two_below hu hl)

bytes_word : (upper lower : ℕ) → upper < 256 → lower < 256 → plain_word upper lower ≢ 0x8000
    → bytes_of (word_of upper lower) ≡ upper ∷ lower ∷ []
bytes_word upper lower hu hl other =
    ap (digits 256 2) (bits_back (plain_word upper lower) (word_small upper lower hu hl) other)
    ∙ digits_number 256 (omega arith) (upper ∷ lower ∷ []) (two_below hu hl)

-- ---- what a run of bytes makes by twos, whatever two bytes make

module _ {A : Type 0} (make : ℕ → ℕ → A) where
  pub length_twos : (bytes : List ℕ) → length (by_twos make bytes) ≡ length bytes / 2
  unfolding by_twos
  length_twos [] = refl
  length_twos (x ∷ []) = refl
  length_twos (x ∷ y ∷ bytes) = ap suc (length_twos bytes) ∙ half (length bytes)
    where
      half : (n : ℕ) → suc (n / 2) ≡ suc (suc n) / 2
      half n = omega arith

  -- number i of what is made
  pub twos_at : (bytes : List ℕ) (i : ℕ) (none : A) → i < length bytes / 2
      → get_or (by_twos make bytes) i none ≡ make (get_or bytes (2 * i) 0) (get_or bytes (2 * i + 1) 0)
  unfolding by_twos
  twos_at [] i none h = absurd (omega arith)
  twos_at (x ∷ []) i none h = absurd (omega arith)
  twos_at (x ∷ y ∷ bytes) zero none h = refl
  twos_at (x ∷ y ∷ bytes) (suc i) none h =
      twos_at bytes i none (omega arith)
      ∙ ap₂ (λ (m n : ℕ). make (get_or (x ∷ y ∷ bytes) m 0) (get_or (x ∷ y ∷ bytes) n 0)) first second
    where
      first : suc (suc (2 * i)) ≡ 2 * suc i
      first = omega arith

      second : suc (suc (2 * i + 1)) ≡ 2 * suc i + 1
      second = omega arith

  -- a run of bytes cut between two words
  pub twos_append : (n : ℕ) (xs ys : List ℕ) → length xs ≡ 2 * n
      → by_twos make (xs ++ ys) ≡ by_twos make xs ++ by_twos make ys
  unfolding by_twos
  twos_append n [] ys e = refl
  twos_append n (x ∷ []) ys e = absurd (odd n e)
    where
      odd : (m : ℕ) → 1 ≡ 2 * m → ⊥
      odd m h = omega arith
  twos_append n (x ∷ y ∷ xs) ys e = ap (λ (l : List A). make x y ∷ l) (twos_append (n - 1) xs ys (less (length xs) e))
    where
      less : (m : ℕ) → suc (suc m) ≡ 2 * n → m ≡ 2 * (n - 1)
      less m h = omega arith

  -- what is made of two bytes, made anew
  pub twos_map : {B : Type 0} (f : A → B) (other : ℕ → ℕ → B) (bytes : List ℕ) → Below 256 bytes
      → ((x y : ℕ) → x < 256 → y < 256 → f (make x y) ≡ other x y)
      → map f (by_twos make bytes) ≡ by_twos other bytes
  unfolding by_twos
  twos_map f other [] b same = refl
  twos_map f other (x ∷ []) b same = refl
  twos_map {B} f other (x ∷ y ∷ bytes) b same =
      ap₂ (λ (z : B) (l : List B). z ∷ l) (same x y (b 0) (b 1))
      (twos_map f other bytes (λ i. b (suc (suc i))) same)

-- ---- runs of samples

-- every sample of a run has an opposite
abbrev pub AllGood : List ℤ → Type 0
AllGood zs = (i : ℕ) → Good (get_or zs i (pos 0))

pub length_bytes : (zs : List ℤ) → length (bytes_of_all zs) ≡ 2 * length zs
unfolding bytes_of_all
length_bytes [] = refl
length_bytes (z ∷ zs) =
    length-append (bytes_of z) (bytes_of_all zs)
    ∙ ap₂ (λ (m n : ℕ). m + n) (length_digits 256 2 (unsigned z)) (length_bytes zs) ∙ twice (length zs)
  where
    twice : (n : ℕ) → 2 + 2 * n ≡ 2 * suc n
    twice n = omega arith

-- whatever the bytes, what is read has opposites
pub words_good : (bytes : List ℕ) → AllGood (words_of bytes)
unfolding by_twos
words_good [] i = omega arith
words_good (u ∷ []) i = omega arith
words_good (u ∷ l ∷ bytes) zero = read_good (plain_word u l)
words_good (u ∷ l ∷ bytes) (suc i) = words_good bytes i

pub words_of_bytes : (zs : List ℤ) → AllGood zs → words_of (bytes_of_all zs) ≡ zs
unfolding by_twos bytes_of_all digits
words_of_bytes [] good = refl
words_of_bytes (z ∷ zs) good =
    ap₂ (λ (y : ℤ) (ys : List ℤ). y ∷ ys) (word_bytes z (good 0)) (words_of_bytes zs (λ i. good (suc i)))

-- bytes are given back exactly if no word of them is 80 00
pub bytes_of_words : (n : ℕ) (bytes : List ℕ) → length bytes ≡ 2 * n → Below 256 bytes → NoLowest bytes
    → bytes_of_all (words_of bytes) ≡ bytes
unfolding by_twos bytes_of_all
bytes_of_words n [] e b other = refl
bytes_of_words n (u ∷ []) e b other = absurd (odd n e)
  where
    odd : (m : ℕ) → 1 ≡ 2 * m → ⊥
    odd m h = omega arith
bytes_of_words n (u ∷ l ∷ bytes) e b other =
    ap₂ (λ (front rest : List ℕ). front ++ rest) (bytes_word u l (b 0) (b 1) (other 0))
    (bytes_of_words (n - 1) bytes (less (length bytes) e) (λ i. b (suc (suc i))) (λ i. other (suc i)))
  where
    less : (m : ℕ) → suc (suc m) ≡ 2 * n → m ≡ 2 * (n - 1)
    less m h = omega arith

pub bytes_kept : (bytes : List ℕ) → bytes_of_all (words_of bytes) ≡ bytes → NoLowest bytes
unfolding by_twos bytes_of_all digits
bytes_kept [] same i e = omega arith
bytes_kept (u ∷ []) same i e = omega arith
bytes_kept (u ∷ l ∷ bytes) same zero e =
    let z : ℤ = word_of u l in
    bits_kept (plain_word u l)
    (sym (number_bytes z (good_fits z (read_good (plain_word u l)))) ∙ ap (λ (l : List ℕ). number 256 (take 2 l)) same) e
bytes_kept (u ∷ l ∷ bytes) same (suc i) e = bytes_kept bytes (ap (drop 2) same) i e

pub bytes_below : (zs : List ℤ) → Below 256 (bytes_of_all zs)
unfolding bytes_of_all digits
bytes_below [] i = omega arith
bytes_below (z ∷ zs) zero = omega arith
bytes_below (z ∷ zs) (suc zero) = omega arith
bytes_below (z ∷ zs) (suc (suc i)) = bytes_below zs i

-- the two bytes of sample number i
pub byte_upper : (zs : List ℤ) (i : ℕ) → i < length zs
    → get_or (bytes_of_all zs) (2 * i) 0 ≡ unsigned (get_or zs i (pos 0)) / 256 % 256
unfolding bytes_of_all digits
byte_upper [] i h = absurd (omega arith)
byte_upper (z ∷ zs) zero h = refl
byte_upper (z ∷ zs) (suc i) h =
    ap (λ (n : ℕ). get_or (bytes_of_all (z ∷ zs)) n 0) (sym place) ∙ byte_upper zs i (omega arith)
  where
    place : suc (suc (2 * i)) ≡ 2 * suc i
    place = omega arith

pub byte_lower : (zs : List ℤ) (i : ℕ) → i < length zs
    → get_or (bytes_of_all zs) (2 * i + 1) 0 ≡ unsigned (get_or zs i (pos 0)) % 256
unfolding bytes_of_all digits
byte_lower [] i h = absurd (omega arith)
byte_lower (z ∷ zs) zero h = whole (unsigned z)
  where
    whole : (n : ℕ) → n / 1 % 256 ≡ n % 256
    whole n = omega arith
byte_lower (z ∷ zs) (suc i) h =
    ap (λ (n : ℕ). get_or (bytes_of_all (z ∷ zs)) n 0) (sym place) ∙ byte_lower zs i (omega arith)
  where
    place : suc (suc (2 * i + 1)) ≡ 2 * suc i + 1
    place = omega arith

-- ---- samples as bytes under a keystream, where they have no room

pub no_room : (k : Keystream) (output : List ℕ) (at : ℕ) (zs : List ℤ) → length output < at + 2 * length zs
    → output ≡ put output at (enciphered k (bytes_of_all zs))
no_room k output at zs h =
    put_none output at (enciphered k (bytes_of_all zs))
    (omega (arith, length_enciphered k (bytes_of_all zs), length_bytes zs))
