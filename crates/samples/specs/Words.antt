-- A sample as two bytes: a signed word of 16 bits, the most significant byte first.
use Rattle.std.specs.Prelude.{ℕ, ◌+◌, ◌-◌}
use mathlib.Core.{Bool.cond, List.List, List.[], List.◌∷◌, List.◌++◌, List.reverse, Logic.◌≢◌}
use lib.{Dec.eqb, Dec.leb, Dec.ltb, IntN.ℤ, IntN.pos, IntN.negsuc, ListN.length, ListN.get_or}
use Rattle.octets.specs.Digits.{number, number_at, digits}

-- the signed number that 16 bits stand for: from 32,768 on, it is less by 65,536
unfoldable pub signed : ℕ → ℤ
signed n = cond (ltb n 32768) (pos n) (negsuc (65535 - n))

-- the 16 bits that stand for a signed number
unfoldable pub unsigned : ℤ → ℕ
unsigned (pos n) = n
unsigned (negsuc n) = 65535 - n

-- The sample that 16 bits are read as: their signed number, but for 80 00. That is -32768, which has no opposite, and
-- is read as -32767.
unfoldable pub sample_of : ℕ → ℤ
sample_of n = cond (eqb n 0x8000) (negsuc 32766) (signed n)

-- the number that two bytes make
abbrev pub plain_word : ℕ → ℕ → ℕ
plain_word upper lower = number 256 (upper ∷ lower ∷ [])

-- the sample that two bytes are
abbrev pub word_of : ℕ → ℕ → ℤ
word_of upper lower = sample_of (plain_word upper lower)

-- the two bytes that a sample is
abbrev pub bytes_of : ℤ → List ℕ
bytes_of z = digits 256 2 (unsigned z)

-- the eight bytes of a number in the other order
unfoldable pub swapped : ℕ → ℕ
swapped x = number 256 (reverse (digits 256 8 x))

-- the number that eight bytes from `at` make in the other order, or 0 if fewer are there
unfoldable pub eight_from : List ℕ → ℕ → ℕ
eight_from bytes at = cond (leb (at + 8) (length bytes)) (swapped (number_at bytes at 8)) 0

-- what the bytes of a run make by twos
unfoldable pub by_twos : {A : Type 0} → (ℕ → ℕ → A) → List ℕ → List A
by_twos make [] = []
by_twos make (first ∷ []) = []
by_twos make (first ∷ second ∷ bytes) = make first second ∷ by_twos make bytes

-- the words of a run of bytes, and the samples that they are read as
abbrev pub plain_words : List ℕ → List ℕ
plain_words = by_twos plain_word

abbrev pub words_of : List ℕ → List ℤ
words_of = by_twos word_of

-- no word of a run of bytes is 80 00
abbrev pub NoLowest : List ℕ → Type 0
NoLowest bytes = (i : ℕ) → get_or (plain_words bytes) i 0 ≢ 0x8000

-- the run of bytes that samples are
unfoldable pub bytes_of_all : List ℤ → List ℕ
bytes_of_all [] = []
bytes_of_all (z ∷ zs) = bytes_of z ++ bytes_of_all zs
