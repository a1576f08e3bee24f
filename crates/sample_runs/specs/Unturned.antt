-- Samples read in two steps: taken as they stand, as if the least significant byte came first, and turned. That this is what
-- they are read as is a law of its own (proofs/Samples); `read_words` takes both steps at once.
use Rattle.std.specs.Prelude.{ℕ, ◌/◌, ◌%◌, List, map}
use lib.{IntN.ℤ, ListN.take}
use Rattle.samples.specs.Words.{signed, unsigned, plain_word, word_of, by_twos}

-- the number that two bytes are if the first is the least significant, and the numbers that a run of bytes so is
abbrev pub low_first : ℕ → ℕ → ℤ
low_first first second = signed (plain_word second first)

abbrev pub unturned : List ℕ → List ℤ
unturned = by_twos low_first

-- the sample that the two bytes of such a number are
abbrev pub turned : ℤ → ℤ
turned z = word_of (unsigned z % 256) (unsigned z / 256)

-- the first so many of a run, turned
unfoldable pub turned_front : ℕ → List ℤ → List ℤ
turned_front count run = map turned (take count run)
