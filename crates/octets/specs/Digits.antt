-- Numbers as runs of digits, the most significant first: bits (base 2) and bytes (base 256) alike.
use Rattle.std.specs.Prelude.{ℕ, zero, suc, ◌+◌, ◌*◌, ◌/◌, ◌%◌, ◌^◌, List, [], ◌∷◌, ◌++◌}
use Rattle.octets.specs.Buffers.{slice}

-- the number that the digits go on to make of what stands before them
unfoldable pub number_after : ℕ → ℕ → List ℕ → ℕ
number_after base before [] = before
number_after base before (d ∷ ds) = number_after base (before * base + d) ds

-- the number with these digits
abbrev pub number : ℕ → List ℕ → ℕ
number base ds = number_after base 0 ds

-- the last n digits of x
unfoldable pub digits : ℕ → ℕ → ℕ → List ℕ
digits base zero x = []
digits base (suc n) x = x / base ^ n % base ∷ digits base n x

-- The byte rule: bit 0 is the most significant bit of the first byte, bit 7 its least, bit 8 the most significant of
-- the second.
unfoldable pub bits_of : List ℕ → List ℕ
bits_of [] = []
bits_of (x ∷ xs) = digits 2 8 x ++ bits_of xs

-- the byte whose bits these eight are, by the same rule
abbrev pub byte_of : List ℕ → ℕ
byte_of bits = number 2 bits

-- the number that n bytes from `at` make, or as many as are there
abbrev pub number_at : List ℕ → ℕ → ℕ → ℕ
number_at bytes at n = number 256 (slice bytes at n)

-- what 64 bits keep of a number
abbrev pub word : ℕ → ℕ
word n = n % 2 ^ 64
