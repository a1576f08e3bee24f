-- The other byte rule: bits with the least significant of a byte first. `Digits` has the rule with the most significant
-- first.
use Rattle.std.specs.Prelude.{ℕ, zero, suc, ◌+◌, ◌*◌, ◌/◌, ◌%◌, List, [], ◌∷◌, ◌++◌}
use Rattle.octets.specs.Digits.{number}

-- the n lowest bits of x, the least significant first
unfoldable pub bits_up : ℕ → ℕ → List ℕ
bits_up zero x = []
bits_up (suc n) x = x % 2 ∷ bits_up n (x / 2)

-- the number that has these bits, the least significant first
unfoldable pub number_up : List ℕ → ℕ
number_up [] = 0
number_up (d ∷ ds) = d + 2 * number_up ds

-- the bits of a run of bytes by this rule
unfoldable pub bits_up_of : List ℕ → List ℕ
bits_up_of [] = []
bits_up_of (x ∷ xs) = bits_up 8 x ++ bits_up_of xs

-- a word of 64 bits with its bits in the other order
unfoldable pub turned : ℕ → ℕ
turned x = number 2 (bits_up 64 x)
