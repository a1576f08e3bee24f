-- A row: numbers one after the other, each in as many bytes as its width says, the most significant first.
use Rattle.std.specs.Prelude.{ℕ, ◌+◌, ◌^◌, ◌<◌, List, [], ◌∷◌, ◌++◌, get_or, drop}
use Rattle.octets.specs.Digits.{digits, number_at}

-- the bytes of numbers with these widths; a number that isn't given is 0
unfoldable pub row : List ℕ → List ℕ → List ℕ
row [] numbers = []
row (width ∷ widths) numbers = digits 256 width (get_or numbers 0 0) ++ row widths (drop 1 numbers)

-- the numbers with these widths that stand in bytes from `at` on
unfoldable pub numbers_at : List ℕ → List ℕ → ℕ → List ℕ
numbers_at [] bytes at = []
numbers_at (width ∷ widths) bytes at = number_at bytes at width ∷ numbers_at widths bytes (at + width)

-- how many bytes a row has
abbrev pub row_length : List ℕ → ℕ
row_length [] = 0
row_length (width ∷ widths) = width + row_length widths

-- there are as many numbers as widths, and each fits its own
abbrev pub Fits : List ℕ → List ℕ → Type 0
Fits [] [] = Unit
Fits [] (x ∷ numbers) = ⊥
Fits (width ∷ widths) [] = ⊥
Fits (width ∷ widths) (x ∷ numbers) = (x < 256 ^ width) × Fits widths numbers
