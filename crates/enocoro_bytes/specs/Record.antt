-- Enocoro's record as bytes: the two bytes a, then the 32 bytes b, in their order.
use Rattle.std.specs.Prelude.{ℕ, List, [], ◌∷◌, get_or}
use Rattle.octets.specs.Rows.{row, numbers_at}
use Rattle.enocoro.specs.declared.Registers.{Registers}

-- a0 and a1, and b in words of eight bytes
abbrev pub enocoro_widths : List ℕ
enocoro_widths = 1 ∷ 1 ∷ 8 ∷ 8 ∷ 8 ∷ 8 ∷ []

abbrev pub enocoro_size : ℕ
enocoro_size = 34

abbrev pub enocoro_numbers : Registers → List ℕ
enocoro_numbers r = r.a0 ∷ r.a1 ∷ r.b0 ∷ r.b1 ∷ r.b2 ∷ r.b3 ∷ []

unfoldable pub enocoro_bytes : Registers → List ℕ
enocoro_bytes r = row enocoro_widths (enocoro_numbers r)

-- what is read back
abbrev pub registers_of : List ℕ → Registers
registers_of x =
    record { a0 = get_or x 0 0; a1 = get_or x 1 0; b0 = get_or x 2 0; b1 = get_or x 3 0; b2 = get_or x 4 0; b3 = get_or x 5 0 }

unfoldable pub enocoro_in : List ℕ → Registers
enocoro_in bytes = registers_of (numbers_at enocoro_widths bytes 0)
