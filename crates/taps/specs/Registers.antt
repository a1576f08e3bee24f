-- Trivium's internal state and how it moves: ISO/IEC 29192-3, 6.3.2 to 6.3.5, over whole numbers.
use Rattle.std.specs.Prelude.{ℕ, zero, suc, ◌+◌, ◌-◌, ◌*◌, ◌%◌, List, [], ◌∷◌, ◌++◌, replicate}
use Rattle.octets.specs.Digits.{number, bits_of}
pub use Rattle.shift_registers.specs.Registers.{State, ◌⟨i-◌⟩, moved}

-- Three registers, x(i-k) as x ⟨i- k ⟩, and how a register moves: all as `shift_registers` has them. a has 93 bits,
-- b 84 and c 111.

-- a register whose bits are given oldest first
abbrev pub register : List ℕ → ℕ
register bits = number 2 bits

abbrev pub zeros : ℕ → List ℕ
zeros n = replicate n 0

-- 6.3.3 a), the key and the initial value lent as bytes
unfoldable pub loaded : List ℕ → List ℕ → State
loaded key iv =
    record {
      a = register (zeros 13 ++ bits_of key);
      b = register (zeros 4 ++ bits_of iv);
      c = register ((1 ∷ 1 ∷ 1 ∷ []) ++ zeros 108);
    }

-- 6.3.4 a), one rule for the three: the new bit is made of the register `from` of w bits, at `near` and at its three
-- oldest bits, and of the register `own` that it goes into, at `back`
abbrev pub new_bit : ℕ → ℕ → ℕ → ℕ → ℕ → ℕ
new_bit w near back from own =
    (from ⟨i- near ⟩ + from ⟨i- w ⟩ + from ⟨i- w - 1 ⟩ * from ⟨i- w - 2 ⟩ + own ⟨i- back ⟩) % 2

abbrev pub new_a : State → ℕ
new_a s = new_bit 111 66 69 s.c s.a

abbrev pub new_b : State → ℕ
new_b s = new_bit 93 66 78 s.a s.b

abbrev pub new_c : State → ℕ
new_c s = new_bit 84 69 87 s.b s.c

-- 6.3.4 b)
unfoldable pub next : State → State
next s = record { a = moved 93 s.a (new_a s); b = moved 84 s.b (new_b s); c = moved 111 s.c (new_c s) }

-- 6.3.5
unfoldable pub output_bit : State → ℕ
output_bit s = (s.c ⟨i- 66 ⟩ + s.c ⟨i- 111 ⟩ + s.a ⟨i- 66 ⟩ + s.a ⟨i- 93 ⟩ + s.b ⟨i- 69 ⟩ + s.b ⟨i- 84 ⟩) % 2

unfoldable pub steps : ℕ → State → State
steps zero s = s
steps (suc n) s = steps n (next s)

-- 6.3.3 b) and c): the blank rounds
abbrev pub warm_up : ℕ
warm_up = 1152

abbrev pub started : List ℕ → List ℕ → State
started key iv = steps warm_up (loaded key iv)
