-- The finite fields of ISO/IEC 29192-3, 6.1.1 and 6.1.8. An element of GF(2 ^ n) is the number below 2 ^ n whose bits
-- are its coefficients.
use Rattle.std.specs.Prelude.{ℕ, ◌*◌, ◌^◌, cond}
use lib.{Bits.bit_xor, Dec.ltb}

-- 0x02 ⊗ x in GF(2 ^ n), modulo a polynomial of degree n: what no longer fits is taken away
unfoldable pub doubled : ℕ → ℕ → ℕ → ℕ
doubled n polynomial x = cond (ltb (2 * x) (2 ^ n)) (2 * x) (bit_xor (2 * x) polynomial)

-- 6.1.1: x^8 + x^4 + x^3 + x^2 + 1
abbrev pub phi8432 : ℕ
phi8432 = 285

-- 6.1.8: x^4 + x + 1
abbrev pub phi41 : ℕ
phi41 = 19

-- 0x02 ⊗ x in the field of bytes, and 0x4 ⊗ x in the field of halves of bytes
abbrev pub twice : ℕ → ℕ
twice x = doubled 8 phi8432 x

abbrev pub fourfold : ℕ → ℕ
fourfold x = doubled 4 phi41 (doubled 4 phi41 x)
