-- Exclusive or and conjunction, bit by bit: each law follows from the library's law on the two lowest bits.
use mathlib.Core.Path.{◌≡◌, ap, ◌∙◌}
use Prim.Native.Nat.{ℕ, zero, suc, ◌+◌, ◌*◌, ◌/◌, ◌%◌, ◌<◌, min}
use native.Mathlib.Omega.{arith}
use lib.Arith.{bin_ind}
use lib.Bits.{bit_xor, bit_and, and_step, xor_add_and, xor_zero_l, xor_self, xor_shr}

-- the lowest bit of an exclusive or is the sum modulo 2
pub xor_low : (x y : ℕ) → bit_xor x y % 2 ≡ (x % 2 + y % 2) % 2
xor_low x y = omega (arith, xor_add_and x y)

-- the lowest bit of a conjunction is the product
pub and_low : (x y : ℕ) → bit_and x y % 2 ≡ (x % 2) * (y % 2)
and_low x y =
    let step : bit_and x y ≡ bit_and (x / 2) (y / 2) * 2 + min (x % 2) (y % 2) = and_step x y in
    let low : bit_and x y % 2 ≡ min (x % 2) (y % 2) = omega arith in
    low ∙ product (x % 2) (y % 2) (omega arith) (omega arith)
  where
    product : (p q : ℕ) → p < 2 → q < 2 → min p q ≡ p * q
    product zero q hp hq = omega arith
    product (suc zero) q hp hq = omega arith
    product (suc (suc p)) q hp hq = absurd (omega arith)

-- a number is its half and its lowest bit
halves : (x y : ℕ) → x / 2 ≡ y / 2 → x % 2 ≡ y % 2 → x ≡ y
halves x y h l = omega arith

pub xor_half : (x y : ℕ) → bit_xor x y / 2 ≡ bit_xor (x / 2) (y / 2)
xor_half x y = xor_shr x y 1

pub xor_twice : (x z : ℕ) → bit_xor (bit_xor x z) z ≡ x
xor_twice =
    bin_ind (λ (x : ℕ). (z : ℕ) → bit_xor (bit_xor x z) z ≡ x)
    (λ z. ap (λ (y : ℕ). bit_xor y z) (xor_zero_l z) ∙ xor_self z)
    (λ x h z.
    halves (bit_xor (bit_xor x z) z) x
    (xor_half (bit_xor x z) z ∙ ap (λ (y : ℕ). bit_xor y (z / 2)) (xor_half x z) ∙ h (z / 2))
    (let outer : bit_xor (bit_xor x z) z % 2 ≡ (bit_xor x z % 2 + z % 2) % 2 = xor_low (bit_xor x z) z in
    let inner : bit_xor x z % 2 ≡ (x % 2 + z % 2) % 2 = xor_low x z in
    omega arith))
