-- Words moved up or down: a shift by n scales by 2 ^ n, and 64 bits keep the remainder.
use mathlib.Core.Path.{◌≡◌, sym, ap, ap₂, subst, ◌∙◌}
use Prim.Native.Nat.{ℕ, suc, ◌+◌, ◌-◌, ◌*◌, ◌/◌, ◌%◌, ◌^◌, ◌<◌, ◌≤◌}
use native.Mathlib.{Numerals.add-one, Omega.arith}
use native.Mathlib.Nat.{add-zero, add_assoc, add_comm, add-mul, mul_assoc, mul_comm, mul-add-mod_self_right}
use native.Mathlib.Nat.{add-mul-div_right, div-add-mod'}
use lib.Bits.{bit_or, or_shifted}
use lib.Pow.{pow_pos, pow-add, field, mod-mod-pow, mod-pow-add, shr_lt, high, low}

-- the remainder of a number with n known low bits
pub scaled_mod : (x n k r : ℕ) → r < 2 ^ n → (x * 2 ^ n + r) % 2 ^ (k + n) ≡ x % 2 ^ k * 2 ^ n + r
scaled_mod x n k r h =
    mod-pow-add (x * 2 ^ n + r) k n
    ∙ ap₂ (λ (u l : ℕ). u % 2 ^ k * 2 ^ n + l) (high x n h) (low x n h)

-- a word moved up by n bits, with r coming in below
pub moved_up : (n k x r : ℕ) → n + k ≡ 64 → r < 2 ^ n → bit_or (x * 2 ^ n % 2 ^ 64) r ≡ (x * 2 ^ n + r) % 2 ^ 64
moved_up n k x r e h =
    let whole : 64 ≡ k + n = omega arith in
    let scaled : x * 2 ^ n % 2 ^ 64 ≡ x % 2 ^ k * 2 ^ n =
    ap₂ (λ (v p : ℕ). v % 2 ^ p) (sym (add-zero (x * 2 ^ n))) whole ∙ scaled_mod x n k 0 (pow_pos n)
    ∙ add-zero (x % 2 ^ k * 2 ^ n) in
    ap (λ (v : ℕ). bit_or v r) scaled
    ∙ or_shifted (x % 2 ^ k) n r h
    ∙ sym (ap (λ (p : ℕ). (x * 2 ^ n + r) % 2 ^ p) whole ∙ scaled_mod x n k r h)

-- a multiple of a remainder, by its remainder
pub multiple_mod : (m x y r : ℕ) → (x % m * y + r) % m ≡ (x * y + r) % m
multiple_mod m x y r =
    let q : ℕ = x / m in
    sym
    (ap (λ (v : ℕ). (v * y + r) % m) (sym (div-add-mod' x m))
    ∙ ap (λ (v : ℕ). (v + r) % m)
    (add-mul (q * m) (x % m) y
    ∙ ap (λ (v : ℕ). v + x % m * y) (mul_assoc q m y ∙ ap (λ (v : ℕ). q * v) (mul_comm m y) ∙ sym (mul_assoc q y m)))
    ∙ ap (λ (v : ℕ). v % m) (add_assoc (q * y * m) (x % m * y) r)
    ∙ mul-add-mod_self_right (q * y) m (x % m * y + r))

-- a bit of a remainder is the bit
pub low_bit : (x m q : ℕ) → x % 2 ^ (suc m + q) / 2 ^ q % 2 ≡ x / 2 ^ q % 2
low_bit x m q =
    ap (λ (v : ℕ). v % 2) (field x (suc m) q)
    ∙ ap (λ (e : ℕ). x / 2 ^ q % 2 ^ e % 2) (sym (add-one m))
    ∙ mod-mod-pow (x / 2 ^ q) m 1

-- p bits of what a word keeps
pub word_mod : (p x : ℕ) → p ≤ 64 → x % 2 ^ 64 % 2 ^ p ≡ x % 2 ^ p
word_mod p x h =
    let wide : 64 ≡ 64 - p + p = omega arith in
    ap (λ (e : ℕ). x % 2 ^ e % 2 ^ p) wide ∙ mod-mod-pow x (64 - p) p

-- ---- 64 bits of two words

-- the first n bits of a word
pub front_small : (n k : ℕ) {v : ℕ} → n + k ≡ 64 → v < 2 ^ 64 → v / 2 ^ k < 2 ^ n
front_small n k {v} e h = shr_lt n k (subst (λ (p : ℕ). v < 2 ^ p) (sym e) h)

-- two words moved down by k bits
pub moved_down : (upper lower n k : ℕ) → n + k ≡ 64 → (upper * 2 ^ 64 + lower) / 2 ^ k ≡ upper * 2 ^ n + lower / 2 ^ k
moved_down upper lower n k e =
    ap (λ (p : ℕ). (upper * 2 ^ p + lower) / 2 ^ k) (sym e)
    ∙ ap (λ (v : ℕ). (upper * v + lower) / 2 ^ k) (pow-add 2 n k)
    ∙ ap (λ (v : ℕ). v / 2 ^ k) (ap (λ (v : ℕ). v + lower) (sym (mul_assoc upper (2 ^ n) (2 ^ k))) ∙ add_comm _ lower)
    ∙ add-mul-div_right lower (upper * 2 ^ n) (pow_pos k)
    ∙ add_comm (lower / 2 ^ k) (upper * 2 ^ n)

-- two shifts take 64 bits that lie in both
pub both_words : (upper lower n k : ℕ) → n + k ≡ 64 → lower < 2 ^ 64
    → bit_or (upper * 2 ^ n % 2 ^ 64) (lower / 2 ^ k) ≡ (upper * 2 ^ 64 + lower) / 2 ^ k % 2 ^ 64
both_words upper lower n k e h =
    moved_up n k upper (lower / 2 ^ k) e (front_small n k e h)
    ∙ ap (λ (v : ℕ). v % 2 ^ 64) (sym (moved_down upper lower n k e))

-- the upper of them counts for nothing below 2 ^ 64
pub lower_word : (p upper lower : ℕ) → p ≤ 64 → (upper * 2 ^ 64 + lower) % 2 ^ p ≡ lower % 2 ^ p
lower_word p upper lower h =
    sym (word_mod p (upper * 2 ^ 64 + lower) h)
    ∙ ap (λ (x : ℕ). x % 2 ^ p) (mul-add-mod_self_right upper (2 ^ 64) lower)
    ∙ word_mod p lower h
