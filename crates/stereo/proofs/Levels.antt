-- A sample divided by 32,768 is the float that the fields say: both have the sample's sign and value and fit, and a
-- float that fits is known by these. The value is exact, since a sample has at most 16 binary digits.
use mathlib.Core.Path.{◌≡◌, refl, sym, ap, ap₂, ◌∙◌, subst}
use mathlib.Core.Bool.{Bool, true, false, cond}
use Prim.Native.Nat.{ℕ, zero, suc, ◌+◌, ◌-◌, ◌*◌, ◌/◌, ◌^◌, ◌≤◌, ◌<◌}
use native.Mathlib.Nat.{mul_assoc, mul_comm, mul_right_comm, mul-pos, mul-div_cancel, mul-le-mul_right}
use native.Mathlib.Nat.{eq_of_mul-eq-mul_right, lt_of_lt_of_le, add-sub_of_le}
use native.Mathlib.Omega.{arith}
use borrow.Author.Tests.{ne_eqb}
use lib.{IntN.ℤ, IntN.pos, IntN.negsuc, IntN.nat_abs, Dec.T, Dec.lit<, Dec.lit≤}
use lib.Pow.{pow-add, pow_pos, pow_mono, shl_lt}
use lib.Ieee.{Float, nan, inf, fin, Format, binary32, prec, low, hid, top, up, down, size, odd, round, of_fields, fits}
use lib.Ieee.{of_bits, to_bits, of_int, div, unlike}
use lib.Ieee.{Digits.size-lt, Digits.size_reaches, Digits.size-le, Bits.of_bits-to_bits, Nearest.div_same}
use lib.Ieee.{Scale.round_same, Back.round_whole, Exact.HasValue, Exact.odd_sign, Exact.round_exact}
use lib.Ieee.Fits.{down_pos, odd-fits, round-fits}
use Rattle.stereo.specs.Levels.{negative, highest_one, exponent_of, fraction_of, FieldsExact, level_of}
use Rattle.stereo.specs.Levels.{with_sign, sample_at, SampleBack}

-- ---- floats by sign and value

-- the pattern of a float of the sign s that is n of the format's smallest values in size
abbrev pattern : Format → Bool → ℕ → ℕ
pattern f s n = let k = size n - prec f in cond s (top f) 0 + k * hid f + n / 2 ^ k

pattern_is : (f : Format) (x : Float) (s : Bool) (a c : ℕ) → 0 < c → HasValue x s a c
    → to_bits f x ≡ pattern f s (a * 2 ^ low f / c)
unfolding to_bits
pattern_is f nan s a c h v = absurd v
pattern_is f (inf t) s a c h v = absurd v
pattern_is f (fin t m e) s a c h v =
    let l = 2 ^ low f in
    let same : m * up e * l / down e ≡ a * l / c =
    div_same (m * up e * l) (down e) (a * l) c (down_pos e) h
    (mul_right_comm (m * up e) l c ∙ ap (λ (n : ℕ). n * l) v.1 ∙ mul_right_comm a (down e) l) in
    λ i. pattern f (v.0 i) (same i)

pub same_float : (f : Format) (x y : Float) (s : Bool) (a c : ℕ) → 0 < c → T (fits f x) → T (fits f y)
    → HasValue x s a c → HasValue y s a c → x ≡ y
same_float f x y s a c h p q v w =
    sym (of_bits-to_bits f x p)
    ∙ ap (of_bits f) (pattern_is f x s a c h v ∙ sym (pattern_is f y s a c h w))
    ∙ of_bits-to_bits f y q

-- ---- a sample's fields

-- a number above 0 has a digit
some_digits : (n d : ℕ) → 0 < n → n < 2 ^ d → 0 < d
some_digits n zero h k = omega arith
some_digits n (suc d) h k = omega arith

pub exact : FieldsExact
unfolding exponent_of fraction_of
exact zero h k = elim h [ ]
exact (suc m) h k =
    let n : ℕ = suc m in
    let p : ℕ = highest_one n in
    let some : 0 < size n = some_digits n (size n) h (size-lt n) in
    let few : size n ≤ 16 = size-le n 16 (omega arith) in
    let above : 2 ^ p ≤ n = size_reaches n p (omega arith) in
    let below : n < 2 ^ (p + 1) = subst (λ (d : ℕ). n < 2 ^ d) (omega arith) (size-lt n) in
    let x : ℕ = n * 2 ^ (23 - p) in
    let two : 2 ^ p * 2 ^ (23 - p) ≡ 2 ^ 23 =
    sym (pow-add 2 p (23 - p)) ∙ ap (λ (d : ℕ). 2 ^ d) (add-sub_of_le (omega arith)) in
    let least : 2 ^ 23 ≤ x = subst (λ (y : ℕ). y ≤ x) two (mul-le-mul_right (2 ^ (23 - p)) above) in
    let most : x < 2 ^ 24 = subst (λ (d : ℕ). x < 2 ^ d) {y = 24} (omega arith) (shl_lt (p + 1) (23 - p) below) in
    let lead : 2 ^ 23 + (x - 2 ^ 23) ≡ x = omega arith in
    let place : 112 + p - 112 ≡ p = omega arith in
    record {
      above = above;
      below = below;
      value =
          ap₂ (λ (y d : ℕ). y * 2 ^ d) lead place
          ∙ mul_assoc n (2 ^ (23 - p)) (2 ^ p)
          ∙ ap (λ (y : ℕ). n * y) (mul_comm (2 ^ (23 - p)) (2 ^ p) ∙ two);
      fraction = omega arith;
      exponent = omega arith;
    }

-- ---- both sides of the equation

-- the same value as another fraction
rescale : (x : Float) (s : Bool) (a b c d : ℕ) → 0 < b → c * b ≡ a * d → HasValue x s a b → HasValue x s c d
rescale nan s a b c d h e v = v
rescale (inf t) s a b c d h e v = v
rescale (fin t m g) s a b c d h e v = (
  v.0,
  eq_of_mul-eq-mul_right b h (m * up g * d) (c * down g)
      (mul_right_comm (m * up g) d b ∙ ap (λ (n : ℕ). n * d) v.1 ∙ mul_right_comm a (down g) d
      ∙ ap (λ (n : ℕ). n * down g) (sym e) ∙ mul_right_comm c b (down g)),
)

-- a field that is neither 0 nor all ones has a leading digit
fields : (s : Bool) (x t : ℕ) → 0 < x → x < 255 → of_fields binary32 s x t ≡ odd 24 s (2 ^ 23 + t) (x - 1) 149
unfolding of_fields
fields s zero t h k = elim h [ ]
fields s (suc x) t h k =
    let same : x ≡ suc x - 1 = omega arith in
    rw (ne_eqb (suc x) 255 (λ e. omega arith)) (ap (λ (d : ℕ). odd 24 s (2 ^ 23 + t) d 149) same)

-- from units of the smallest value, 2 ^ -149, to those of a sample's
moved : (n q d : ℕ) → q * 2 ^ d ≡ n * 2 ^ 23 → n * 2 ^ 149 ≡ q * 2 ^ (d + 111) * 32768
moved n q d e =
    sym (mul_assoc n (2 ^ 23) (2 ^ 126)) ∙ ap (λ (y : ℕ). y * 2 ^ 126) (sym e)
    ∙ sym (mul_assoc (q * 2 ^ d) (2 ^ 111) (2 ^ 15))
    ∙ ap (λ (y : ℕ). y * 32768) (mul_assoc q (2 ^ d) (2 ^ 111) ∙ ap (λ (y : ℕ). q * y) (sym (pow-add 2 d 111)))

-- a float that is n / 32768 in size
abbrev Is : Float → Bool → ℕ → Type 0
Is x s n = T (fits binary32 x) × HasValue x s n 32768

-- far from the largest floats
in_room : (q j k : ℕ) → q < 2 ^ j → j + k ≤ 277 → q * 2 ^ k < 2 ^ 277
in_room q j k h l = lt_of_lt_of_le (shl_lt j k h) (pow_mono l)

level_is : (s : Bool) (n : ℕ) → 0 < n → n ≤ 32768 → Is (of_fields binary32 s (exponent_of n) (fraction_of n)) s n
unfolding exponent_of
level_is s zero h k = elim h [ ]
level_is s (suc m) h k =
    let n : ℕ = suc m in
    let q : ℕ = 2 ^ 23 + fraction_of n in
    let x : ℕ = exponent_of n in
    let e = exact n h k in
    let up : x - 112 + 111 ≡ x - 1 = omega arith in
    subst (λ (y : Float). Is y s n) (sym (fields s x (fraction_of n) (omega arith) (omega arith))) (
      odd-fits binary32 24 s q (x - 1) (omega arith) (omega arith) (in_room q 24 (x - 1) (omega arith) (omega arith)),
      rescale (odd 24 s q (x - 1) 149) s (q * 2 ^ (x - 1)) (2 ^ 149) n 32768 (pow_pos 149)
          (moved n q (x - 112) e.value ∙ ap (λ (d : ℕ). q * 2 ^ d * 32768) up) (odd_sign 24 s q (x - 1) 149),
    )

quotient_is : (x : Float) (s : Bool) (n : ℕ) → n ≤ 32768 → HasValue x s n 1
    → Is (div binary32 x (fin false 1 (pos 15))) s n
unfolding div
quotient_is nan s n h v = absurd v
quotient_is (inf t) s n h v = absurd v
quotient_is (fin t m e) s n h v =
    let same : round binary32 (unlike t false) (m * up e * 1) (32768 * down e) ≡ round binary32 s n 32768 =
    ap (λ (u : Bool). round binary32 u (m * up e * 1) (32768 * down e)) (plain t ∙ v.0)
    ∙ round_same binary32 s (m * up e * 1) (32768 * down e) n 32768 (mul-pos (lit< tt) (down_pos e)) (lit< tt)
    (ap (λ (y : ℕ). y * 32768) v.1 ∙ mul_assoc n (down e) 32768 ∙ ap (λ (y : ℕ). n * y) (mul_comm (down e) 32768)) in
    subst (λ (y : Float). Is y s n) (sym same) (
      round-fits binary32 s n 32768,
      round_exact binary32 s n 32768 n 134 (lit< tt) (omega arith) (in_room n 16 134 (omega arith) (lit≤ tt))
          (sym (mul_assoc n (2 ^ 134) 32768)),
    )
  where
    plain : (t : Bool) → unlike t false ≡ t
    plain true = refl
    plain false = refl

whole : (z : ℤ) → nat_abs z ≤ 32768 → HasValue (of_int binary32 z) (negative z) (nat_abs z) 1
unfolding of_int
whole (pos n) h = round_whole binary32 false n (omega arith)
whole (negsuc n) h = round_whole binary32 true (suc n) (omega arith)

-- the pattern of 32,768.0, which is 2 ^ 15, has the exponent 15 and no digits
pub divided : (z : ℤ) (bits : ℕ) → 0 < nat_abs z → nat_abs z ≤ 32768 → bits ≡ (127 + 15) * 2 ^ 23
    → div binary32 (of_int binary32 z) (of_bits binary32 bits) ≡ level_of z
unfolding level_of of_bits
divided z bits h k e =
    let x : Float = div binary32 (of_int binary32 z) (fin false 1 (pos 15)) in
    let there = quotient_is (of_int binary32 z) (negative z) (nat_abs z) k (whole z k) in
    let level = level_is (negative z) (nat_abs z) h k in
    ap (λ (b : ℕ). div binary32 (of_int binary32 z) (of_bits binary32 b)) e
    ∙ same_float binary32 x (level_of z) (negative z) (nat_abs z) 32768 (lit< tt) there.0 level.0 there.1
    level.1

-- ---- the way back

sample_of_lem : (x : Float) (s : Bool) (n : ℕ) → HasValue x s n 32768 → sample_at x ≡ with_sign s n
unfolding sample_at
sample_of_lem nan s n v = absurd v
sample_of_lem (inf t) s n v = absurd v
sample_of_lem (fin t m e) s n v =
    let size : m * up e * 32768 / down e ≡ n = ap (λ (y : ℕ). y / down e) v.1 ∙ mul-div_cancel n (down_pos e) in
    λ i. with_sign (v.0 i) (size i)

pub back : SampleBack
unfolding level_of
back (pos zero) h = unfold level_of sample_at of_fields exponent_of fraction_of in refl
back (pos (suc n)) h = sample_of_lem (level_of (pos (suc n))) false (suc n) (level_is false (suc n) (omega arith) h).1
back (negsuc n) h = sample_of_lem (level_of (negsuc n)) true (suc n) (level_is true (suc n) (omega arith) h).1
