-- The laws of digits: what stands before is scaled by the base for each digit, so reading and writing are inverse.
use mathlib.Core.Path.{◌≡◌, refl, sym, ap, ap₂, subst, ◌∙◌}
use mathlib.Core.List.{List, [], ◌∷◌, ◌++◌}
use Prim.Native.Nat.{ℕ, zero, suc, ◌+◌, ◌-◌, ◌*◌, ◌/◌, ◌%◌, ◌^◌, ◌<◌, ◌≤◌}
use native.Mathlib.Nat.{add-zero, zero-add, zero-mul, mul-one, add-mul, mul_assoc, mul_comm, pow-suc, pow-succ'}
use native.Mathlib.Nat.{pow-zero, mod-one, mod-lt, mod-eq_of_lt, mul-add-mod_self_right, one-le-pow, lt_of_lt_of_le}
use native.Mathlib.Nat.{pow-le-pow_right}
use native.Mathlib.Omega.{arith}
use lib.Arith.{digits_lt, digits_div, digits_mod, mod-mul}
use lib.ListN.{length, get_or, take, drop, length-take}
use lib.Seq.{get_or-drop, take-take, take_all}
use Rattle.std.specs.Int.{from_be_bytes, to_be_bytes, w64}
use Rattle.octets.specs.Buffers.{slice}
use Rattle.octets.specs.Digits.{number, number_at, number_after, digits, bits_of, word}
use Rattle.octets.proofs.Slices.{length_slice, slice_add, neighbours, slice_read}

-- every element is below the bound
abbrev pub Below : ℕ → List ℕ → Type 0
Below bound xs = (i : ℕ) → get_or xs i 0 < bound

pub below_take : {bound : ℕ} (n : ℕ) (xs : List ℕ) → Below bound xs → Below bound (take n xs)
below_take zero xs b i = nothing (b 0)
  where
    nothing : {x bound : ℕ} → x < bound → 0 < bound
    nothing h = omega arith
below_take (suc n) [] b i = b i
below_take (suc n) (x ∷ xs) b zero = b 0
below_take (suc n) (x ∷ xs) b (suc i) = below_take n xs (λ k. b (suc k)) i

pub below_drop : {bound : ℕ} (n : ℕ) (xs : List ℕ) → Below bound xs → Below bound (drop n xs)
below_drop {bound} n xs b i = subst (λ (x : ℕ). x < bound) (sym (get_or-drop n xs i 0)) (b (n + i))

pub below_slice : {bound : ℕ} (xs : List ℕ) (at n : ℕ) → Below bound xs → Below bound (slice xs at n)
below_slice xs at n b = below_take n (drop at xs) (below_drop at xs b)

pub after_append : (base before : ℕ) (xs ys : List ℕ)
    → number_after base before (xs ++ ys) ≡ number_after base (number_after base before xs) ys
unfolding number_after
after_append base before [] ys = refl
after_append base before (x ∷ xs) ys = after_append base (before * base + x) xs ys

scaled : (a base x p n : ℕ) → (a * base + x) * p + n ≡ a * (p * base) + ((0 * base + x) * p + n)
scaled a base x p n =
    let outer : (a * base + x) * p ≡ a * (p * base) + x * p =
    add-mul (a * base) x p ∙ ap (λ (v : ℕ). v + x * p) (mul_assoc a base p ∙ ap (λ (v : ℕ). a * v) (mul_comm base p)) in
    let inner : (0 * base + x) * p ≡ x * p =
    ap (λ (v : ℕ). (v + x) * p) (zero-mul base) ∙ ap (λ (v : ℕ). v * p) (zero-add x) in
    omega arith

-- what stands before counts for base ^ n, with n digits behind it
pub after_scaled : (base before : ℕ) (xs : List ℕ)
    → number_after base before xs ≡ before * base ^ length xs + number base xs
unfolding number_after
after_scaled base before [] =
    sym (ap (λ (p : ℕ). before * p + 0) (pow-zero base) ∙ add-zero (before * 1) ∙ mul-one before)
after_scaled base before (x ∷ xs) =
    after_scaled base (before * base + x) xs
    ∙ scaled before base x (base ^ length xs) (number base xs)
    ∙ ap₂ (λ (p n : ℕ). before * p + n) (sym (pow-suc base (length xs))) (sym (after_scaled base (0 * base + x) xs))

pub number_append : (base : ℕ) (xs ys : List ℕ)
    → number base (xs ++ ys) ≡ number base xs * base ^ length ys + number base ys
number_append base xs ys = after_append base 0 xs ys ∙ after_scaled base (number base xs) ys

-- a first digit counts for base ^ n
pub number_cons : (base x : ℕ) (xs : List ℕ) → number base (x ∷ xs) ≡ x * base ^ length xs + number base xs
unfolding number_after
number_cons base x xs =
    after_scaled base (0 * base + x) xs
    ∙ ap (λ (v : ℕ). v * base ^ length xs + number base xs) (ap (λ (v : ℕ). v + x) (zero-mul base) ∙ zero-add x)

pub number_below : (base : ℕ) (xs : List ℕ) → Below base xs → number base xs < base ^ length xs
unfolding number_after
number_below base [] b = rw pow-zero (omega arith)
number_below base (x ∷ xs) b =
    rw (number_cons base x xs, pow-suc base (length xs), mul_comm (base ^ length xs) base)
    (digits_lt (b 0) (number_below base xs (λ i. b (suc i))))

pub length_digits : (base n x : ℕ) → length (digits base n x) ≡ n
unfolding digits
length_digits base zero x = refl
length_digits base (suc n) x = ap suc (length_digits base n x)

-- the digits below base ^ n, then the next one
place : (base : ℕ) → 0 < base → (n x : ℕ) → x % base ^ suc n ≡ (x / base ^ n % base) * base ^ n + x % base ^ n
place base p n x = ap (λ (v : ℕ). x % v) (pow-succ' base n) ∙ mod-mul x p (one-le-pow n base p)

-- the last n digits show only the remainder by base ^ n
pub digits_same : (base : ℕ) → 0 < base → (n x y : ℕ) → x % base ^ n ≡ y % base ^ n → digits base n x ≡ digits base n y
unfolding digits
digits_same base p zero x y e = refl
digits_same base p (suc n) x y e =
    let both : (x / base ^ n % base) * base ^ n + x % base ^ n ≡ (y / base ^ n % base) * base ^ n + y % base ^ n =
    sym (place base p n x) ∙ e ∙ place base p n y in
    let low : (v : ℕ) → v % base ^ n < base ^ n = λ v. mod-lt v (one-le-pow n base p) in
    ap₂ (λ (d : ℕ) (ds : List ℕ). d ∷ ds)
    (sym (digits_div (x / base ^ n % base) (low x)) ∙ ap (λ (v : ℕ). v / base ^ n) both
    ∙ digits_div (y / base ^ n % base) (low y))
    (digits_same base p n x y
    (sym (digits_mod (x / base ^ n % base) (low x)) ∙ ap (λ (v : ℕ). v % base ^ n) both
    ∙ digits_mod (y / base ^ n % base) (low y)))

pub digits_number : (base : ℕ) → 0 < base → (xs : List ℕ) → Below base xs
    → digits base (length xs) (number base xs) ≡ xs
unfolding digits number_after
digits_number base p [] b = refl
digits_number base p (x ∷ xs) b =
    let rest : Below base xs = λ i. b (suc i) in
    let small : number base xs < base ^ length xs = number_below base xs rest in
    ap₂ (λ (d : ℕ) (ds : List ℕ). d ∷ ds)
    (ap (λ (v : ℕ). v / base ^ length xs % base) (number_cons base x xs)
    ∙ ap (λ (v : ℕ). v % base) (digits_div x small)
    ∙ mod-eq_of_lt (b 0))
    (digits_same base p (length xs) (number base (x ∷ xs)) (number base xs)
    (ap (λ (v : ℕ). v % base ^ length xs) (number_cons base x xs)
    ∙ mul-add-mod_self_right x (base ^ length xs) (number base xs))
    ∙ digits_number base p xs rest)

pub number_digits : (base : ℕ) → 0 < base → (n x : ℕ) → number base (digits base n x) ≡ x % base ^ n
unfolding digits number_after
number_digits base p zero x = sym (ap (λ (v : ℕ). x % v) (pow-zero base) ∙ mod-one x)
number_digits base p (suc n) x =
    number_cons base (x / base ^ n % base) (digits base n x)
    ∙ ap₂ (λ (k v : ℕ). (x / base ^ n % base) * base ^ k + v) (length_digits base n x) (number_digits base p n x)
    ∙ sym (place base p n x)

-- a number below the base is its own digit
pub one_digit : (base x : ℕ) → x < base → digits base 1 x ≡ x ∷ []
unfolding digits
one_digit base x h =
    ap (λ (y : ℕ). y ∷ [])
    (ap (λ (p : ℕ). x / p % base) (pow-zero base) ∙ ap (λ (y : ℕ). y % base) whole ∙ mod-eq_of_lt h)
  where
    whole : x / 1 ≡ x
    whole = omega arith

-- one digit more
pub number_snoc : (base : ℕ) (xs : List ℕ) (x : ℕ) → number base (xs ++ (x ∷ [])) ≡ number base xs * base + x
unfolding number_after
number_snoc base xs x = after_append base 0 xs (x ∷ [])

-- digit number i of n
pub digit_at : (base n x i : ℕ) → i < n → get_or (digits base n x) i 0 ≡ x / base ^ (n - 1 - i) % base
unfolding digits
digit_at base zero x i h = absurd (omega arith)
digit_at base (suc n) x zero h = ap (λ (p : ℕ). x / base ^ p % base) whole
  where
    whole : n ≡ suc n - 1 - 0
    whole = omega arith
digit_at base (suc n) x (suc i) h = digit_at base n x i (omega arith) ∙ ap (λ (p : ℕ). x / base ^ p % base) same
  where
    same : n - 1 - i ≡ suc n - 1 - suc i
    same = omega arith

-- the bits of bytes make the number that the bytes make
pub bits_number : (before : ℕ) (xs : List ℕ) → Below 256 xs
    → number_after 2 before (bits_of xs) ≡ number_after 256 before xs
unfolding bits_of number_after
bits_number before [] b = refl
bits_number before (x ∷ xs) b =
    after_append 2 before (digits 2 8 x) (bits_of xs)
    ∙ ap (λ (v : ℕ). number_after 2 v (bits_of xs))
    (after_scaled 2 before (digits 2 8 x)
    ∙ ap₂ (λ (k v : ℕ). before * 2 ^ k + v) (length_digits 2 8 x)
    (number_digits 2 (omega arith) 8 x ∙ mod-eq_of_lt (b 0)))
    ∙ bits_number (before * 256 + x) xs (λ i. b (suc i))

-- ---- numbers read from a run

-- n bytes, or as many as are there, make a number below 256 ^ n
pub number_at_below : (bytes : List ℕ) (at n : ℕ) → Below 256 bytes → number_at bytes at n < 256 ^ n
number_at_below bytes at n b =
    let some : List ℕ = slice bytes at n in
    let short : length some ≤ n = simp length-take (omega arith) in
    lt_of_lt_of_le (number_below 256 some (below_slice bytes at n b)) (pow-le-pow_right {n = 256} (omega arith) short)

-- eight of them fill no more than a word
pub number_read : (bytes : List ℕ) (at n : ℕ) → Below 256 bytes → n ≤ 8
    → word (number_at bytes at n) ≡ number_at bytes at n
number_read bytes at n b small =
    mod-eq_of_lt (lt_of_lt_of_le (number_at_below bytes at n b) (pow-le-pow_right {n = 256} (omega arith) small))

-- n bytes that are there are the digits of their number
pub digits_read : (bytes : List ℕ) (at n : ℕ) → at + n ≤ length bytes → Below 256 bytes
    → digits 256 n (number_at bytes at n) ≡ slice bytes at n
digits_read bytes at n h b =
    ap (λ (k : ℕ). digits 256 k (number_at bytes at n)) (sym (length_slice bytes at n h))
    ∙ digits_number 256 (omega arith) (slice bytes at n) (below_slice bytes at n b)

-- n bytes that are lent by themselves, as `&bytes[at..at + n]`, make the number that they make where they stand
pub number_lent : (bytes : List ℕ) (at n : ℕ) → number_at (slice bytes at (at + n - at)) 0 n ≡ number_at bytes at n
number_lent bytes at n = ap (number 256) (take-take n (at + n - at) (drop at bytes) (omega arith))

-- two numbers that stand behind each other
pub numbers_joined : (bytes : List ℕ) (at m n : ℕ) → at + m + n ≤ length bytes
    → number_at bytes at m * 256 ^ n + number_at bytes (at + m) n ≡ number_at bytes at (m + n)
numbers_joined bytes at m n h =
    ap (λ (k : ℕ). number_at bytes at m * 256 ^ k + number_at bytes (at + m) n) (sym (length_slice bytes (at + m) n h))
    ∙ sym (ap (number 256) (slice_add bytes at m n) ∙ number_append 256 (slice bytes at m) (slice bytes (at + m) n))

-- what a word keeps of so few bytes is all of it
pub word_read : (bytes : List ℕ) (at n : ℕ) {w : ℕ} → Below 256 bytes → n ≤ 8 → w ≡ word (number_at bytes at n)
    → (w ≡ number_at bytes at n) × (w < 256 ^ n)
word_read bytes at n b small e =
    let all = e ∙ number_read bytes at n b small in
    (all, rw all (number_at_below bytes at n b))

-- ---- eight bytes as the library joins them

joined : (bytes : List ℕ) → from_be_bytes w64 bytes ≡ number 256 (get_or bytes 0 0 ∷ neighbours bytes 0 1 7 0)
unfolding number_after
joined bytes = omega arith

pub high_first : (bytes : List ℕ) → length bytes ≡ 8 → from_be_bytes w64 bytes ≡ number 256 bytes
high_first bytes long =
    joined bytes ∙ ap (number 256) (slice_read bytes 0 7 0 (omega arith) ∙ take_all 8 bytes (omega arith))

-- a word of them
pub word_whole : (bytes : List ℕ) → Below 256 bytes → length bytes ≡ 8 → word (number 256 bytes) ≡ number 256 bytes
word_whole bytes b long =
    mod-eq_of_lt (subst (λ (n : ℕ). number 256 bytes < 256 ^ n) long (number_below 256 bytes b))

-- the library's bytes of a word
pub bytes_of_word : (x : ℕ) → to_be_bytes w64 x ≡ digits 256 8 x
unfolding digits
bytes_of_word x = ap (λ (low : ℕ). take 7 (digits 256 8 x) ++ (low ∷ [])) whole
  where
    whole : x % 256 ≡ x / 1 % 256
    whole = omega arith
