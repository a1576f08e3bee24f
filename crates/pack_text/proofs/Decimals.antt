-- Numbers in decimal: a zero at the front may go as long as a digit is left, and what goes counts for nothing.
use mathlib.Core.{Path.◌≡◌, Path.refl, Path.ap, Path.ap₂, Path.subst, Path.◌∙◌}
use mathlib.Core.{Bool.Bool, Bool.true, Bool.false, List.List, List.[], List.◌∷◌, List.map, Logic.◌≢◌}
use Rattle.std.proofs.Math.Nat.{one-le-pow, le-div_iff_mul-le, div-lt_iff_lt-mul}
use Prim.Native.Nat.{ℕ, zero, suc, ◌+◌, ◌-◌, ◌*◌, ◌/◌, ◌%◌, ◌^◌, ◌<◌, ◌≤◌}
use native.Mathlib.{Nat.div-eq_of_lt, Nat.lt_of_lt_of_le, Nat.mod-eq_of_lt, Nat.pow-le-pow_right, Nat.pow-suc, Omega.arith}
use native.Mathlib.Numerals.{add-one}
use borrow.Author.Tests.{ltb-true, ltb-false}
use lib.Dec.{ltb}
use lib.ListN.{length, get_or, length-map, get_or-map}
use Rattle.octets.specs.Digits.{digits, number, number_after}
use Rattle.octets.proofs.Numbers.{length_digits, digit_at, number_digits}
use Rattle.pack_text.specs.Text.{trimmed, decimal, lacking_text}

-- ---- the first of some digits

zero_goes : (d e : ℕ) (ds : List ℕ) → d ≡ 0 → trimmed (e ∷ ds) ≡ trimmed (d ∷ e ∷ ds)
unfolding trimmed
zero_goes zero e ds z = refl
zero_goes (suc d) e ds z = absurd (omega arith)

other_stays : (d : ℕ) (ds : List ℕ) → d ≢ 0 → d ∷ ds ≡ trimmed (d ∷ ds)
unfolding trimmed
other_stays d [] h = refl
other_stays zero (e ∷ ds) h = absurd (h refl)
other_stays (suc d) (e ∷ ds) h = refl

-- of suc n digits, the first has n below it
front_goes : (n x : ℕ) → 1 ≤ n → x / 10 ^ n % 10 ≡ 0 → trimmed (digits 10 n x) ≡ trimmed (digits 10 (suc n) x)
unfolding digits
front_goes zero x h z = absurd (omega arith)
front_goes (suc n) x h z = zero_goes (x / 10 ^ suc n % 10) (x / 10 ^ n % 10) (digits 10 n x) z

-- zeros at the front of a number below 10 ^ n go, however many they are
zeros_go : (n x : ℕ) → 1 ≤ n → x < 10 ^ n → (j : ℕ) → trimmed (digits 10 n x) ≡ trimmed (digits 10 (j + n) x)
zeros_go n x one small zero = let same : n ≡ zero + n = omega arith in ap (λ (k : ℕ). trimmed (digits 10 k x)) same
zeros_go n x one small (suc j) =
    let none : x / 10 ^ (j + n) ≡ 0 = div-eq_of_lt
    (lt_of_lt_of_le small (pow-le-pow_right {n = 10} (omega arith) (omega arith))) in
    let same : suc (j + n) ≡ suc j + n = omega arith in
    zeros_go n x one small j ∙ front_goes (j + n) x (omega arith) (ap (λ (v : ℕ). v % 10) none)
    ∙ ap (λ (k : ℕ). trimmed (digits 10 k x)) same

-- a number from 10 ^ k on and below the next power has k + 1
pub fills : (k x : ℕ) → 10 ^ k ≤ x → x < 10 * 10 ^ k → k < 20 → digits 10 (k + 1) x ≡ trimmed (digits 10 20 x)
unfolding digits
fills k x least less h =
    let some : 0 < 10 ^ k = one-le-pow k 10 (omega arith) in
    let one : 1 ≤ x / 10 ^ k = (le-div_iff_mul-le some).1 (omega arith) in
    let few : x / 10 ^ k < 10 = (div-lt_iff_lt-mul some).1 less in
    ap (λ (n : ℕ). digits 10 n x) (add-one k)
    ∙ other_stays (x / 10 ^ k % 10) (digits 10 k x) (λ z. omega arith)
    ∙ zeros_go (suc k) x (omega arith) (omega (arith, pow-suc 10 k)) (19 - k)
    ∙ ap (λ (n : ℕ). trimmed (digits 10 n x)) all
  where
    all : 19 - k + suc k ≡ 20
    all = omega arith

-- ---- as letters

-- the run that n digits make
abbrev pub spelt : ℕ → ℕ → List ℕ
spelt n x = map (λ d. 48 + d) (digits 10 n x)

pub length_spelt : (n x : ℕ) → length (spelt n x) ≡ n
length_spelt n x = length-map (digits 10 n x) (λ d. 48 + d) ∙ length_digits 10 n x

pub letter_at : (n x i : ℕ) → i < n → get_or (spelt n x) i 48 ≡ 48 + x / 10 ^ (n - 1 - i) % 10
letter_at n x i h =
    get_or-map (λ d. 48 + d) (digits 10 n x) i 0 ∙ ap (λ (d : ℕ). 48 + d) (digit_at 10 n x i h)

pub spelt_decimal : (n x : ℕ) → digits 10 n x ≡ trimmed (digits 10 20 x) → spelt n x ≡ decimal x
unfolding decimal
spelt_decimal n x e = ap (map (λ d. 48 + d)) e

-- ---- how many letters

trimmed_short : (ds : List ℕ) → length (trimmed ds) ≤ length ds
unfolding trimmed
trimmed_short [] = omega arith
trimmed_short (d ∷ []) = omega arith
trimmed_short (zero ∷ e ∷ ds) = let h = trimmed_short (e ∷ ds) in omega arith
trimmed_short (suc d ∷ e ∷ ds) = omega arith

-- from digit number k on a number below 10 ^ k has zeros, and they go
no_more : (k x : ℕ) → 1 ≤ k → x < 10 ^ k → (n : ℕ) → length (trimmed (digits 10 n x)) ≤ k
unfolding digits trimmed
no_more k x one small zero = omega arith
no_more k x one small (suc n) = go (ltb n k) refl (no_more k x one small n)
  where
    go : (b : Bool) → ltb n k ≡ b → length (trimmed (digits 10 n x)) ≤ k
        → length (trimmed (digits 10 (suc n) x)) ≤ k
    go true e less =
        omega (arith, ltb-true n k e, trimmed_short (digits 10 (suc n) x), length_digits 10 (suc n) x)
    go false e less =
        let above : k ≤ n = ltb-false n k e in
        let none : x / 10 ^ n ≡ 0 = div-eq_of_lt
        (lt_of_lt_of_le small (pow-le-pow_right {n = 10} (omega arith) above)) in
        subst (λ (ds : List ℕ). length ds ≤ k)
        (front_goes n x (omega arith) (ap (λ (v : ℕ). v % 10) none)) less

pub length_decimal : (x : ℕ) → length (decimal x) ≤ 20
unfolding decimal
length_decimal x =
    let ds : List ℕ = digits 10 20 x in
    omega (arith, length-map (trimmed ds) (λ d. 48 + d), trimmed_short ds, length_digits 10 20 x)

-- with the space before it, or none
pub length_lacking : (x : ℕ) → length (lacking_text x) ≤ 21
unfolding lacking_text
length_lacking zero = omega arith
length_lacking (suc n) = omega (arith, length_decimal (suc n))

-- a number below 10 ^ k has at most k
pub decimal_short : (k x : ℕ) → 1 ≤ k → x < 10 ^ k → length (decimal x) ≤ k
unfolding decimal
decimal_short k x one small =
    omega (arith, length-map (trimmed (digits 10 20 x)) (λ d. 48 + d), no_more k x one small 20)

-- ---- read back

trimmed_number : (ds : List ℕ) → number 10 (trimmed ds) ≡ number 10 ds
unfolding trimmed number_after
trimmed_number [] = refl
trimmed_number (d ∷ []) = refl
trimmed_number (zero ∷ e ∷ ds) = trimmed_number (e ∷ ds)
trimmed_number (suc d ∷ e ∷ ds) = refl

digits_of : (ds : List ℕ) → map (λ l. l - 48) (map (λ d. 48 + d) ds) ≡ ds
digits_of [] = refl
digits_of (d ∷ ds) = ap₂ (λ (x : ℕ) (xs : List ℕ). x ∷ xs) back (digits_of ds)
  where
    back : 48 + d - 48 ≡ d
    back = omega arith

-- the letters of a word say the word
pub decimal_read : (x : ℕ) → x < 10 ^ 20 → number 10 (map (λ l. l - 48) (decimal x)) ≡ x
unfolding decimal
decimal_read x h =
    ap (number 10) (digits_of (trimmed (digits 10 20 x)))
    ∙ trimmed_number (digits 10 20 x)
    ∙ number_digits 10 (omega arith) 20 x
    ∙ mod-eq_of_lt h
