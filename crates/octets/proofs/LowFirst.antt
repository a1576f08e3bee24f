-- Bits with the least significant first. Such bits are the digits of a number in the other order, so each law goes
-- along them, over any number of bits, and a word is the case of 64.
use mathlib.Core.Path.{◌≡◌, refl, sym, ap, ap₂, subst, ◌∙◌}
use mathlib.Core.{Bool.Bool, Bool.true, Bool.false, List.List, List.[], List.◌∷◌, List.◌++◌, List.reverse}
use mathlib.Core.List.{reverse_aux, append_assoc, reverse-cons, reverse-append, reverse-reverse}
use Prim.Native.Nat.{ℕ, zero, suc, ◌+◌, ◌-◌, ◌*◌, ◌/◌, ◌%◌, ◌^◌, ◌<◌, ◌≤◌}
use native.Mathlib.Nat.{add-zero, zero-add, add_comm, suc-add, add-mul, zero-mul, mul_assoc, zero-div, zero-mod, mod-lt}
use native.Mathlib.Nat.{mod-eq_of_lt, div-eq_of_lt, mul-add-mod_self_right, mul-mod_left}
use native.Mathlib.{Numerals.add-one, Omega.arith}
use borrow.Author.Tests.{ltb-true, ltb-false}
use lib.Bits.{bit_xor, bit_and, bit_or, xor_shr, and_shr, or_shr, xor_mod, and_mod, or_mod, xor_block, and_block, or_block}
use lib.Bits.{xor_zero_r}
use lib.Dec.{ltb}
use lib.ListN.{length, get_or, replicate, length-append}
use lib.Pow.{pow-add, pow_pos, shl_lt, shr_lt, shl-shr, shr-shr, high, low, mod-pow-add, field, mod-mod-pow}
use lib.Seq.{get_or-take, get_or_at, take_at}
use Rattle.octets.specs.Digits.{number, number_after, digits, bits_of}
use Rattle.octets.specs.LowFirst.{bits_up, number_up, bits_up_of, turned}
use Rattle.octets.specs.Stream.{Keystream, from, enciphered}
use Rattle.octets.proofs.Numbers.{Below, number_append, number_cons, number_snoc, number_below, digits_number}
use Rattle.octets.proofs.{Numbers.length_digits, Numbers.bits_number, Streams.power_of_bytes}

-- ---- n bits of a number

pub length_up : (n x : ℕ) → length (bits_up n x) ≡ n
unfolding bits_up
length_up zero x = refl
length_up (suc n) x = ap suc (length_up n (x / 2))

pub below_up : (n x : ℕ) → Below 2 (bits_up n x)
unfolding bits_up
below_up zero x i = omega arith
below_up (suc n) x zero = omega arith
below_up (suc n) x (suc i) = below_up n (x / 2) i

-- the number that they make in this order
pub up_back : (n x : ℕ) → number_up (bits_up n x) ≡ x % 2 ^ n
unfolding bits_up number_up
up_back zero x = omega arith
up_back (suc n) x =
    let more : x % 2 ^ (n + 1) ≡ (x / 2 % 2 ^ n) * 2 + x % 2 = mod-pow-add x n 1 in
    ap (λ (v : ℕ). x % 2 + 2 * v) (up_back n (x / 2))
    ∙ turn (x % 2) (x / 2 % 2 ^ n) ∙ sym more ∙ ap (λ (e : ℕ). x % 2 ^ e) (add-one n)
  where
    turn : (d v : ℕ) → d + 2 * v ≡ v * 2 + d
    turn d v = omega arith

-- they are those bits again
pub up_number : (bits : List ℕ) → Below 2 bits → bits_up (length bits) (number_up bits) ≡ bits
unfolding bits_up number_up
up_number [] b = refl
up_number (d ∷ ds) b =
    let small : d < 2 = b 0 in
    let first : (d + 2 * number_up ds) % 2 ≡ d = omega arith in
    let rest : (d + 2 * number_up ds) / 2 ≡ number_up ds = omega arith in
    ap₂ (λ (x : ℕ) (xs : List ℕ). x ∷ xs) first
    (ap (bits_up (length ds)) rest ∙ up_number ds (λ i. b (suc i)))

-- only as much of a number counts as they show
pub up_mod : (n x : ℕ) → bits_up n (x % 2 ^ n) ≡ bits_up n x
up_mod n x =
    ap (bits_up n) (sym (up_back n x))
    ∙ ap (λ (k : ℕ). bits_up k (number_up (bits_up n x))) (sym (length_up n x))
    ∙ up_number (bits_up n x) (below_up n x)

-- k bits, and n behind them
pub up_append : (k n x : ℕ) → bits_up (k + n) x ≡ bits_up k x ++ bits_up n (x / 2 ^ k)
unfolding bits_up
up_append zero n x = ap₂ bits_up (zero-add n) (omega arith)
up_append (suc k) n x =
    let half : x / 2 / 2 ^ k ≡ x / 2 ^ suc k = shr-shr x 1 k ∙ ap (λ (e : ℕ). x / 2 ^ e) (add_comm 1 k ∙ add-one k) in
    ap (λ (m : ℕ). bits_up m x) (suc-add k n)
    ∙ ap (λ (l : List ℕ). x % 2 ∷ l) (up_append k n (x / 2) ∙ ap (λ (y : ℕ). bits_up k (x / 2) ++ bits_up n y) half)

-- ---- in the other order

below_cons : {bound : ℕ} (x : ℕ) (xs : List ℕ) → x < bound → Below bound xs → Below bound (x ∷ xs)
below_cons x xs h b zero = h
below_cons x xs h b (suc i) = b i

below_back : {bound : ℕ} (xs rest : List ℕ) → Below bound xs → Below bound rest → Below bound (reverse_aux xs rest)
below_back [] rest b c = c
below_back (x ∷ xs) rest b c = below_back xs (x ∷ rest) (λ i. b (suc i)) (below_cons x rest (b 0) c)

pub below_reverse : {bound : ℕ} (xs : List ℕ) → Below bound xs → Below bound (reverse xs)
below_reverse {bound} xs b = below_back xs [] b (λ i. nothing (b 0))
  where
    nothing : {x : ℕ} → x < bound → 0 < bound
    nothing h = omega arith

length_back : (xs rest : List ℕ) → length (reverse_aux xs rest) ≡ length xs + length rest
length_back [] rest = omega arith
length_back (x ∷ xs) rest = length_back xs (x ∷ rest) ∙ omega arith

pub length_reverse : (xs : List ℕ) → length (reverse xs) ≡ length xs
length_reverse xs = length_back xs [] ∙ add-zero (length xs)

pub number_back : (bits : List ℕ) → number 2 (reverse bits) ≡ number_up bits
unfolding number_up number_after
number_back [] = refl
number_back (d ∷ ds) =
    ap (number 2) (reverse-cons d ds)
    ∙ number_snoc 2 (reverse ds) d
    ∙ ap (λ (v : ℕ). v * 2 + d) (number_back ds)
    ∙ turn d (number_up ds)
  where
    turn : (d v : ℕ) → v * 2 + d ≡ d + 2 * v
    turn d v = omega arith

-- n bits of a number turned
abbrev turn : ℕ → ℕ → ℕ
turn n x = number 2 (bits_up n x)

turn_below : (n x : ℕ) → turn n x < 2 ^ n
turn_below n x =
    subst (λ (k : ℕ). turn n x < 2 ^ k) (length_up n x) (number_below 2 (bits_up n x) (below_up n x))

turn_mod : (n x : ℕ) → turn n (x % 2 ^ n) ≡ turn n x
turn_mod n x = ap (number 2) (up_mod n x)

-- the lower bits come first
turn_add : (k n x : ℕ) → turn (k + n) x ≡ turn k x * 2 ^ n + turn n (x / 2 ^ k)
turn_add k n x =
    ap (number 2) (up_append k n x)
    ∙ number_append 2 (bits_up k x) (bits_up n (x / 2 ^ k))
    ∙ ap (λ (m : ℕ). turn k x * 2 ^ m + turn n (x / 2 ^ k)) (length_up n (x / 2 ^ k))

turn_suc : (n x : ℕ) → turn (suc n) x ≡ x % 2 * 2 ^ n + turn n (x / 2)
unfolding bits_up
turn_suc n x =
    number_cons 2 (x % 2) (bits_up n (x / 2))
    ∙ ap (λ (m : ℕ). x % 2 * 2 ^ m + turn n (x / 2)) (length_up n (x / 2))

turn_zero : (n : ℕ) → turn n 0 ≡ 0
unfolding bits_up number_after
turn_zero zero = refl
turn_zero (suc n) =
    turn_suc n 0 ∙ ap (λ (v : ℕ). 0 * 2 ^ n + v) (turn_zero n) ∙ ap (λ (v : ℕ). v + 0) (zero-mul (2 ^ n))

-- whatever goes bit by bit may be done before turning or after
turn_op : (op : ℕ → ℕ → ℕ)
    → ((x y k : ℕ) → op x y / 2 ^ k ≡ op (x / 2 ^ k) (y / 2 ^ k))
    → ((x y k : ℕ) → op x y % 2 ^ k ≡ op (x % 2 ^ k) (y % 2 ^ k))
    → ((k x y r s : ℕ) → r < 2 ^ k → s < 2 ^ k → op (x * 2 ^ k + r) (y * 2 ^ k + s) ≡ op x y * 2 ^ k + op r s)
    → op 0 0 ≡ 0 → (n x y : ℕ) → turn n (op x y) ≡ op (turn n x) (turn n y)
unfolding bits_up number_after
turn_op op down low block none zero x y = sym none
turn_op op down low block none (suc n) x y =
    turn_suc n (op x y)
    ∙ ap₂ (λ (d v : ℕ). d * 2 ^ n + v) (low x y 1)
    (ap (turn n) (down x y 1) ∙ turn_op op down low block none n (x / 2) (y / 2))
    ∙ sym
    (ap₂ op (turn_suc n x) (turn_suc n y)
    ∙ block n (x % 2) (y % 2) (turn n (x / 2)) (turn n (y / 2)) (turn_below n (x / 2)) (turn_below n (y / 2)))

-- moved down before, up after: what comes in above is nothing
turn_down : (k m x : ℕ) → x < 2 ^ (k + m) → turn (m + k) (x / 2 ^ k) ≡ turn (k + m) x * 2 ^ k % 2 ^ (m + k)
turn_down k m x h =
    let rest : ℕ = turn m (x / 2 ^ k) in
    let none : x / 2 ^ k / 2 ^ m ≡ 0 = shr-shr x k m ∙ gone (shr_lt 0 (k + m) (wide h)) in
    turn_add m k (x / 2 ^ k)
    ∙ ap (λ (y : ℕ). rest * 2 ^ k + turn k y) none
    ∙ ap (λ (y : ℕ). rest * 2 ^ k + y) (turn_zero k)
    ∙ add-zero (rest * 2 ^ k)
    ∙ sym
    (ap (λ (v : ℕ). v * 2 ^ k % 2 ^ (m + k)) (turn_add k m x)
    ∙ ap (λ (v : ℕ). v % 2 ^ (m + k)) (add-mul (turn k x * 2 ^ m) rest (2 ^ k))
    ∙ ap (λ (v : ℕ). (v + rest * 2 ^ k) % 2 ^ (m + k))
    (mul_assoc (turn k x) (2 ^ m) (2 ^ k) ∙ ap (λ (v : ℕ). turn k x * v) (sym (pow-add 2 m k)))
    ∙ mul-add-mod_self_right (turn k x) (2 ^ (m + k)) (rest * 2 ^ k)
    ∙ mod-eq_of_lt (shl_lt m k (turn_below m (x / 2 ^ k))))
  where
    wide : x < 2 ^ (k + m) → x < 2 ^ (0 + (k + m))
    wide = subst (λ (e : ℕ). x < 2 ^ e) (sym (zero-add (k + m)))

    gone : {y : ℕ} → y < 2 ^ 0 → y ≡ 0
    gone l = omega arith

-- moved up before, down after: what goes out above counts for nothing
turn_up : (k m x : ℕ) → turn (k + m) (x * 2 ^ k % 2 ^ (m + k)) ≡ turn (m + k) x / 2 ^ k
turn_up k m x =
    let y : ℕ = x * 2 ^ k % 2 ^ (m + k) in
    let none : y % 2 ^ k ≡ 0 = mod-mod-pow (x * 2 ^ k) m k ∙ mul-mod_left x (2 ^ k) in
    let some : y / 2 ^ k ≡ x % 2 ^ m = field (x * 2 ^ k) m k ∙ ap (λ (v : ℕ). v % 2 ^ m) (shl-shr x k) in
    turn_add k m y
    ∙ ap₂ (λ (u v : ℕ). u * 2 ^ m + turn m v) (sym (turn_mod k y) ∙ ap (turn k) none ∙ turn_zero k) some
    ∙ ap₂ (λ (u v : ℕ). u + v) (zero-mul (2 ^ m)) (turn_mod m x)
    ∙ zero-add (turn m x)
    ∙ sym (ap (λ (v : ℕ). v / 2 ^ k) (turn_add m k x) ∙ high (turn m x) k (turn_below k (x / 2 ^ m)))

-- ---- a word

pub turned_below : (x : ℕ) → turned x < 2 ^ 64
unfolding turned
turned_below = turn_below 64

pub turned_xor : (x y : ℕ) → turned (bit_xor x y) ≡ bit_xor (turned x) (turned y)
unfolding turned
turned_xor = turn_op bit_xor xor_shr xor_mod xor_block refl 64

pub turned_and : (x y : ℕ) → turned (bit_and x y) ≡ bit_and (turned x) (turned y)
unfolding turned
turned_and = turn_op bit_and and_shr and_mod and_block refl 64

pub turned_or : (x y : ℕ) → turned (bit_or x y) ≡ bit_or (turned x) (turned y)
unfolding turned
turned_or = turn_op bit_or or_shr or_mod or_block refl 64

pub turned_down : (k x : ℕ) → k ≤ 64 → x < 2 ^ 64 → turned (x / 2 ^ k) ≡ turned x * 2 ^ k % 2 ^ 64
unfolding turned
turned_down k x few h =
    let up : k + (64 - k) ≡ 64 = omega arith in
    let down : 64 - k + k ≡ 64 = omega arith in
    ap (λ (n : ℕ). turn n (x / 2 ^ k)) (sym down)
    ∙ turn_down k (64 - k) x (subst (λ (n : ℕ). x < 2 ^ n) (sym up) h)
    ∙ ap₂ (λ (n m : ℕ). turn n x * 2 ^ k % 2 ^ m) up down

pub turned_up : (k x : ℕ) → k ≤ 64 → turned (x * 2 ^ k % 2 ^ 64) ≡ turned x / 2 ^ k
unfolding turned
turned_up k x few =
    let up : k + (64 - k) ≡ 64 = omega arith in
    let down : 64 - k + k ≡ 64 = omega arith in
    ap₂ (λ (n m : ℕ). turn n (x * 2 ^ k % 2 ^ m)) (sym up) (sym down)
    ∙ turn_up k (64 - k) x
    ∙ ap (λ (n : ℕ). turn n x / 2 ^ k) down

pub bits_turned : (m : ℕ) → bits_up 64 m ≡ digits 2 64 (turned m)
unfolding turned
bits_turned m =
    sym (digits_number 2 (omega arith) (bits_up 64 m) (below_up 64 m))
    ∙ ap (λ (n : ℕ). digits 2 n (turned m)) (length_up 64 m)

pub up_turned : (bits : List ℕ) → length bits ≡ 64 → Below 2 bits → number_up bits ≡ turned (number 2 bits)
unfolding turned
up_turned bits long b =
    let back : List ℕ = reverse bits in
    let whole : 64 ≡ length back = sym (length_reverse bits ∙ long) in
    sym
    (ap (turn 64) (ap (number 2) (sym (reverse-reverse bits)) ∙ number_back back)
    ∙ ap (λ (n : ℕ). turn n (number_up back)) whole
    ∙ ap (number 2) (up_number back (below_reverse bits b))
    ∙ number_back bits)

pub turned_twice : (x : ℕ) → x < 2 ^ 64 → turned (turned x) ≡ x
unfolding turned
turned_twice x h =
    sym (up_turned (bits_up 64 x) (length_up 64 x) (below_up 64 x)) ∙ up_back 64 x ∙ mod-eq_of_lt h

-- the p highest bits of a word are the p lowest of the word turned
pub turned_top : (p k x : ℕ) → p + k ≡ 64 → x < 2 ^ 64 → x / 2 ^ k * 2 ^ k % 2 ^ 64 ≡ turned (turned x % 2 ^ p)
turned_top p k x all h =
    let top : ℕ = x / 2 ^ k in
    let kept : turned (top * 2 ^ k % 2 ^ 64) ≡ turned x % 2 ^ p =
    turned_up k top (omega arith)
    ∙ ap (λ (v : ℕ). v / 2 ^ k) (turned_down k x (omega arith) h)
    ∙ ap (λ (e : ℕ). turned x * 2 ^ k % 2 ^ e / 2 ^ k) (sym all)
    ∙ field (turned x * 2 ^ k) p k
    ∙ ap (λ (v : ℕ). v % 2 ^ p) (shl-shr (turned x) k) in
    sym (turned_twice (top * 2 ^ k % 2 ^ 64) (mod-lt (top * 2 ^ k) (pow_pos 64))) ∙ ap turned kept

-- p bits stand at the top of the word turned
pub turned_few : (p k x : ℕ) → p + k ≡ 64 → x < 2 ^ p → turned x % 2 ^ k ≡ 0
unfolding turned
turned_few p k x all h =
    ap (λ (n : ℕ). turn n x % 2 ^ k) (sym all)
    ∙ ap (λ (v : ℕ). v % 2 ^ k) (turn_add p k x)
    ∙ mul-add-mod_self_right (turn p x) (2 ^ k) (turn k (x / 2 ^ p))
    ∙ ap (λ (v : ℕ). turn k v % 2 ^ k) (div-eq_of_lt h)
    ∙ ap (λ (v : ℕ). v % 2 ^ k) (turn_zero k)
    ∙ zero-mod (2 ^ k)

-- ---- runs of bits

pub up_zeros : (n : ℕ) → bits_up n 0 ≡ replicate n 0
unfolding bits_up
up_zeros zero = refl
up_zeros (suc n) = ap (λ (l : List ℕ). 0 ∷ l) (up_zeros n)

pub up_below : (bits : List ℕ) → Below 2 bits → number_up bits < 2 ^ length bits
up_below bits b =
    subst (λ (v : ℕ). v < 2 ^ length bits) (number_back bits)
    (subst (λ (n : ℕ). number 2 (reverse bits) < 2 ^ n) (length_reverse bits)
    (number_below 2 (reverse bits) (below_reverse bits b)))

-- bits behind others count for more
pub numbers_up : (xs ys : List ℕ) → number_up (xs ++ ys) ≡ number_up ys * 2 ^ length xs + number_up xs
numbers_up xs ys =
    sym (number_back (xs ++ ys))
    ∙ ap (number 2) (reverse-append xs ys)
    ∙ number_append 2 (reverse ys) (reverse xs)
    ∙ ap₂ (λ (u v : ℕ). u * 2 ^ length (reverse xs) + v) (number_back ys) (number_back xs)
    ∙ ap (λ (n : ℕ). number_up ys * 2 ^ n + number_up xs) (length_reverse xs)

-- bits in the midst of others are a part of their number
pub midst_up : (xs bits ys : List ℕ) → Below 2 xs → Below 2 bits
    → number_up (xs ++ (bits ++ ys)) / 2 ^ length xs % 2 ^ length bits ≡ number_up bits
midst_up xs bits ys bx b =
    ap (λ (v : ℕ). v / 2 ^ length xs % 2 ^ length bits) (numbers_up xs (bits ++ ys))
    ∙ ap (λ (v : ℕ). v % 2 ^ length bits) (high (number_up (bits ++ ys)) (length xs) (up_below xs bx))
    ∙ ap (λ (v : ℕ). v % 2 ^ length bits) (numbers_up bits ys)
    ∙ low (number_up ys) (length bits) (up_below bits b)

-- ---- runs of bytes

pub bytes_append : (xs ys : List ℕ) → bits_up_of (xs ++ ys) ≡ bits_up_of xs ++ bits_up_of ys
unfolding bits_up_of
bytes_append [] ys = refl
bytes_append (x ∷ xs) ys =
    ap (λ (l : List ℕ). bits_up 8 x ++ l) (bytes_append xs ys)
    ∙ sym (append_assoc (bits_up 8 x) (bits_up_of xs) (bits_up_of ys))

-- byte number i of a number, the least significant first
pub byte_up : (base n x i : ℕ) → i < n → get_or (reverse (digits base n x)) i 0 ≡ x / base ^ i % base
unfolding digits
byte_up base zero x i h = absurd (omega arith)
byte_up base (suc n) x i h =
    ap (λ (l : List ℕ). get_or l i 0) (reverse-cons (x / base ^ n % base) (digits base n x))
    ∙ go (ltb i n) refl (byte_up base n x i)
  where
    before : List ℕ
    before = reverse (digits base n x)

    long : length before ≡ n
    long = length_reverse (digits base n x) ∙ length_digits base n x

    last : List ℕ
    last = x / base ^ n % base ∷ []

    go : (b : Bool) → ltb i n ≡ b → (i < n → get_or before i 0 ≡ x / base ^ i % base)
        → get_or (before ++ last) i 0 ≡ x / base ^ i % base
    go true e there =
        let lt : i < n = ltb-true i n e in
        sym (get_or-take n (before ++ last) i 0 lt)
        ∙ ap (λ (l : List ℕ). get_or l i 0) (take_at before last n long)
        ∙ there lt
    go false e there =
        let same : i ≡ n = omega (arith, ltb-false i n e) in
        get_or_at before (x / base ^ n % base) [] 0 i (long ∙ sym same) ∙ ap (λ (k : ℕ). x / base ^ k % base) (sym same)

-- one byte more below the others
pub low_snoc : (x : ℕ) (xs : List ℕ) → number 256 (reverse (x ∷ xs)) ≡ number 256 (reverse xs) * 256 + x
low_snoc x xs = ap (number 256) (reverse-cons x xs) ∙ number_snoc 256 (reverse xs) x

-- Bytes as a number, the least significant first, under a word whose bytes are the keystream's, taken from the lowest
-- on: what it has bit by bit is what the enciphered bytes have.
pub bytes_under : (k : Keystream) (xs : List ℕ) (z : ℕ) → Below 256 xs
    → ((i : ℕ) → i < length xs → z / 256 ^ i % 256 ≡ k i)
    → bits_up (8 * length xs) (bit_xor (number 256 (reverse xs)) z) ≡ bits_up_of (enciphered k xs)
unfolding bits_up bits_up_of enciphered
bytes_under k [] z b gives = refl
bytes_under k (x ∷ xs) z b gives =
    let small : x < 256 = b 0 in
    let m : ℕ = number 256 (reverse xs) in
    let v : ℕ = bit_xor (number 256 (reverse (x ∷ xs))) z in
    let upper : (m * 256 + x) / 256 ≡ m = omega arith in
    let lower : (m * 256 + x) % 256 ≡ x = omega arith in
    let first : z % 256 ≡ k 0 = sym (ap (λ (y : ℕ). y % 256) (whole z)) ∙ gives 0 (omega arith) in
    let lowest : v % 2 ^ 8 ≡ bit_xor x (k 0) =
    xor_mod (number 256 (reverse (x ∷ xs))) z 8
    ∙ ap₂ bit_xor (ap (λ (y : ℕ). y % 256) (low_snoc x xs) ∙ lower) first in
    let rest : v / 2 ^ 8 ≡ bit_xor m (z / 256) =
    xor_shr (number 256 (reverse (x ∷ xs))) z 8
    ∙ ap (λ (y : ℕ). bit_xor (y / 256) (z / 256)) (low_snoc x xs) ∙ ap (λ (y : ℕ). bit_xor y (z / 256)) upper in
    ap (λ (n : ℕ). bits_up n v) (more (length xs))
    ∙ up_append 8 (8 * length xs) v
    ∙ ap₂ (λ (l r : List ℕ). l ++ r)
    (sym (up_mod 8 v) ∙ ap (bits_up 8) lowest)
    (ap (bits_up (8 * length xs)) rest
    ∙ bytes_under (from 1 k) xs (z / 256) (λ i. b (suc i))
    (λ i h. on z i ∙ gives (1 + i) (omega arith)))
  where
    more : (n : ℕ) → 8 * suc n ≡ 8 + 8 * n
    more n = omega arith

    whole : (y : ℕ) → y / 256 ^ 0 ≡ y
    whole y = omega arith

    again : (i : ℕ) → 8 + 8 * i ≡ 8 * (1 + i)
    again i = omega arith

    on : (y i : ℕ) → y / 256 / 256 ^ i % 256 ≡ y / 256 ^ (1 + i) % 256
    on y i =
        ap (λ (p : ℕ). y / 256 / p % 256) (power_of_bytes i)
        ∙ ap (λ (u : ℕ). u % 256) (shr-shr y 8 (8 * i))
        ∙ ap (λ (e : ℕ). y / 2 ^ e % 256) (again i)
        ∙ ap (λ (p : ℕ). y / p % 256) (sym (power_of_bytes (1 + i)))

-- the bytes themselves
pub bytes_up : (xs : List ℕ) → Below 256 xs → bits_up (8 * length xs) (number 256 (reverse xs)) ≡ bits_up_of xs
unfolding enciphered
bytes_up xs b =
    ap (bits_up (8 * length xs)) (sym (xor_zero_r (number 256 (reverse xs))))
    ∙ bytes_under (λ i. 0) xs 0 b (λ i h. none i)
    ∙ ap bits_up_of (plain xs)
  where
    none : (i : ℕ) → 0 / 256 ^ i % 256 ≡ 0
    none i = ap (λ (v : ℕ). v % 256) (zero-div (256 ^ i))

    plain : (ys : List ℕ) → enciphered (λ i. 0) ys ≡ ys
    plain [] = refl
    plain (y ∷ ys) = ap₂ (λ (d : ℕ) (ds : List ℕ). d ∷ ds) (xor_zero_r y) (plain ys)

-- ---- bits by the other rule

pub length_bits : (xs : List ℕ) → length (bits_of xs) ≡ 8 * length xs
unfolding bits_of
length_bits [] = refl
length_bits (x ∷ xs) =
    length-append (digits 2 8 x) (bits_of xs)
    ∙ ap₂ (λ (m n : ℕ). m + n) (length_digits 2 8 x) (length_bits xs) ∙ omega arith

pub below_append : {bound : ℕ} (xs ys : List ℕ) → Below bound xs → Below bound ys → Below bound (xs ++ ys)
below_append [] ys b c i = c i
below_append (x ∷ xs) ys b c zero = b 0
below_append (x ∷ xs) ys b c (suc i) = below_append xs ys (λ j. b (suc j)) c i

digits_below : (n x : ℕ) → Below 2 (digits 2 n x)
unfolding digits
digits_below zero x i = omega arith
digits_below (suc n) x zero = mod-lt _ (omega arith)
digits_below (suc n) x (suc i) = digits_below n x i

pub bits_below : (xs : List ℕ) → Below 2 (bits_of xs)
unfolding bits_of
bits_below [] i = omega arith
bits_below (x ∷ xs) i = below_append (digits 2 8 x) (bits_of xs) (digits_below 8 x) (bits_below xs) i

pub bits_append : (xs ys : List ℕ) → bits_of (xs ++ ys) ≡ bits_of xs ++ bits_of ys
unfolding bits_of
bits_append [] ys = refl
bits_append (x ∷ xs) ys =
    ap (λ (l : List ℕ). digits 2 8 x ++ l) (bits_append xs ys)
    ∙ sym (append_assoc (digits 2 8 x) (bits_of xs) (bits_of ys))

-- eight bytes by that rule, read by this one
pub word_turned : (xs : List ℕ) → length xs ≡ 8 → Below 256 xs → number_up (bits_of xs) ≡ turned (number 256 xs)
word_turned xs eight b =
    up_turned (bits_of xs) (length_bits xs ∙ ap (λ (n : ℕ). 8 * n) eight) (bits_below xs)
    ∙ ap turned (bits_number 0 xs b)
