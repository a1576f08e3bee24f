-- Registers in turned words: turning exchanges the ends of a word, so what is moved up in one order is moved down in
-- the other.
use mathlib.Core.{Bool.cond, Path.◌≡◌, Path.sym, Path.ap, Path.ap₂, Path.subst, Path.◌∙◌}
use mathlib.Core.List.{List, [], ◌∷◌, ◌++◌}
use Prim.Native.Nat.{ℕ, ◌+◌, ◌-◌, ◌*◌, ◌/◌, ◌%◌, ◌^◌, ◌<◌, ◌≤◌}
use native.Mathlib.Nat.{mod-lt, mod-eq_of_lt, lt_of_lt_of_le, lt_of_le_of_lt, add-zero, mul_assoc, mul-one}
use native.Mathlib.Nat.{pow-suc, pow-zero}
use native.Mathlib.Omega.{arith}
use lib.Bits.{bit_or, or_comm, or_zero_r}
use lib.{Dec.leb, ListN.length, ListN.get_or}
use lib.Pow.{pow_pos, pow_mono, field, shl-shr, shr-shr, shr_lt, split, high, low}
use Rattle.octets.specs.{Digits.number, Digits.digits, LowFirst.bits_up, LowFirst.number_up, LowFirst.turned}
use Rattle.octets.proofs.Numbers.{Below, number_append, number_below, digits_number}
use Rattle.octets.proofs.LowFirst.{turned_below, turned_twice, turned_or, turned_down, turned_up, bits_turned}
use Rattle.octets.proofs.LowFirst.{length_up, below_up, up_append, up_back, up_number}
use Rattle.octets.proofs.Shifts.{both_words}
use Rattle.shift_registers.specs.{Registers.moved, Words.joined, Words.shifted}
use Rattle.shift_registers.proofs.Words.{run, Within, within, run_joined, Reads, reads_words, lower_moved}
use Rattle.shift_registers.proofs.Words.{joined_apart, upper_kept, lower_kept}

-- ---- two words

-- 64 bits of two words, turned
both_turned : (n k newer older : ℕ) → n + k ≡ 64 → newer < 2 ^ 64 → older < 2 ^ 64
    → bit_or (newer * 2 ^ k % 2 ^ 64) (older / 2 ^ n)
    ≡ turned (bit_or (turned older * 2 ^ n % 2 ^ 64) (turned newer / 2 ^ k))
both_turned n k newer older e hn ho =
    or_comm (newer * 2 ^ k % 2 ^ 64) (older / 2 ^ n)
    ∙ sym
    (turned_or (turned older * 2 ^ n % 2 ^ 64) (turned newer / 2 ^ k)
    ∙ ap₂ bit_or
    (turned_up n (turned older) (omega arith) ∙ ap (λ (v : ℕ). v / 2 ^ n) (turned_twice older ho))
    (turned_down k (turned newer) (omega arith) (turned_below newer)
    ∙ ap (λ (v : ℕ). v * 2 ^ k % 2 ^ 64) (turned_twice newer hn)))

-- the run from a tap on
pub tap_turned : (w j older newer : ℕ) → Within w j → w ≤ 128 → newer < 2 ^ 64 → older < 2 ^ 64
    → bit_or (newer * 2 ^ (j - 64) % 2 ^ 64) (older / 2 ^ (128 - j))
    ≡ turned (run j (joined w (turned older) (turned newer)))
tap_turned w j older newer h wide hn ho =
    let reach = within w j h in
    both_turned (128 - j) (j - 64) newer older (omega arith) hn ho
    ∙ ap turned (run_joined w j (turned older) (turned newer) h wide (turned_below newer))

-- from the last bit of the newer word on, it is that word
pub tap_newer : (w older newer : ℕ) → Within w 64 → w ≤ 128 → newer < 2 ^ 64 → older < 2 ^ 64
    → newer ≡ turned (run 64 (joined w (turned older) (turned newer)))
tap_newer w older newer h wide hn ho =
    let all : newer * 2 ^ 0 % 2 ^ 64 ≡ newer = omega arith in
    let none : older / 2 ^ 64 ≡ 0 = omega arith in
    sym (ap₂ bit_or all none ∙ or_zero_r newer) ∙ tap_turned w 64 older newer h wide hn ho

-- bits that come in above are bits that come in below
pub turned_shifted : (newer older n : ℕ) → n ≤ 64 → newer < 2 ^ 64 → older < 2 ^ 64
    → turned (shifted newer older (64 - n)) ≡ shifted (turned older) (turned newer) n
turned_shifted newer older n few hn ho =
    let k : ℕ = 64 - n in
    let e : n + k ≡ 64 = omega arith in
    let back : 64 - k ≡ n = omega arith in
    let whole = both_words (turned older) (turned newer) n k e (turned_below newer) in
    ap (λ (m : ℕ). turned ((newer * 2 ^ 64 + older) / 2 ^ m % 2 ^ 64)) back
    ∙ ap turned (sym (both_words newer older k n (omega arith) ho) ∙ both_turned n k newer older e hn ho)
    ∙ turned_twice _ (subst (λ (v : ℕ). v < 2 ^ 64) (sym whole) (mod-lt _ (pow_pos 64)))
    ∙ whole

-- ---- a register taken apart

pub turned_apart : (w x : ℕ) → w ≤ 128 → x < 2 ^ w
    → joined w (turned (turned (x / 2 ^ 64))) (turned (turned (x % 2 ^ 64))) ≡ x
turned_apart w x wide h =
    ap₂ (joined w) (turned_twice _ (shr_lt 64 64 (lt_of_lt_of_le h (pow_mono wide))))
    (turned_twice _ (mod-lt x (pow_pos 64)))
    ∙ joined_apart w x h

-- p bits of a register are in its older word: the spare ones are its lowest, and go
pub older_kept : (p older newer : ℕ) → p ≤ 64 → older < 2 ^ 64
    → older / 2 ^ (64 - p) * 2 ^ (64 - p) ≡ turned (joined (p + 64) (turned older) (turned newer) / 2 ^ 64)
older_kept p older newer hp ho =
    let k : ℕ = 64 - p in
    let kept : ℕ = older / 2 ^ k * 2 ^ k in
    let whole : 64 ≡ p + k = omega arith in
    let small : kept < 2 ^ 64 = lt_of_le_of_lt (at_most (older % 2 ^ k) (split older k)) ho in
    let cut : turned kept ≡ turned older % 2 ^ p =
    ap turned (sym (mod-eq_of_lt small))
    ∙ turned_up k (older / 2 ^ k) (omega arith)
    ∙ ap (λ (v : ℕ). v / 2 ^ k) (turned_down k older (omega arith) ho)
    ∙ ap (λ (e : ℕ). turned older * 2 ^ k % 2 ^ e / 2 ^ k) whole
    ∙ field (turned older * 2 ^ k) p k
    ∙ ap (λ (v : ℕ). v % 2 ^ p) (shl-shr (turned older) k) in
    sym (turned_twice kept small)
    ∙ ap turned (cut ∙ upper_kept p (turned older) (turned newer) (turned_below newer))
  where
    at_most : {a b : ℕ} (r : ℕ) → a + r ≡ b → a ≤ b
    at_most r e = omega arith

pub newer_kept : (p older newer : ℕ) → newer < 2 ^ 64
    → newer ≡ turned (joined (p + 64) (turned older) (turned newer) % 2 ^ 64)
newer_kept p older newer h =
    sym (turned_twice newer h) ∙ ap turned (lower_kept p (turned older) (turned newer) (turned_below newer))

-- ---- single bits

-- the highest bit is the lowest one turned
top_turned : (x : ℕ) → turned x / 2 ^ 63 ≡ x % 2
unfolding bits_up digits
top_turned x =
    let first : x % 2 ≡ turned x / 2 ^ 63 % 2 = ap (λ (l : List ℕ). get_or l 0 0) (bits_turned x) in
    omega (arith, turned_below x)

bit_turned : (k x : ℕ) → k ≤ 63 → x < 2 ^ 64 → turned x / 2 ^ (63 - k) % 2 ≡ x / 2 ^ k % 2
bit_turned k x few h =
    let rest : ℕ = 63 - k in
    let all : k + rest ≡ 63 = omega arith in
    ap (λ (v : ℕ). v / 2 ^ rest % 2) (sym (shl-shr (turned x) k))
    ∙ ap (λ (v : ℕ). v % 2) (shr-shr (turned x * 2 ^ k) k rest ∙ ap (λ (e : ℕ). turned x * 2 ^ k / 2 ^ e) all)
    ∙ sym (field (turned x * 2 ^ k) 1 63)
    ∙ ap (λ (v : ℕ). v / 2 ^ 63) (sym (turned_down k x (omega arith) h))
    ∙ top_turned (x / 2 ^ k)

-- a tap from 65 on is a bit of the older word, and that at 64 the lowest of the newer
pub reads_turned : (w older newer : ℕ) → w ≤ 128 → older < 2 ^ 64
    → Reads w (joined w (turned older) (turned newer)) (λ j. cond (leb j 64) newer (older / 2 ^ (128 - j)))
reads_turned w older newer wide ho =
    reads_words w (turned older) (turned newer) newer (λ j. older / 2 ^ (128 - j)) (turned_below newer)
    (top_turned newer)
    (λ j more le.
    ap (λ (e : ℕ). turned older / 2 ^ e % 2) (place j more (at_most w j wide le))
    ∙ bit_turned (128 - j) older (omega arith) ho)
  where
    at_most : (w j : ℕ) → w ≤ 128 → j ≤ w → j ≤ 128
    at_most w j h l = omega arith

    place : (j : ℕ) → 64 < j → j ≤ 128 → j - 1 - 64 ≡ 63 - (128 - j)
    place j h l = omega arith

-- one bit comes in, whatever the register: p is what its older word has of it
pub bit_in : (p older newer new code : ℕ) → p ≤ 64 → newer < 2 ^ 64 → new ≡ code % 2
    → bit_or (code * 2 ^ 63 % 2 ^ 64) (newer / 2)
    ≡ turned (moved (p + 64) (joined (p + 64) (turned older) (turned newer)) new % 2 ^ 64)
bit_in p older newer new code hp hn e =
    let above : turned (code * 2 ^ 63 % 2 ^ 64) ≡ new = turned_up 63 code (omega arith) ∙ top_turned code ∙ sym e in
    let came : code * 2 ^ 63 % 2 ^ 64 ≡ turned new = sym (turned_twice _ (mod-lt _ (pow_pos 64))) ∙ ap turned above in
    or_comm (code * 2 ^ 63 % 2 ^ 64) (newer / 2)
    ∙ ap₂ bit_or
    (ap (λ (v : ℕ). v / 2) (sym (turned_twice newer hn)) ∙ sym (turned_up 1 (turned newer) (omega arith))) came
    ∙ sym (turned_or (turned newer * 2 % 2 ^ 64) new)
    ∙ ap turned (lower_moved p (turned older) (turned newer) new hp (omega arith))

-- ---- bits of a message and of an output

-- the n lowest bits of a word are the n highest of it turned
pub up_part : (n x : ℕ) → n ≤ 64 → bits_up n x ≡ digits 2 n (turned x / 2 ^ (64 - n))
unfolding turned
up_part n x few =
    let k : ℕ = 64 - n in
    let all : 64 ≡ n + k = omega arith in
    let rest : List ℕ = bits_up k (x / 2 ^ n) in
    let small : number 2 rest < 2 ^ k =
    subst (λ (m : ℕ). number 2 rest < 2 ^ m) (length_up k (x / 2 ^ n)) (number_below 2 rest (below_up k (x / 2 ^ n))) in
    let cut : turned x / 2 ^ k ≡ number 2 (bits_up n x) =
    ap (λ (m : ℕ). number 2 (bits_up m x) / 2 ^ k) all
    ∙ ap (λ (l : List ℕ). number 2 l / 2 ^ k) (up_append n k x)
    ∙ ap (λ (v : ℕ). v / 2 ^ k)
    (number_append 2 (bits_up n x) rest
    ∙ ap (λ (m : ℕ). number 2 (bits_up n x) * 2 ^ m + number 2 rest) (length_up k (x / 2 ^ n)))
    ∙ high (number 2 (bits_up n x)) k small in
    sym
    (ap (digits 2 n) cut
    ∙ ap (λ (m : ℕ). digits 2 m (number 2 (bits_up n x))) (sym (length_up n x))
    ∙ digits_number 2 (omega arith) (bits_up n x) (below_up n x))

-- some bits and then others, as numbers
pub up_joined : (xs ys : List ℕ) → number_up (xs ++ ys) ≡ number_up ys * 2 ^ length xs + number_up xs
unfolding number_up
up_joined [] ys = sym (ap (λ (p : ℕ). number_up ys * p + 0) (pow-zero 2) ∙ add-zero _ ∙ mul-one (number_up ys))
up_joined (x ∷ xs) ys =
    ap (λ (v : ℕ). x + 2 * v) (up_joined xs ys)
    ∙ turn x (number_up ys * 2 ^ length xs) (number_up xs)
    ∙ ap (λ (v : ℕ). v + (x + 2 * number_up xs))
    (mul_assoc (number_up ys) (2 ^ length xs) 2 ∙ ap (λ (p : ℕ). number_up ys * p) (sym (pow-suc 2 (length xs))))
  where
    turn : (x p n : ℕ) → x + 2 * (p + n) ≡ p * 2 + (x + 2 * n)
    turn x p n = omega arith

-- the first of them are the lowest
pub up_low : (xs ys : List ℕ) → Below 2 xs → number_up (xs ++ ys) % 2 ^ length xs ≡ number_up xs
up_low xs ys b =
    let n : ℕ = length xs in
    let same : number_up xs % 2 ^ n ≡ number_up xs = sym (up_back n (number_up xs)) ∙ ap number_up (up_number xs b) in
    let small : number_up xs < 2 ^ n = subst (λ (v : ℕ). v < 2 ^ n) same (mod-lt (number_up xs) (pow_pos n)) in
    ap (λ (v : ℕ). v % 2 ^ n) (up_joined xs ys) ∙ low (number_up ys) n small
