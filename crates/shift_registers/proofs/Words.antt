-- Registers as numbers, one law over the width and the tap: n new bits scale what was there by 2 ^ n.
use mathlib.Core.Bool.{Bool, true, false, not, cond}
use mathlib.Core.Path.{◌≡◌, refl, sym, ap, ap₂, subst, ◌∙◌}
use Prim.Native.Nat.{ℕ, suc, ◌+◌, ◌-◌, ◌*◌, ◌/◌, ◌%◌, ◌^◌, ◌<◌, ◌≤◌}
use native.Mathlib.{Numerals.add-one, Omega.arith}
use native.Mathlib.Nat.{mul_assoc, mul_comm, mod-lt, mod-eq_of_lt, mul-add-mod_self_right, pow-suc}
use lib.Bits.{bit_or}
use lib.Dec.{T, leb, leb→le, nleb→lt}
use lib.Pow.{pow_pos, field, mod-mod-pow, shr-shr, high, low, split}
use Rattle.octets.proofs.Shifts.{scaled_mod, multiple_mod, low_bit, word_mod, both_words, lower_word, front_small}
use Rattle.octets.proofs.Shifts.{moved_up, moved_down}
use Rattle.shift_registers.specs.{Registers.◌⟨i-◌⟩, Registers.moved, Words.joined, Words.shifted}

-- a register of w bits after n new bits, r being the number that those make
abbrev pub grown : ℕ → ℕ → ℕ → ℕ → ℕ
grown w x n r = (x * 2 ^ n + r) % 2 ^ w

-- the 64 bits from x(i-j) on, the oldest as the most significant
abbrev pub run : ℕ → ℕ → ℕ
run j x = x / 2 ^ (j - 64) % 2 ^ 64

-- ---- taps

-- a tap at the oldest bit of a register's newest word, or behind it; as tests, so that `here` proves it of numerals
abbrev pub Within : ℕ → ℕ → Type 0
Within w j = T (leb 64 j) × T (leb j w)

abbrev pub here : T true × T true
here = (tt, tt)

pub within : (w j : ℕ) → Within w j → (64 ≤ j) × (j ≤ w)
within w j h = (leb→le 64 j h.0, leb→le j w h.1)

-- it reads what was there before n new bits, if they are fewer than its place
pub tap_old : (w j n x r : ℕ) → Within w j → n < j → r < 2 ^ n → grown w x n r ⟨i- j ⟩ ≡ x / 2 ^ (j - 1 - n) % 2
tap_old w j n x r h few small =
    let t : ℕ = j - 1 - n in
    let reach = within w j h in
    let back : j - 1 ≡ n + t = omega arith in
    let wide : w ≡ suc (w - j) + (n + t) = omega arith in
    ap₂ (λ (v p : ℕ). (x * 2 ^ n + r) % 2 ^ v / 2 ^ p % 2) wide back
    ∙ low_bit (x * 2 ^ n + r) (w - j) (n + t)
    ∙ ap (λ (v : ℕ). v % 2) (sym (shr-shr (x * 2 ^ n + r) n t) ∙ ap (λ (v : ℕ). v / 2 ^ t) (high x n small))

-- before the last k + 1 of 64 steps that is a bit of the run which begins at the tap
pub tap_run : (w j n k x r : ℕ) → Within w j → n + suc k ≡ 64 → r < 2 ^ n → grown w x n r ⟨i- j ⟩ ≡ run j x / 2 ^ k % 2
tap_run w j n k x r h e small =
    let reach = within w j h in
    let place : j - 1 - n ≡ j - 64 + k = omega arith in
    let whole : 64 ≡ suc n + k = omega arith in
    tap_old w j n x r h (omega arith) small
    ∙ ap (λ (p : ℕ). x / 2 ^ p % 2) place
    ∙ ap (λ (v : ℕ). v % 2) (sym (shr-shr x (j - 64) k))
    ∙ sym (ap (λ (p : ℕ). x / 2 ^ (j - 64) % 2 ^ p / 2 ^ k % 2) whole ∙ low_bit (x / 2 ^ (j - 64)) n k)

-- every tap is the lowest bit of its word
abbrev pub Reads : ℕ → ℕ → (ℕ → ℕ) → Type 0
Reads w x f = (j : ℕ) → Within w j → x ⟨i- j ⟩ ≡ f j % 2

-- the taps of a register in two words: that at 64 is the lowest bit of `near`, and one behind it that of `far`
pub reads_words : (w upper lower near : ℕ) (far : ℕ → ℕ) → lower < 2 ^ 64 → lower / 2 ^ 63 ≡ near % 2
    → ((j : ℕ) → 64 < j → j ≤ w → upper / 2 ^ (j - 1 - 64) % 2 ≡ far j % 2)
    → Reads w (joined w upper lower) (λ j. cond (leb j 64) near (far j))
reads_words w upper lower near far small top behind j h = go (leb j 64) refl
  where
    go : (b : Bool) → leb j 64 ≡ b → joined w upper lower ⟨i- j ⟩ ≡ cond b near (far j) % 2
    go true e =
        let reach = within w j h in
        let least : j ≤ 64 = leb→le j 64 (subst T (sym e) tt) in
        let place : j - 1 ≡ 63 = omega arith in
        let wide : w ≡ suc (w - 64) + 63 = omega arith in
        let last : (x y : ℕ) → y < 2 ^ 64 → (x * 2 ^ 64 + y) / 2 ^ 63 % 2 ≡ y / 2 ^ 63 = λ x y f. omega arith in
        ap₂ (λ (v q : ℕ). (upper * 2 ^ 64 + lower) % 2 ^ v / 2 ^ q % 2) wide place
        ∙ low_bit (upper * 2 ^ 64 + lower) (w - 64) 63
        ∙ last upper lower small
        ∙ top
    go false e =
        let more : 64 < j = nleb→lt j 64 (subst (λ (b : Bool). T (not b)) (sym e) tt) in
        tap_old w j 64 upper lower h more small ∙ behind j more (within w j h).1

-- ---- one more new bit

grown_mod : (w x n r : ℕ) → grown w (x % 2 ^ w) n r ≡ grown w x n r
grown_mod w x n r = multiple_mod (2 ^ w) x (2 ^ n) r

-- a word's bits but k + 1
pub half : (v k : ℕ) → v / 2 ^ suc k ≡ v / 2 ^ k / 2
half v k = ap (λ (e : ℕ). v / 2 ^ e) (sym (add-one k)) ∙ sym (shr-shr v k 1)

-- n bits of a word v, then the next
pub grown_more : (w x v n k new : ℕ) → new ≡ v / 2 ^ k % 2
    → moved w (grown w x n (v / 2 ^ suc k)) new ≡ grown w x (suc n) (v / 2 ^ k)
grown_more w x v n k new same =
    let twice : x * 2 ^ suc n ≡ x * 2 ^ n * 2 = ap (λ (p : ℕ). x * p) (pow-suc 2 n) ∙ sym (mul_assoc x (2 ^ n) 2) in
    ap₂ (λ (y z : ℕ). (y + z) % 2 ^ w) (mul_comm 2 (grown w x n (v / 2 ^ suc k))) same
    ∙ grown_mod w (x * 2 ^ n + v / 2 ^ suc k) 1 (v / 2 ^ k % 2)
    ∙ ap (λ (y : ℕ). y % 2 ^ w) (omega (arith, half v k))

-- ---- registers in two words

-- two shifts take a run
pub run_joined : (w j upper lower : ℕ) → Within w j → w ≤ 128 → lower < 2 ^ 64
    → bit_or (upper * 2 ^ (128 - j) % 2 ^ 64) (lower / 2 ^ (j - 64)) ≡ run j (joined w upper lower)
run_joined w j upper lower h le hl =
    let reach = within w j h in
    let k : ℕ = j - 64 in
    let wide : w ≡ w - j + 64 + k = omega arith in
    both_words upper lower (128 - j) k (omega arith) hl
    ∙ sym (mod-mod-pow ((upper * 2 ^ 64 + lower) / 2 ^ k) (w - j) 64)
    ∙ ap (λ (v : ℕ). v % 2 ^ 64) (sym (field (upper * 2 ^ 64 + lower) (w - j + 64) k))
    ∙ ap (λ (p : ℕ). (upper * 2 ^ 64 + lower) % 2 ^ p / 2 ^ k % 2 ^ 64) (sym wide)

-- what was taken apart is there again
pub joined_apart : (w x : ℕ) → x < 2 ^ w → joined w (x / 2 ^ 64) (x % 2 ^ 64) ≡ x
joined_apart w x h = ap (λ (v : ℕ). v % 2 ^ w) (split x 64) ∙ mod-eq_of_lt h

-- each word is there, the upper one without its spare bits; p is what it has of the register
pub upper_kept : (p upper lower : ℕ) → lower < 2 ^ 64 → upper % 2 ^ p ≡ joined (p + 64) upper lower / 2 ^ 64
upper_kept p upper lower h =
    sym (field (upper * 2 ^ 64 + lower) p 64 ∙ ap (λ (v : ℕ). v % 2 ^ p) (high upper 64 h))

pub lower_kept : (p upper lower : ℕ) → lower < 2 ^ 64 → lower ≡ joined (p + 64) upper lower % 2 ^ 64
lower_kept p upper lower h = sym (mod-mod-pow (upper * 2 ^ 64 + lower) p 64 ∙ low upper 64 h)

-- after n new bits
module _ (p upper lower : ℕ) (small : p ≤ 64) (n r : ℕ) (few : n ≤ 64) (hr : r < 2 ^ n) where
  abbrev y : ℕ
  y = upper * 2 ^ 64 + lower

  abbrev later : ℕ
  later = grown (p + 64) (joined (p + 64) upper lower) n r

  pub upper_grown : shifted upper lower n % 2 ^ p ≡ later / 2 ^ 64
  upper_grown =
      let all : n + (64 - n) ≡ 64 = omega arith in
      word_mod p (y / 2 ^ (64 - n)) small
      ∙ ap (λ (v : ℕ). v / 2 ^ (64 - n) % 2 ^ p) (sym (high y n hr))
      ∙ ap (λ (v : ℕ). v % 2 ^ p) (shr-shr (y * 2 ^ n + r) n (64 - n) ∙ ap (λ (e : ℕ). (y * 2 ^ n + r) / 2 ^ e) all)
      ∙ sym (ap (λ (v : ℕ). v / 2 ^ 64) (grown_mod (p + 64) y n r) ∙ field (y * 2 ^ n + r) p 64)

  pub lower_grown : later % 2 ^ 64 ≡ (lower * 2 ^ n + r) % 2 ^ 64
  lower_grown =
      ap (λ (v : ℕ). v % 2 ^ 64) (grown_mod (p + 64) y n r)
      ∙ mod-mod-pow (y * 2 ^ n + r) p 64
      ∙ sym (multiple_mod (2 ^ 64) y (2 ^ n) r)
      ∙ ap (λ (v : ℕ). (v * 2 ^ n + r) % 2 ^ 64) (mul-add-mod_self_right upper (2 ^ 64) lower)
      ∙ multiple_mod (2 ^ 64) lower (2 ^ n) r

-- after a step
pub lower_moved : (p upper lower new : ℕ) → p ≤ 64 → new < 2
    → bit_or (lower * 2 % 2 ^ 64) new ≡ moved (p + 64) (joined (p + 64) upper lower) new % 2 ^ 64
lower_moved p upper lower new small bit =
    let x : ℕ = joined (p + 64) upper lower in
    moved_up 1 63 lower new refl bit
    ∙ sym
    (ap (λ (y : ℕ). (y + new) % 2 ^ (p + 64) % 2 ^ 64) (mul_comm 2 x)
    ∙ lower_grown p upper lower small 1 new (omega arith) bit)

-- after 64 the lower word has gone up, and what stood above it counts for nothing
pub joined_strode : (p upper lower : ℕ) → p ≤ 64 → (v : ℕ) → v < 2 ^ 64
    → let x = grown (p + 64) (joined (p + 64) upper lower) 64 v in joined (p + 64) lower (x % 2 ^ 64) ≡ x
joined_strode p upper lower small v hv =
    let y : ℕ = upper * 2 ^ 64 + lower in
    ap (joined (p + 64) lower) (lower_grown p upper lower small 64 v (omega arith) hv ∙ low lower 64 hv)
    ∙ scaled_mod lower 64 p v hv
    ∙ ap (λ (x : ℕ). x * 2 ^ 64 + v) (sym (lower_word p upper lower small))
    ∙ sym (grown_mod (p + 64) y 64 v ∙ scaled_mod y 64 p v hv)

-- after n of 64 bits the two words have gone up by n, and so has what came in
pub joined_part : (p upper lower : ℕ) → p ≤ 64 → (n v : ℕ) → n ≤ 64 → v < 2 ^ 64
    → joined (p + 64) (shifted upper lower n) (shifted lower v n)
    ≡ grown (p + 64) (joined (p + 64) upper lower) n (v / 2 ^ (64 - n))
joined_part p upper lower small n v few hv =
    let k : ℕ = 64 - n in
    let all : n + k ≡ 64 = omega arith in
    let hr : v / 2 ^ k < 2 ^ n = front_small n k all hv in
    let x : ℕ = grown (p + 64) (joined (p + 64) upper lower) n (v / 2 ^ k) in
    scaled_mod (shifted upper lower n) 64 p (shifted lower v n) (mod-lt _ (pow_pos 64))
    ∙ ap₂ (λ (y z : ℕ). y * 2 ^ 64 + z) (upper_grown p upper lower small n (v / 2 ^ k) few hr)
    (ap (λ (y : ℕ). y % 2 ^ 64) (moved_down lower v n k all)
    ∙ sym (lower_grown p upper lower small n (v / 2 ^ k) few hr))
    ∙ split x 64
