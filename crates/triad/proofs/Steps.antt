-- Updates of the record: what is packed stands for the state that it was packed from, so laws of states are its laws.
use mathlib.Core.{Path.◌≡◌, Path.refl, Path.sym, Path.ap, Path.ap₂, Path.subst, Path.◌∙◌, List.List, List.[], List.◌∷◌}
use mathlib.Core.List.{◌++◌}
use Prim.Native.Nat.{ℕ, zero, suc, ◌+◌, ◌*◌, ◌/◌, ◌%◌, ◌^◌, ◌<◌, ◌≤◌, min}
use native.Mathlib.{Nat.zero-add, Nat.suc-add, Nat.mod-lt, Nat.mod-eq_of_lt, Omega.arith}
use native.Mathlib.Nat.{lt_of_lt_of_le}
use lib.Pow.{pow_pos, pow_mono, shr_lt, split, high, low, field, mod-mod-pow}
use Rattle.octets.specs.LowFirst.{bits_up, bits_up_of, number_up, turned}
use Rattle.octets.proofs.LowFirst.{turned_below, turned_twice, turned_top, up_zeros, bytes_append}
use Rattle.shift_registers.specs.{Registers.State, Steps.steps_by, Steps.bits_by, Words.joined, Words.shifted}
use Rattle.shift_registers.specs.declared.{Newest.Newest, SixWords.SixWords}
use Rattle.shift_registers.proofs.Steps.{held_cut}
use Rattle.triad_taps.specs.Words.{of_words, newest}
use Rattle.triad_taps.proofs.Strides.{held_words, outputs_below, strode, part_strode}
use Rattle.triad.specs.Calls.{striding, running, short_striding, skipping}
use Rattle.triad.specs.{Record.state, Record.packed, declared.Registers.Registers, declared.Strode.Strode}
use Rattle.triad.specs.State.{next, output_bit, outputs, permuted, updates, zeros}
use Rattle.triad.specs.Tag.{absorbed}
pub use Rattle.triad_taps.proofs.Strides.{Held, held_updates, updates_append}

-- ---- updates one behind the other

pub zeros_add : (n m : ℕ) → zeros (n + m) ≡ zeros n ++ zeros m
zeros_add zero m = ap zeros (zero-add m)
zeros_add (suc n) m = ap zeros (suc-add n m) ∙ ap (λ (l : List ℕ). 0 ∷ l) (zeros_add n m)

pub zeros_on : (n m : ℕ) (s : State) → updates (zeros (n + m)) s ≡ updates (zeros m) (updates (zeros n) s)
zeros_on n m s = ap (λ (l : List ℕ). updates l s) (zeros_add n m) ∙ updates_append (zeros n) (zeros m) s

-- n bytes and then m bytes are n + m bytes
pub bytes_on : (n m : ℕ) (s : State)
    → updates (zeros (8 * (n + m))) s ≡ updates (zeros (8 * m)) (updates (zeros (8 * n)) s)
bytes_on n m s =
    let both : 8 * (n + m) ≡ 8 * n + 8 * m = omega arith in
    ap (λ (k : ℕ). updates (zeros k) s) both ∙ zeros_on (8 * n) (8 * m) s

-- a message of nothing
pub silent : (n : ℕ) (s : State) → updates (bits_up n 0) s ≡ updates (zeros n) s
silent n s = ap (λ (l : List ℕ). updates l s) (up_zeros n)

-- ---- states whose registers fit their widths

pub held_state : (r : Registers) → Held (state r)
unfolding state
held_state r = held_words r.words

-- a first update cuts each register to its width
pub held_first : (x : ℕ) (xs : List ℕ) (s : State) → Held (updates (x ∷ xs) s)
unfolding steps_by next
held_first x xs s = held_updates xs (next x s) (held_cut 80 88 88 _ _ _)

-- a register of p + 64 bits in two words that stand turned
turned_apart : (p x : ℕ) → p ≤ 64 → x < 2 ^ (p + 64)
    → joined (p + 64) (turned (turned (x / 2 ^ 64))) (turned (turned (x % 2 ^ 64))) ≡ x
turned_apart p x small h =
    ap₂ (joined (p + 64)) (turned_twice (x / 2 ^ 64) (lt_of_lt_of_le (shr_lt p 64 h) (pow_mono small)))
    (turned_twice (x % 2 ^ 64) (mod-lt x (pow_pos 64)))
    ∙ ap (λ (v : ℕ). v % 2 ^ (p + 64)) (split x 64) ∙ mod-eq_of_lt h

-- what was packed is there again
pub state_packed : (s : State) → Held s → state (packed s) ≡ s
unfolding state packed
state_packed s h =
    let a = turned_apart 16 s.a (omega arith) h.a in
    let b = turned_apart 24 s.b (omega arith) h.b in
    let c = turned_apart 24 s.c (omega arith) h.c in
    λ i. record { a = a i; b = b i; c = c i }

pub state_updates : (xs : List ℕ) (r : Registers) → state (packed (updates xs (state r))) ≡ updates xs (state r)
state_updates xs r = state_packed (updates xs (state r)) (held_updates xs (state r) (held_state r))

pub state_skip : (r : Registers) (n : ℕ) → state (skipping r n) ≡ updates (zeros (8 * n)) (state r)
unfolding skipping
state_skip r n = state_updates (zeros (8 * n)) r

pub skip_add : (r : Registers) (n m : ℕ) → skipping (skipping r n) m ≡ skipping r (n + m)
unfolding skipping
skip_add r n m =
    ap packed (ap (updates (zeros (8 * m))) (state_skip r n) ∙ sym (bytes_on n m (state r)))

-- ---- spare bits

-- p bits of a register's older word, and all of its newer
pub older_kept : (p k older newer : ℕ) → p + k ≡ 64 → older < 2 ^ 64
    → older / 2 ^ k * 2 ^ k % 2 ^ 64 ≡ turned (joined (p + 64) (turned older) (turned newer) / 2 ^ 64)
older_kept p k older newer all h =
    turned_top p k older all h
    ∙ ap turned
    (sym
    (field (turned older * 2 ^ 64 + turned newer) p 64
    ∙ ap (λ (v : ℕ). v % 2 ^ p) (high (turned older) 64 (turned_below newer))))

pub newer_kept : (p older newer : ℕ) → newer < 2 ^ 64
    → newer ≡ turned (joined (p + 64) (turned older) (turned newer) % 2 ^ 64)
newer_kept p older newer h =
    sym (turned_twice newer h)
    ∙ ap turned
    (sym
    (mod-mod-pow (turned older * 2 ^ 64 + turned newer) p 64 ∙ low (turned older) 64 (turned_below newer)))

-- the older word says a register's upper bits, and its newer word the 64 others
pub newer_told : (p older other y new : ℕ) → joined (p + 64) (turned older) (turned other) ≡ y
    → new ≡ turned (y % 2 ^ 64) → joined (p + 64) (turned older) (turned new) ≡ y
newer_told p older other y new e told =
    ap (λ (v : ℕ). joined (p + 64) (turned older) v)
    (ap turned told ∙ turned_twice (y % 2 ^ 64) (mod-lt y (pow_pos 64))
    ∙ ap (λ (v : ℕ). v % 2 ^ 64) (sym e)
    ∙ mod-mod-pow (turned older * 2 ^ 64 + turned other) p 64 ∙ low (turned older) 64 (turned_below other))
    ∙ e

-- ---- one update

-- the bit that it puts out
pub one_out : (x : ℕ) (s : State) → number_up (outputs (x ∷ []) s) ≡ output_bit s
unfolding number_up bits_by
one_out x s = omega arith

pub out_below : (x : ℕ) (s : State) → number_up (outputs (x ∷ []) s) < 2
unfolding bits_by
out_below x s = subst (λ (v : ℕ). v < 2) (sym (one_out x s)) (outputs_below (x ∷ []) s 0)

-- the words that it leaves
pub stepped : (w : SixWords) (message : ℕ) → w.a1 < 2 ^ 64 → w.a0 < 2 ^ 64 → w.b1 < 2 ^ 64 → w.b0 < 2 ^ 64
    → w.c1 < 2 ^ 64 → w.c0 < 2 ^ 64 → {t : Newest} → t ≡ newest (message % 2 ∷ []) (of_words w)
    → of_words
    (record {
      a1 = shifted w.a0 w.a1 63;
      a0 = t.a;
      b1 = shifted w.b0 w.b1 63;
      b0 = t.b;
      c1 = shifted w.c0 w.c1 63;
      c0 = t.c;
    })
    ≡ next (message % 2) (of_words w)
unfolding newest bits_up steps_by
stepped w message ha1 ha0 hb1 hb0 hc1 hc0 told =
    let one = part_strode w message refl ha1 ha0 hb1 hb0 hc1 hc0 1 (omega arith) in
    let a = newer_told 16 (shifted w.a0 w.a1 63) _ _ _ (λ i. (one i).a) (λ i. (told i).a) in
    let b = newer_told 24 (shifted w.b0 w.b1 63) _ _ _ (λ i. (one i).b) (λ i. (told i).b) in
    let c = newer_told 24 (shifted w.c0 w.c1 63) _ _ _ (λ i. (one i).c) (λ i. (told i).c) in
    λ i. record { a = a i; b = b i; c = c i }

-- ---- 64 updates in a loop, and fewer

module _ (r : Registers) (message : ℕ) {s : Strode} where
  pub ran_word : s ≡ running r message → s.word ≡ number_up (outputs (bits_up 64 message) (state r))
  unfolding running striding
  ran_word e = λ i. (e i).word

  -- what a loop leaves in an older word behind its register counts for nothing
  pub ran_state : s ≡ running r message → state s.next ≡ updates (bits_up 64 message) (state r)
  unfolding running striding state packed newest
  ran_state e =
      ap (λ (t : Strode). state t.next) e ∙ strode r.words message refl

  module _ (n : ℕ) (e : s ≡ short_striding r message n) where
    pub short_word : s.word ≡ number_up (outputs (bits_up 64 message) (state r))
    unfolding short_striding striding
    short_word = λ i. (e i).word

    pub short_next : n ≤ 64 → s.next ≡ packed (updates (bits_up n message) (state r))
    unfolding short_striding
    short_next few =
        let all : min n 64 ≡ n = omega arith in
        (λ i. (e i).next) ∙ ap (λ (k : ℕ). packed (updates (bits_up k message) (state r))) all

-- ---- the permutation

first_zeros : (first n : ℕ) → first < 2 → bits_up (suc n) first ≡ first ∷ zeros n
unfolding bits_up
first_zeros first n h =
    let same : first % 2 ≡ first = omega arith in
    let none : first / 2 ≡ 0 = omega arith in
    ap₂ (λ (x : ℕ) (y : ℕ). x ∷ bits_up n y) same none ∙ ap (λ (l : List ℕ). first ∷ l) (up_zeros n)

permuted_by : (first n m all : ℕ) (s : State) → first < 2 → n + m ≡ all
    → updates (zeros m) (updates (bits_up (suc n) first) s) ≡ updates (first ∷ zeros all) s
unfolding steps_by
permuted_by first n m all s h e =
    ap (λ (l : List ℕ). updates (zeros m) (updates l s)) (first_zeros first n h)
    ∙ sym (zeros_on n m _)
    ∙ ap (λ (k : ℕ). updates (first ∷ zeros k) s) e

-- updates that take nothing; shut, so that whoever counts them finds their number
unfoldable pub idle : ℕ → State → State
idle n s = updates (zeros n) s

pub idle_none : (s : State) {n : ℕ} → n ≡ 0 → s ≡ idle n s
unfolding idle steps_by
idle_none s e = sym (ap (λ (k : ℕ). updates (zeros k) s) e)

-- one stride more of them
pub idle_on : (k : ℕ) (s now : State) {next : State} {message : ℕ} → now ≡ idle (64 * k) s
    → next ≡ updates (bits_up 64 message) now → message ≡ 0 → next ≡ idle (64 * (k + 1)) s
unfolding idle
idle_on k s now {message = message} there moved none =
    let all : 64 * k + 64 ≡ 64 * (k + 1) = omega arith in
    moved
    ∙ ap (λ (v : ℕ). updates (bits_up 64 v) now) none
    ∙ silent 64 now
    ∙ ap (updates (zeros 64)) there
    ∙ sym (zeros_on (64 * k) 64 s)
    ∙ ap (λ (n : ℕ). updates (zeros n) s) all

-- a stride that takes the bit, and 15 more
pub permuted_strides : (first : ℕ) (s t : State) {now : State} {n : ℕ} → first < 2 → t ≡ updates (bits_up 64 first) s
    → now ≡ idle n t → n ≡ 960 → now ≡ permuted first s
unfolding permuted idle
permuted_strides first s t h begun there all =
    there
    ∙ ap (λ (k : ℕ). updates (zeros k) t) all
    ∙ ap (updates (zeros 960)) begun
    ∙ permuted_by first 63 960 1023 s h refl

-- ---- bytes taken in

pub absorbed_append : (xs ys : List ℕ) (s : State) → absorbed (xs ++ ys) s ≡ absorbed ys (absorbed xs s)
unfolding absorbed
absorbed_append xs ys s =
    ap (λ (l : List ℕ). updates l s) (bytes_append xs ys) ∙ updates_append (bits_up_of xs) (bits_up_of ys) s
