-- 64 of TRIAD's updates at once, and n of them: it owes what `shift_registers` asks for, and turning the words there
-- gives the words here.
use mathlib.Core.Path.{◌≡◌, sym, ap, ap₂, subst, ◌∙◌}
use mathlib.Core.List.{List, ◌++◌}
use Prim.Native.Nat.{ℕ, ◌+◌, ◌-◌, ◌/◌, ◌%◌, ◌^◌, ◌<◌, ◌≤◌}
use native.Mathlib.{Nat.mod-lt, Omega.arith}
use lib.{ListN.length, Pow.pow_pos}
use Rattle.octets.specs.{Digits.number, Digits.digits, LowFirst.bits_up, LowFirst.number_up, LowFirst.turned}
use Rattle.octets.proofs.Numbers.{Below}
use Rattle.octets.proofs.LowFirst.{turned_below, turned_twice, bits_turned, up_turned, length_up, up_append}
use Rattle.shift_registers.specs.{Registers.State, Registers.moved, Words.joined, Words.shifted, Words.newest_by}
use Rattle.shift_registers.specs.declared.{Newest.Newest, SixWords.SixWords}
use Rattle.shift_registers.proofs.Steps as steps
use Rattle.shift_registers.proofs.Strides as by
use Rattle.shift_registers.proofs.{Words.Reads, Strides.Striding}
use Rattle.triad_taps.specs.Update.{next, output_bit, triad_upd, updates, outputs}
use Rattle.triad_taps.specs.Words.{of_words, newest}
use Rattle.triad_taps.proofs.Turned.{turned_shifted, up_part, up_low}
use Rattle.triad_taps.proofs.Words.{mixed, bits_by_lem, mixed_down, mixed_small, around}

-- ---- what it owes

pub by_words : (v : ℕ) (s : State) (f g h : ℕ → ℕ) → Reads 80 s.a f → Reads 88 s.b g → Reads 88 s.c h
    → let t = mixed v f g h in (output_bit s ≡ t.z % 2) × (next (v % 2) s ≡ by.pushed 80 88 88 s t)
unfolding next
by_words v s f g h ra rb rc =
    let got = bits_by_lem v s f g h ra rb rc in (
      got.0,
      (λ i. record { a = moved 80 s.a (got.1 i); b = moved 88 s.b (got.2 i); c = moved 88 s.c (got.3 i) }),
    )

abbrev pub striding : Striding
striding =
    record {
      p = 16;
      q = 24;
      r = 24;
      fits = (omega arith, omega arith, omega arith);
      mover = triad_upd;
      mixed = mixed;
      by = by_words;
      cut = mixed_down;
      small = mixed_small;
    }

-- ---- states whose registers fit their widths

abbrev pub Held : State → Type 0
Held = steps.Held 80 88 88

pub held_words : (w : SixWords) → Held (of_words w)
held_words w = steps.held_cut 80 88 88 _ _ _

cuts : (bit : ℕ) (s : State) → Held (next bit s)
unfolding next
cuts bit s = steps.held_cut 80 88 88 _ _ _

pub held_updates : (message : List ℕ) (s : State) → Held s → Held (updates message s)
held_updates = steps.held_by triad_upd 80 88 88 cuts

-- ---- the bits put out

one_bit : (s : State) → output_bit s < 2
unfolding output_bit
one_bit s = mod-lt _ (omega arith)

pub updates_append : (xs ys : List ℕ) (s : State) → updates (xs ++ ys) s ≡ updates ys (updates xs s)
updates_append = steps.steps_append triad_upd

pub outputs_append : (xs ys : List ℕ) (s : State) → outputs (xs ++ ys) s ≡ outputs xs s ++ outputs ys (updates xs s)
outputs_append = steps.bits_append triad_upd

pub length_outputs : (message : List ℕ) (s : State) → length (outputs message s) ≡ length message
length_outputs = steps.length_by triad_upd

pub outputs_below : (message : List ℕ) (s : State) → Below 2 (outputs message s)
outputs_below = steps.below_by triad_upd one_bit

-- ---- by words

-- the updates of a whole word, and the same as `shift_registers` has them
around_newest : (message : ℕ) (s : State)
    → around (newest_by triad_upd (digits 2 64 (turned message)) s) ≡ newest (bits_up 64 message) s
unfolding newest_by newest
around_newest message s =
    let bits : List ℕ = bits_up 64 message in
    let same : digits 2 64 (turned message) ≡ bits = sym (bits_turned message) in
    let out = up_turned (outputs bits s) (length_outputs bits s ∙ length_up 64 message) (outputs_below bits s) in
    λ i.
    record {
      z = (ap (λ (l : List ℕ). turned (number 2 (outputs l s))) same ∙ sym out) i;
      a = turned ((updates (same i) s).a % 2 ^ 64);
      b = turned ((updates (same i) s).b % 2 ^ 64);
      c = turned ((updates (same i) s).c % 2 ^ 64);
    }

-- n bits of the output are the n lowest of the whole word
pub put_out_part : (message : ℕ) (s : State) {t : Newest} → t ≡ newest (bits_up 64 message) s → (n : ℕ) → n ≤ 64
    → t.z % 2 ^ n ≡ number_up (outputs (bits_up n message) s)
unfolding newest
put_out_part message s e n few =
    let k : ℕ = 64 - n in
    let all : 64 ≡ n + k = omega arith in
    let first : List ℕ = bits_up n message in
    let rest : List ℕ = bits_up k (message / 2 ^ n) in
    let some : List ℕ = outputs first s in
    let cut : bits_up 64 message ≡ first ++ rest =
    ap (λ (m : ℕ). bits_up m message) all ∙ up_append n k message in
    let long : n ≡ length some = sym (length_outputs first s ∙ length_up n message) in
    (λ i. (e i).z % 2 ^ n)
    ∙ ap (λ (l : List ℕ). number_up (outputs l s) % 2 ^ n) cut
    ∙ ap₂ (λ (l : List ℕ) (m : ℕ). number_up l % 2 ^ m) (outputs_append first rest s) long
    ∙ up_low some (outputs rest (updates first s)) (outputs_below first s)

-- the six words after all of them, and after all but the last n
abbrev pub pushed : SixWords → Newest → SixWords
pushed w t = record { a1 = w.a0; a0 = t.a; b1 = w.b0; b0 = t.b; c1 = w.c0; c0 = t.c }

abbrev pub partly : ℕ → SixWords → Newest → SixWords
partly n w t =
    record {
      a1 = shifted w.a0 w.a1 n;
      a0 = shifted t.a w.a0 n;
      b1 = shifted w.b0 w.b1 n;
      b0 = shifted t.b w.b0 n;
      c1 = shifted w.c0 w.c1 n;
      c0 = shifted t.c w.c0 n;
    }

module _ (w : SixWords) (message : ℕ) where
  abbrev six : State
  six = of_words w

  abbrev words : Newest
  words = by.words striding (turned message) six

  -- what 64 updates put out and leave newest
  pub words_newest : around words ≡ newest (bits_up 64 message) six
  words_newest =
      ap around
      (by.words_newest striding (turned message) (turned_below message) (turned w.a1) (turned w.a0) (turned w.b1)
      (turned w.b0) (turned w.c1) (turned w.c0))
      ∙ around_newest message six

  -- the registers after them, by their newest words alone
  pub strode : {t : Newest} → t ≡ newest (bits_up 64 message) six
      → of_words (pushed w t) ≡ updates (bits_up 64 message) six
  unfolding newest
  strode e =
      let there : State = updates (bits_up 64 message) six in
      let back : (x : ℕ) → turned (turned (x % 2 ^ 64)) ≡ x % 2 ^ 64 = λ x. turned_twice _ (mod-lt x (pow_pos 64)) in
      (λ i. of_words (pushed w (e i)))
      ∙ (λ i.
      record {
        a = joined 80 (turned w.a0) (back there.a i);
        b = joined 88 (turned w.b0) (back there.b i);
        c = joined 88 (turned w.c0) (back there.c i);
      })
      ∙ subst
      (λ (l : List ℕ).
      let t = updates l six in
      by.of_six striding (turned w.a0) (t.a % 2 ^ 64) (turned w.b0) (t.b % 2 ^ 64) (turned w.c0) (t.c % 2 ^ 64) ≡ t)
      (sym (bits_turned message))
      (by.strode striding (turned message) (turned_below message) (turned w.a1) (turned w.a0) (turned w.b1)
      (turned w.b0) (turned w.c1) (turned w.c0))

  -- and after n of them, by all words moved on
  pub part_strode : {t : Newest} → t ≡ newest (bits_up 64 message) six → w.a1 < 2 ^ 64 → w.a0 < 2 ^ 64
      → w.b1 < 2 ^ 64 → w.b0 < 2 ^ 64 → w.c1 < 2 ^ 64 → w.c0 < 2 ^ 64 → (n : ℕ) → n ≤ 64
      → of_words (partly (64 - n) w t) ≡ updates (bits_up n message) six
  part_strode {t} e ha1 ha0 hb1 hb0 hc1 hc0 n few =
      let k : ℕ = 64 - n in
      let same : t ≡ around words = e ∙ sym words_newest in
      let small = by.small_words striding (turned message) (turned_below message) six in
      let older : (x1 x0 : ℕ) → x1 < 2 ^ 64 → x0 < 2 ^ 64
      → turned (shifted x0 x1 k) ≡ shifted (turned x1) (turned x0) n =
      λ x1 x0 h1 h0. turned_shifted x0 x1 n few h0 h1 in
      let newer : (x0 x : ℕ) → x0 < 2 ^ 64 → x < 2 ^ 64 → turned (shifted (turned x) x0 k) ≡ shifted (turned x0) x n =
      λ x0 x h0 hx.
      turned_shifted (turned x) x0 n few (turned_below x) h0
      ∙ ap (λ (v : ℕ). shifted (turned x0) v n) (turned_twice x hx) in
      (λ i. of_words (partly k w (same i)))
      ∙ (λ i.
      record {
        a = joined 80 (older w.a1 w.a0 ha1 ha0 i) (newer w.a0 words.a ha0 small.1 i);
        b = joined 88 (older w.b1 w.b0 hb1 hb0 i) (newer w.b0 words.b hb0 small.2 i);
        c = joined 88 (older w.c1 w.c0 hc1 hc0 i) (newer w.c0 words.c hc0 small.3 i);
      })
      ∙ by.part_strode striding (turned message) (turned_below message) (turned w.a1) (turned w.a0) (turned w.b1)
      (turned w.b0) (turned w.c1) (turned w.c0) n few
      ∙ ap (λ (l : List ℕ). updates l six) (sym (up_part n message few))
