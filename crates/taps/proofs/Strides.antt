-- 64 of Trivium's steps at once: it owes what `shift_registers` asks for, and so has what is proved there.
use mathlib.Core.Path.{◌≡◌, sym, subst, ◌∙◌}
use Prim.Native.Nat.{ℕ, ◌+◌, ◌-◌, ◌/◌, ◌%◌, ◌^◌, ◌<◌, min}
use native.Mathlib.Omega.{arith}
use Rattle.octets.specs.Digits.{digits}
use Rattle.octets.proofs.Numbers.{length_digits}
use Rattle.shift_registers.specs.{Registers.moved, declared.Newest.Newest, declared.SixWords.SixWords}
use Rattle.shift_registers.proofs.Strides as by
use Rattle.shift_registers.proofs.{Words.Reads, Strides.Small, Strides.Striding, Strides.down, Strides.late}
use Rattle.taps.specs.Registers.{State, next, steps, output_bit}
use Rattle.taps.specs.{Words.of_words, Words.newest}
use Rattle.taps.proofs.Steps.{Held, alone, steps_alone, newest_alone}
use Rattle.taps.proofs.Words.{mixed, bits_by_lem, mixed_down, mixed_small}

pub by_words : (s : State) (f g h : ℕ → ℕ) → Reads 93 s.a f → Reads 84 s.b g → Reads 111 s.c h
    → let t = mixed f g h in (output_bit s ≡ t.z % 2) × (next s ≡ by.pushed 93 84 111 s t)
unfolding next
by_words s f g h ra rb rc =
    let got = bits_by_lem s f g h ra rb rc in (
      got.0,
      (λ i.
          record { a = moved 93 s.a (got.1 i); b = moved 84 s.b (got.2 i); c = moved 111 s.c (got.3 i) }),
    )

abbrev pub striding : Striding
striding =
    record {
      p = 29;
      q = 20;
      r = 47;
      fits = (omega arith, omega arith, omega arith);
      mover = alone;
      mixed = λ v. mixed;
      by = λ v. by_words;
      cut = λ k v. mixed_down k;
      small = λ v f g h hv. mixed_small f g h;
    }

-- the steps ask for no message: let it be zeros
none : 0 < 2 ^ 64
none = omega arith

-- the words that 64 steps put out and push in, and their first bits, all but k
abbrev pub words : State → Newest
words = by.words striding 0

abbrev pub front : ℕ → State → Newest
front k s = down k (words s)

pub small_front : (n k : ℕ) (s : State) → n + k ≡ 64 → Small n (front k s)
small_front = by.small_front striding 0 none

-- the registers after n of them
pub partly : (s : State) → Held s → (n k : ℕ) → n + k ≡ 64 → steps n s ≡ by.entered striding n (front k s) s
partly s held n k e =
    sym (steps_alone (digits 2 n (0 / 2 ^ k)) n s (length_digits 2 n (0 / 2 ^ k)))
    ∙ by.partly striding 0 none s held n k e

module _ (w : SixWords) where
  abbrev six : State
  six = of_words w

  -- what n of them leave newest, and what all leave
  pub late_newest : (n : ℕ) → late n w.a0 w.b0 w.c0 (words six) ≡ newest (min n 64) six
  late_newest n =
      by.late_newest striding 0 none w.a1 w.a0 w.b1 w.b0 w.c1 w.c0 n
      ∙ newest_alone (digits 2 (min n 64) (0 / 2 ^ (64 - n))) (min n 64) six (length_digits 2 (min n 64) _)

  pub words_newest : words six ≡ newest 64 six
  words_newest =
      by.words_newest striding 0 none w.a1 w.a0 w.b1 w.b0 w.c1 w.c0
      ∙ newest_alone (digits 2 64 0) 64 six (length_digits 2 64 0)

  -- the registers after all of them, by their newest words alone
  abbrev pub pushed : State → SixWords
  pushed t =
      record { a1 = w.a0; a0 = t.a % 2 ^ 64; b1 = w.b0; b0 = t.b % 2 ^ 64; c1 = w.c0; c0 = t.c % 2 ^ 64 }

  pub strode : of_words (pushed (steps 64 six)) ≡ steps 64 six
  strode =
      subst (λ (t : State). of_words (pushed t) ≡ t)
      (steps_alone (digits 2 64 0) 64 six (length_digits 2 64 0))
      (by.strode striding 0 none w.a1 w.a0 w.b1 w.b0 w.c1 w.c0)
