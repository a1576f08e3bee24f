-- Steps as iteration: Trivium's steps take no bit from outside, so the laws of steps by any bits are theirs.
use mathlib.Core.{Path.◌≡◌, Path.refl, Path.sym, Path.ap, Path.ap₂, Path.subst, Path.◌∙◌}
use mathlib.Core.List.{List, [], ◌∷◌, ◌++◌}
use Prim.Native.Nat.{ℕ, suc, ◌+◌, ◌*◌, ◌%◌, ◌^◌, ◌<◌}
use native.Mathlib.{Nat.mod-lt, Omega.arith}
use lib.ListN.{length, length-append, length-replicate}
use Rattle.octets.specs.Digits.{number}
use Rattle.octets.proofs.Numbers.{Below}
use Rattle.shift_registers.specs.Steps.{Mover, steps_by, bits_by}
use Rattle.shift_registers.specs.{Words.newest_by, declared.SixWords.SixWords}
use Rattle.shift_registers.proofs.Steps as by
use Rattle.taps.specs.{Keystream.bits, Words.of_words, Words.newest}
use Rattle.taps.specs.Registers.{State, next, steps, output_bit, zeros}

abbrev pub alone : Mover
alone = record { out = output_bit; next = λ bit s. next s }

every : (xs : List ℕ) (s : State) → steps_by alone xs s ≡ steps (length xs) s
unfolding steps_by steps
every [] s = refl
every (x ∷ xs) s = every xs (next s)

every_bit : (xs : List ℕ) (s : State) → bits_by alone xs s ≡ bits (length xs) s
unfolding bits_by bits
every_bit [] s = refl
every_bit (x ∷ xs) s = ap (λ (l : List ℕ). output_bit s ∷ l) (every_bit xs (next s))

-- whatever the bits, their number alone counts
pub steps_alone : (xs : List ℕ) (n : ℕ) (s : State) → length xs ≡ n → steps_by alone xs s ≡ steps n s
steps_alone xs n s e = every xs s ∙ ap (λ (k : ℕ). steps k s) e

pub bits_alone : (xs : List ℕ) (n : ℕ) (s : State) → length xs ≡ n → bits_by alone xs s ≡ bits n s
bits_alone xs n s e = every_bit xs s ∙ ap (λ (k : ℕ). bits k s) e

pub newest_alone : (xs : List ℕ) (n : ℕ) (s : State) → length xs ≡ n → newest_by alone xs s ≡ newest n s
unfolding newest_by newest
newest_alone xs n s e =
    let there = steps_alone xs n s e in
    λ i.
    record {
      z = number 2 (bits_alone xs n s e i);
      a = (there i).a % 2 ^ 64;
      b = (there i).b % 2 ^ 64;
      c = (there i).c % 2 ^ 64;
    }

-- ---- n steps, as by n zeros

so_many : (n : ℕ) → length (zeros n) ≡ n
so_many n = length-replicate n 0

both : (n m : ℕ) → length (zeros n ++ zeros m) ≡ n + m
both n m = length-append (zeros n) (zeros m) ∙ ap₂ (λ (j k : ℕ). j + k) (so_many n) (so_many m)

pub steps_add : (n m : ℕ) (s : State) → steps (n + m) s ≡ steps m (steps n s)
steps_add n m s =
    sym (steps_alone (zeros n ++ zeros m) (n + m) s (both n m))
    ∙ by.steps_append alone (zeros n) (zeros m) s
    ∙ steps_alone (zeros m) m _ (so_many m)
    ∙ ap (steps m) (steps_alone (zeros n) n s (so_many n))

pub steps_none : (s : State) → steps 0 s ≡ s
unfolding steps
steps_none s = refl

-- n bytes and then m bytes are n + m bytes
pub steps_bytes : (n m : ℕ) (s : State) → steps (8 * (n + m)) s ≡ steps (8 * m) (steps (8 * n) s)
steps_bytes n m s = ap (λ (k : ℕ). steps k s) (omega arith) ∙ steps_add (8 * n) (8 * m) s

-- ---- states whose registers fit their widths

abbrev pub Held : State → Type 0
Held = by.Held 93 84 111

pub held_words : (w : SixWords) → Held (of_words w)
held_words w = by.held_cut 93 84 111 _ _ _

cuts : (bit : ℕ) (s : State) → Held (next s)
unfolding next
cuts bit s = by.held_cut 93 84 111 _ _ _

-- a first step cuts each register to its width
pub held_moved : (n : ℕ) (s : State) → Held (steps (suc n) s)
held_moved n s =
    subst Held (steps_alone (0 ∷ zeros n) (suc n) s (ap suc (so_many n)))
    (by.held_first alone 93 84 111 cuts 0 (zeros n) s)

pub held_steps : (n : ℕ) (s : State) → Held s → Held (steps n s)
held_steps n s h =
    subst Held (steps_alone (zeros n) n s (so_many n)) (by.held_by alone 93 84 111 cuts (zeros n) s h)

-- ---- the bits put out

many : (n : ℕ) (s : State) → bits_by alone (zeros n) s ≡ bits n s
many n s = bits_alone (zeros n) n s (so_many n)

pub length_bits : (n : ℕ) (s : State) → length (bits n s) ≡ n
length_bits n s = ap length (sym (many n s)) ∙ by.length_by alone (zeros n) s ∙ so_many n

one_bit : (s : State) → output_bit s < 2
unfolding output_bit
one_bit s = mod-lt _ (omega arith)

pub bits_below : (n : ℕ) (s : State) → Below 2 (bits n s)
bits_below n s = subst (Below 2) (many n s) (by.below_by alone one_bit (zeros n) s)

pub bits_small : (n : ℕ) (s : State) → number 2 (bits n s) < 2 ^ n
bits_small n s =
    subst (λ (k : ℕ). number 2 (bits n s) < 2 ^ k) (so_many n)
    (subst (λ (l : List ℕ). number 2 l < 2 ^ length (zeros n)) (many n s) (by.small_by alone one_bit (zeros n) s))

-- n bits and m more, as numbers
pub number_bits : (n m : ℕ) (s : State)
    → number 2 (bits (n + m) s) ≡ number 2 (bits n s) * 2 ^ m + number 2 (bits m (steps n s))
number_bits n m s =
    let there = steps_alone (zeros n) n s (so_many n) in
    ap (number 2) (sym (bits_alone (zeros n ++ zeros m) (n + m) s (both n m)))
    ∙ by.number_by alone (zeros n) (zeros m) s
    ∙ (λ i. number 2 (many n s i) * 2 ^ so_many m i + number 2 (many m (there i) i))
