-- Trivium's rules on whole words: bit by bit they are what a step puts out and pushes in.
use mathlib.Core.Path.{◌≡◌, sym, ap, ◌∙◌}
use Prim.Native.Nat.{ℕ, ◌+◌, ◌*◌, ◌/◌, ◌%◌, ◌^◌, ◌<◌}
use native.Mathlib.{Nat.add-mod, Omega.arith}
use lib.Bits.{bit_xor, bit_and, xor_lt, and_lt, xor_shr, and_shr}
use Rattle.octets.proofs.Bits.{xor_low, and_low}
use Rattle.shift_registers.specs.declared.Newest.{Newest}
use Rattle.shift_registers.proofs.{Strides.Small, Strides.down, Words.Reads, Words.here}
use Rattle.taps.specs.Registers.{State, new_a, new_b, new_c, output_bit}

-- the rules for the output and for the new bits: a, b and c say the word for a tap

abbrev pub rule : ℕ → ℕ → ℕ → ℕ → ℕ → ℕ
rule p q r s t = bit_xor (bit_xor (bit_xor p q) (bit_and r s)) t

abbrev pub sum : ℕ → ℕ → ℕ → ℕ → ℕ → ℕ → ℕ
sum p q r s t u = bit_xor (bit_xor (bit_xor p q) (bit_xor r s)) (bit_xor t u)

abbrev pub mixed : (ℕ → ℕ) → (ℕ → ℕ) → (ℕ → ℕ) → Newest
mixed a b c =
    record {
      z = sum (c 66) (c 111) (a 66) (a 93) (b 69) (b 84);
      a = rule (c 66) (c 111) (c 110) (c 109) (a 69);
      b = rule (a 66) (a 93) (a 92) (a 91) (b 78);
      c = rule (b 69) (b 84) (b 83) (b 82) (c 87);
    }

rule_low : (p q r s t : ℕ) → rule p q r s t % 2 ≡ (p % 2 + q % 2 + (r % 2) * (s % 2) + t % 2) % 2
rule_low p q r s t = simp (xor_low, and_low) (omega arith)

sum_low : (p q r s t u : ℕ) → sum p q r s t u % 2 ≡ (p % 2 + q % 2 + r % 2 + s % 2 + t % 2 + u % 2) % 2
sum_low p q r s t u = simp xor_low (flat (p % 2) (q % 2) (r % 2) (s % 2) (t % 2) (u % 2))
  where
    flat : (p q r s t u : ℕ) → (((p + q) % 2 + (r + s) % 2) % 2 + (t + u) % 2) % 2 ≡ (p + q + r + s + t + u) % 2
    flat p q r s t u =
        rw (← add-mod (p + q) (r + s) 2, ← add-mod (p + q + (r + s)) (t + u) 2) (ap (λ (v : ℕ). v % 2) (omega arith))

-- where every tap is the lowest bit of its word
pub bits_by_lem : (s : State) (a b c : ℕ → ℕ) → Reads 93 s.a a → Reads 84 s.b b → Reads 111 s.c c
    → let t = mixed a b c in (output_bit s ≡ t.z % 2) × (new_a s ≡ t.a % 2) × (new_b s ≡ t.b % 2) × (new_c s ≡ t.c % 2)
unfolding output_bit
bits_by_lem s a b c ra rb rc = (
  (λ i. (rc 66 here i + rc 111 here i + ra 66 here i + ra 93 here i + rb 69 here i + rb 84 here i) % 2)
      ∙ sym (sum_low _ _ _ _ _ _),
  (λ i. (rc 66 here i + rc 111 here i + rc 110 here i * rc 109 here i + ra 69 here i) % 2)
      ∙ sym (rule_low _ _ _ _ _),
  (λ i. (ra 66 here i + ra 93 here i + ra 92 here i * ra 91 here i + rb 78 here i) % 2) ∙ sym (rule_low _ _ _ _ _),
  (λ i. (rb 69 here i + rb 84 here i + rb 83 here i * rb 82 here i + rc 87 here i) % 2) ∙ sym (rule_low _ _ _ _ _),
)

pub mixed_down : (k : ℕ) (a b c : ℕ → ℕ)
    → mixed (λ j. a j / 2 ^ k) (λ j. b j / 2 ^ k) (λ j. c j / 2 ^ k) ≡ down k (mixed a b c)
mixed_down k a b c = simp (xor_shr, and_shr)

pub mixed_small : (a b c : ℕ → ℕ) → ((j : ℕ) → a j < 2 ^ 64) → ((j : ℕ) → b j < 2 ^ 64) → ((j : ℕ) → c j < 2 ^ 64)
    → Small 64 (mixed a b c)
mixed_small a b c ha hb hc =
    let two : (f : ℕ → ℕ) → ((j : ℕ) → f j < 2 ^ 64) → (j k : ℕ) → bit_xor (f j) (f k) < 2 ^ 64 =
    λ f h j k. xor_lt 64 (f j) (f k) (h j) (h k) in
    let new : (f g : ℕ → ℕ) → ((j : ℕ) → f j < 2 ^ 64) → ((j : ℕ) → g j < 2 ^ 64) → (p q r s t : ℕ)
    → rule (f p) (f q) (f r) (f s) (g t) < 2 ^ 64 =
    λ f g hf hg p q r s t. xor_lt 64 _ _ (xor_lt 64 _ _ (two f hf p q) (and_lt 64 _ _ (hf r) (hf s))) (hg t) in (
      xor_lt 64 _ _ (xor_lt 64 _ _ (two c hc 66 111) (two a ha 66 93)) (two b hb 69 84),
      new c a hc ha 66 111 110 109 69,
      new a b ha hb 66 93 92 91 78,
      new b c hb hc 69 84 83 82 87,
    )
