-- TRIAD's rules on whole words: bit by bit they are what an update puts out and pushes in.
use mathlib.Core.Path.{◌≡◌, sym, ap, ◌∙◌}
use Prim.Native.Nat.{ℕ, ◌+◌, ◌*◌, ◌/◌, ◌%◌, ◌^◌, ◌<◌}
use native.Mathlib.Omega.{arith}
use lib.Bits.{bit_xor, bit_and, xor_lt, and_lt, xor_shr, and_shr}
use Rattle.octets.specs.LowFirst.{turned}
use Rattle.octets.proofs.Bits.{xor_low, and_low}
use Rattle.octets.proofs.LowFirst.{turned_xor, turned_and}
use Rattle.shift_registers.specs.{Registers.State, declared.Newest.Newest}
use Rattle.shift_registers.proofs.{Strides.Small, Strides.down, Words.Reads, Words.here}
use Rattle.triad_taps.specs.Update.{new1, new2, new3, output_bit}

-- lines 2 to 8 of the update: v is the message's word, and a, b and c say the word for a tap
abbrev pub pair : ℕ → ℕ → ℕ
pair p q = bit_xor p q

abbrev pub triple : ℕ → ℕ → ℕ → ℕ → ℕ
triple p q r s = bit_xor (bit_xor p q) (bit_and r s)

abbrev pub sum : ℕ → ℕ → ℕ → ℕ
sum x y z = bit_xor (bit_xor x y) z

abbrev pub new : ℕ → ℕ → ℕ → ℕ → ℕ → ℕ
new t p q r v = bit_xor (bit_xor (bit_xor t (bit_and p q)) r) v

abbrev pub mixed : ℕ → (ℕ → ℕ) → (ℕ → ℕ) → (ℕ → ℕ) → Newest
mixed v a b c =
    let w1 = triple (a 68) (a 80) (b 85) (c 85) in
    let w2 = pair (b 64) (b 88) in
    let w3 = pair (c 68) (c 88) in
    record {
      z = sum w1 w2 w3;
      a = new w3 (c 77) (c 87) (a 74) v;
      b = new w1 (a 73) (a 79) (b 66) v;
      c = new w2 (b 65) (b 87) (c 84) v;
    }

-- the lowest bit, of one more summand each time
low : (x : ℕ) → x % 2 ≡ x % 2 % 2
low x = omega arith

more_low : (x y u v : ℕ) → x % 2 ≡ u % 2 → y % 2 ≡ v % 2 → bit_xor x y % 2 ≡ (u + v) % 2
more_low x y u v e f = xor_low x y ∙ omega arith

product_low : (p q : ℕ) → bit_and p q % 2 ≡ (p % 2) * (q % 2) % 2
product_low p q = low (bit_and p q) ∙ ap (λ (v : ℕ). v % 2) (and_low p q)

pair_low : (p q : ℕ) → pair p q % 2 ≡ (p % 2 + q % 2) % 2
pair_low p q = more_low p q (p % 2) (q % 2) (low p) (low q)

triple_low : (p q r s : ℕ) → triple p q r s % 2 ≡ (p % 2 + q % 2 + (r % 2) * (s % 2)) % 2
triple_low p q r s = more_low (pair p q) (bit_and r s) _ ((r % 2) * (s % 2)) (pair_low p q) (product_low r s)

sum_low : (x y z u v w : ℕ) → x % 2 ≡ u % 2 → y % 2 ≡ v % 2 → z % 2 ≡ w % 2 → sum x y z % 2 ≡ (u + v + w) % 2
sum_low x y z u v w e f g = more_low (bit_xor x y) z (u + v) w (more_low x y u v e f) g

new_low : (t u p q r v : ℕ) → t % 2 ≡ u % 2 → new t p q r v % 2 ≡ (u + (p % 2) * (q % 2) + r % 2 + v % 2) % 2
new_low t u p q r v e =
    more_low _ v _ (v % 2)
    (more_low _ r _ (r % 2) (more_low t (bit_and p q) u ((p % 2) * (q % 2)) e (product_low p q)) (low r)) (low v)

-- where every tap is the lowest bit of its word
pub bits_by_lem : (v : ℕ) (s : State) (a b c : ℕ → ℕ) → Reads 80 s.a a → Reads 88 s.b b → Reads 88 s.c c
    → let t = mixed v a b c in
    (output_bit s ≡ t.z % 2) × (new3 (v % 2) s ≡ t.a % 2) × (new1 (v % 2) s ≡ t.b % 2)
    × (new2 (v % 2) s ≡ t.c % 2)
unfolding output_bit
bits_by_lem v s a b c ra rb rc =
    let low1 = triple_low (a 68) (a 80) (b 85) (c 85) in
    let low2 = pair_low (b 64) (b 88) in
    let low3 = pair_low (c 68) (c 88) in (
      (λ i.
          (ra 68 here i + ra 80 here i + rb 85 here i * rc 85 here i + (rb 64 here i + rb 88 here i)
          + (rc 68 here i + rc 88 here i))
          % 2)
          ∙ sym (sum_low _ _ _ _ _ _ low1 low2 low3),
      (λ i. (rc 68 here i + rc 88 here i + rc 77 here i * rc 87 here i + ra 74 here i + v % 2) % 2)
          ∙ sym (new_low _ _ _ _ _ v low3),
      (λ i.
          (ra 68 here i + ra 80 here i + rb 85 here i * rc 85 here i + ra 73 here i * ra 79 here i + rb 66 here i
          + v % 2)
          % 2)
          ∙ sym (new_low _ _ _ _ _ v low1),
      (λ i. (rb 64 here i + rb 88 here i + rb 65 here i * rb 87 here i + rc 84 here i + v % 2) % 2)
          ∙ sym (new_low _ _ _ _ _ v low2),
    )

pub mixed_down : (k v : ℕ) (a b c : ℕ → ℕ)
    → mixed (v / 2 ^ k) (λ j. a j / 2 ^ k) (λ j. b j / 2 ^ k) (λ j. c j / 2 ^ k) ≡ down k (mixed v a b c)
mixed_down k v a b c = simp (xor_shr, and_shr)

pub mixed_small : (v : ℕ) (a b c : ℕ → ℕ) → v < 2 ^ 64 → ((j : ℕ) → a j < 2 ^ 64) → ((j : ℕ) → b j < 2 ^ 64)
    → ((j : ℕ) → c j < 2 ^ 64) → Small 64 (mixed v a b c)
mixed_small v a b c hv ha hb hc =
    let one = xor_lt 64 _ _ (xor_lt 64 _ _ (ha 68) (ha 80)) (and_lt 64 _ _ (hb 85) (hc 85)) in
    let two = xor_lt 64 _ _ (hb 64) (hb 88) in
    let three = xor_lt 64 _ _ (hc 68) (hc 88) in
    let in_word : (t p q r : ℕ) → t < 2 ^ 64 → p < 2 ^ 64 → q < 2 ^ 64 → r < 2 ^ 64 → new t p q r v < 2 ^ 64 =
    λ t p q r ht hp hq hr. xor_lt 64 _ v (xor_lt 64 _ r (xor_lt 64 t _ ht (and_lt 64 p q hp hq)) hr) hv in (
      xor_lt 64 _ _ (xor_lt 64 _ _ one two) three,
      in_word _ _ _ _ three (hc 77) (hc 87) (ha 74),
      in_word _ _ _ _ one (ha 73) (ha 79) (hb 66),
      in_word _ _ _ _ two (hb 65) (hb 87) (hc 84),
    )

-- all four words turned
abbrev pub around : Newest → Newest
around t = record { z = turned t.z; a = turned t.a; b = turned t.b; c = turned t.c }

-- they may be turned before or after
pub mixed_turned : (v : ℕ) (a b c : ℕ → ℕ)
    → mixed (turned v) (λ j. turned (a j)) (λ j. turned (b j)) (λ j. turned (c j)) ≡ around (mixed v a b c)
mixed_turned v a b c = simp (turned_xor, turned_and)
