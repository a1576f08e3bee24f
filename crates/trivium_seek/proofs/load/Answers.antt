-- The words that the code reads are those of the loaded registers. Which number stands in which word is given apart.
use Rattle.std.proofs.Common.{◌≡◌, ℕ, ◌*◌, ◌^◌, ◌∙◌, arith}
use Rattle.taps.specs.Words.{of_words}
use Rattle.taps.proofs.Loading.{loaded_words}
use Rattle.trivium.specs.{Record.state}
use Rattle.trivium_seek.proofs.load.Goals as goal

words : (a1 a0 b1 b0 : ℕ) {p1 p0 q1 q0 : ℕ} → p1 ≡ a1 → p0 ≡ a0 → q1 ≡ b1 → q0 ≡ b0
    → state (record { words = record { a1 = p1; a0 = p0; b1 = q1; b0 = q0; c1 = 7 * 2 ^ 44; c0 = 0 } })
    ≡ of_words (record { a1 = a1; a0 = a0; b1 = b1; b0 = b0; c1 = 7 * 2 ^ 44; c0 = 0 })
unfolding state
words a1 a0 b1 b0 a b c d =
    λ i. of_words (record { a1 = a i; a0 = b i; b1 = c i; b0 = d i; c1 = 7 * 2 ^ 44; c0 = 0 })

pub returns : goal.returns
returns c =
    words c.number_at.result c.number_at-2.result c.number_at-3.result c.number_at-4.result (omega arith) (omega arith)
    (omega arith) (omega arith)
    ∙ (λ i.
    of_words
    (record {
      a1 = c.number_at.ensures i;
      a0 = c.number_at-2.ensures i;
      b1 = c.number_at-3.ensures i;
      b0 = c.number_at-4.ensures i;
      c1 = 7 * 2 ^ 44;
      c0 = 0;
    }))
    ∙ loaded_words c.args.key.now c.args.iv.now c.requires.0 c.requires.1 (λ i. omega (arith, c.type_inv.key i))
    (λ i. omega (arith, c.type_inv.iv i))
