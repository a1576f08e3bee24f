-- `six_words_in`: the length decides, and then it goes word by word, where eight bytes fill no more than a word.
use Rattle.std.proofs.Common.{◌≡◌, ◌∙◌, ℕ, [], arith}
use Rattle.octets.specs.{Digits.number_at, Digits.word, Rows.numbers_at}
use Rattle.octets.proofs.Numbers.{number_read}
use Rattle.refusals.proofs.Settled.{left_at}
use Rattle.record_bytes.specs.SixWords.{six_widths, six_of, six_in}
use Rattle.record_bytes.proofs.Sixes.{six_read}
use Rattle.record_bytes.proofs.six_words_in.Goals as goal

pub returns-then-bytes-lt-SIX_WORDS_BYTES : goal.returns-then-bytes-lt-SIX_WORDS_BYTES
unfolding six_in
returns-then-bytes-lt-SIX_WORDS_BYTES c =
    let zero = c.default.ensures in
    ◌∙◌ {b = six_of []} (λ i. record {
      a1 = zero.0 i;
      a0 = zero.1.0 i;
      b1 = zero.1.1.0 i;
      b0 = zero.1.1.1.0 i;
      c1 = zero.1.1.1.1.0 i;
      c0 = zero.1.1.1.1.1 i;
    })
    (left_at _ _ _ 0 tt (omega arith))

pub returns : goal.returns
unfolding numbers_at
returns c =
    let bytes = c.args.bytes.now in
    let read : (at : ℕ) → word (number_at bytes at 8) ≡ number_at bytes at 8 =
    λ at. number_read bytes at 8 (λ i. omega (arith, c.type_inv.bytes i)) (omega arith) in
    ◌∙◌ {b = six_of (numbers_at six_widths bytes 0)} (λ i. record {
      a1 = (c.number_at.ensures ∙ read 0) i;
      a0 = (c.number_at-2.ensures ∙ read 8) i;
      b1 = (c.number_at-3.ensures ∙ read 16) i;
      b0 = (c.number_at-4.ensures ∙ read 24) i;
      c1 = (c.number_at-5.ensures ∙ read 32) i;
      c0 = (c.number_at-6.ensures ∙ read 40) i;
    })
    (six_read bytes (omega arith))
