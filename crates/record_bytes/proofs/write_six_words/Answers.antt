-- `write_six_words`: with room the words make the row.
use Rattle.std.proofs.Common.{◌∙◌, ℕ, List, ap, arith}
use Rattle.octets.specs.{Buffers.put, Digits.digits}
use Rattle.octets.proofs.Rows.{row_written}
use Rattle.record_bytes.specs.SixWords.{six_widths, six_numbers, six_bytes}
use Rattle.record_bytes.proofs.write_six_words.Goals as goal

-- a word more
abbrev then : ℕ → ℕ → List ℕ → List ℕ
then at x d = put d at (digits 256 8 x)

pub returns : goal.returns
unfolding six_bytes
returns c =
    let w = c.args.words in
    c.write_word-6.ensures
    ∙ ap (then 40 w.c0) (c.write_word-5.ensures
    ∙ ap (then 32 w.c1) (c.write_word-4.ensures
    ∙ ap (then 24 w.b0) (c.write_word-3.ensures
    ∙ ap (then 16 w.b1) (c.write_word-2.ensures
    ∙ ap (then 8 w.a0) c.write_word.ensures))))
    ∙ row_written c.args.d.now six_widths (six_numbers w) 0 (omega arith)
