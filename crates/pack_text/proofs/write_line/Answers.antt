-- Three runs, each put where the one before it ended.
use Rattle.std.proofs.Common.{ℕ, ap, arith}
use Rattle.refusals.specs.Outcome.{Outcome}
use Rattle.pack_text.specs.Text.{decimal}
use Rattle.pack_text.proofs.{Decimals.length_decimal, Lines.line_written}
use Rattle.pack_text.proofs.write_line.Goals as goal

pub overflow_add-result : goal.overflow_add-result
overflow_add-result c =
    omega (arith, ap (λ (o : Outcome ℕ ℕ). o.answer) c.write_decimal-line_end.ensures, length_decimal c.args.value)

pub returns : goal.returns
returns c =
    let p = c.args in
    let ended = c.write_decimal-line_end.ensures in
    line_written p.d.now p.at p.word.now (decimal p.value) (omega (arith, length_decimal p.value))
    c.copy.ensures (omega arith)
    (ap (λ (o : Outcome ℕ ℕ). o.buffer) ended)
    (ap (λ (o : Outcome ℕ ℕ). o.answer) ended)
    c.copy-2.ensures
