use Rattle.std.proofs.Common.{◌≡◌, ℕ, ◌+◌, ◌*◌, List, length, get_or, set, sym, ap, ap₂, ◌∙◌, arith}
use Rattle.octets.specs.{Digits.number_at, Rows.numbers_at}
use Rattle.octets.proofs.{Buffers.paste_front, Buffers.paste_all, Numbers.number_lent, Rows.many_read, Rows.number_in}
use Rattle.pack.specs.Layout.{fours}
use Rattle.survey_bytes.proofs.read_numbers.Goals as goal

pub loop-i-preserved : goal.loop-i-preserved
loop-i-preserved c =
    let a = c.args in
    let i = c.loop-i.i in
    let run : List ℕ = numbers_at (fours a.n) a.bytes.now a.at in
    let long : length run ≡ a.n = many_read 4 a.n a.bytes.now a.at in
    let place : a.at + 4 * i ≡ a.at + i * 4 = omega arith in
    let got : c.four_at.result ≡ get_or run i 0 =
    c.four_at.ensures ∙ number_lent a.bytes.now (a.at + 4 * i) 4
    ∙ ap (λ (k : ℕ). number_at a.bytes.now k 4) place
    ∙ sym (number_in 4 a.n a.bytes.now a.at i (omega arith)) in
    ap₂ (λ (d : List ℕ) (y : ℕ). set d i y) c.loop-i.invariant got
    ∙ paste_front a.numbers.now run i 0 (omega arith) (omega arith)

pub returns : goal.returns
returns c =
    let a = c.args in
    let run : List ℕ = numbers_at (fours a.n) a.bytes.now a.at in
    let long : length run ≡ a.n = many_read 4 a.n a.bytes.now a.at in
    c.loop-i.invariant ∙ paste_all a.numbers.now 0 run c.loop-i.i (omega arith) (omega arith)
