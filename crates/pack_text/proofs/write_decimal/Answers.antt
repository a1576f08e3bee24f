use Rattle.std.proofs.Common.{◌≡◌, ℕ, ◌+◌, List, length, get_or, set, sym, ap, ap₂, ◌∙◌, arith}
use Rattle.octets.specs.Buffers.{put}
use Rattle.octets.proofs.Buffers.{paste_more, paste_all}
use Rattle.refusals.specs.Outcome.{outcome}
use Rattle.pack_text.proofs.Decimals.{spelt, length_spelt, letter_at, spelt_decimal}
use Rattle.pack_text.proofs.write_decimal.Goals as goal

pub loop-i-preserved : goal.loop-i-preserved
loop-i-preserved c =
    let a = c.args in
    let n : ℕ = c.width-n.result in
    let i = c.loop-i.i in
    let run : List ℕ = spelt n a.value in
    let long : length run ≡ n = length_spelt n a.value in
    let letter : 48 + c.digit_above.result ≡ get_or run i 48 =
    ap (λ (d : ℕ). 48 + d) c.digit_above.ensures ∙ sym (letter_at n a.value i (omega arith)) in
    ap₂ (λ (d : List ℕ) (y : ℕ). set d (a.at + i) y) c.loop-i.invariant letter
    ∙ paste_more a.d.now a.at run i 48 (omega arith) (omega arith)

pub returns : goal.returns
returns c =
    let a = c.args in
    let w = c.width-n in
    let run : List ℕ = spelt w.result a.value in
    let long : length run ≡ w.result = length_spelt w.result a.value in
    ap₂ (λ (n : ℕ) (d : List ℕ). outcome (a.at + n) d) (sym long)
    (c.loop-i.invariant ∙ paste_all a.d.now a.at run c.loop-i.i (omega arith) (omega arith))
    ∙ ap (λ (t : List ℕ). outcome (a.at + length t) (put a.d.now a.at t)) (spelt_decimal w.result a.value w.ensures.1)
