-- Without room nothing is written; with it the numbers go one behind the other.
use mathlib.Core.{Path.ap, Path.◌∙◌, List.List, List.[], List.◌∷◌}
use Rattle.std.proofs.Common.{ℕ, ◌<◌, length, arith, ◌+◌}
use Rattle.octets.specs.{Buffers.put, Digits.digits}
use Rattle.octets.proofs.{Buffers.put_none, Rows.row_written}
use Rattle.frames.proofs.FramesWritten.{length_short}
use Rattle.frames.proofs.write_short.Goals as goal
use Rattle.frames.proofs.write_short.Goals.{then-frame-lt5-via-then-frame-lt5, then-frame-lt5-via-else-frame-lt5+then-frame-width}

pub returns-then-frame-lt5 : goal.returns-then-frame-lt5
returns-then-frame-lt5 c =
    let p = c.args in
    let long = length_short p.kind p.session p.width p.number in
    let none : length p.frame.now < 5 + p.width =
    elim c.then-frame-lt5.branch [
      | then-frame-lt5-via-then-frame-lt5 w ↦ omega arith
      | then-frame-lt5-via-else-frame-lt5+then-frame-width w ↦ omega arith
    ] in
    put_none p.frame.now 0 _ (omega arith)

pub returns : goal.returns
returns c =
    let p = c.args in
    let long = length_short p.kind p.session p.width p.number in
    c.write_number-3.ensures
    ∙ ap (λ (d : List ℕ). put d 5 (digits 256 p.width p.number))
    (c.write_number-2.ensures
    ∙ ap (λ (d : List ℕ). put d 1 (digits 256 4 p.session))
    c.write_number.ensures)
    ∙ row_written p.frame.now (1 ∷ 4 ∷ p.width ∷ []) (p.kind ∷ p.session ∷ p.number ∷ []) 0 (omega arith)
