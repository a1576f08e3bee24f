-- `receiver_status`: the numbers are those of the record that the bytes are.
use mathlib.Core.Bool.{Bool, true, false, cond, ◌&&◌}
use borrow.Author.Tests.{le-leb, lt-leb}
use mir.Val.{bool_byte}
use Rattle.std.proofs.Common.{◌≡◌, ◌∙◌, ℕ, refl, ap, arith}
use lib.Dec.{eqb}
use Rattle.frames.specs.Frames.{some}
use Rattle.receiver.specs.{Rules.receiver_in_rule, declared.Receiver.Receiver}
use Rattle.link_status.specs.Calls.{receiver_numbers, telling, receiver_status}
use Rattle.link_status.proofs.Telling.{receiver_told}
use Rattle.link_status.proofs.receiver_status.Goals as goal
use Rattle.link_status.proofs.receiver_status.Goals.{then-record-ge1, else-record-ge1}

flag : (b : Bool) → ◌≡◌ {A = ℕ} (bool_byte b) (cond b 1 0)
flag true = refl
flag false = refl

pub returns : goal.returns
unfolding receiver_status
returns c =
    let p = c.args in
    let r : Receiver = c.receiver_in-record.result in
    let blocks-in = c.block_count-all.ensures in
    let whole : c.from.result ≡ cond (some r.session && eqb r.count c.block_count-all.result) 1 0 =
    c.from.ensures
    ∙ elim c.if-record-ge1.branch [
      | then-record-ge1 w ↦ rw (w.from-is, c.from-held.ensures, le-leb 1 r.session (omega arith)) (flag (eqb r.count c.block_count-all.result))
      | else-record-ge1 w ↦ rw (w.from-is, lt-leb 1 r.session (omega arith)) refl
    ] in
    c.tell_status.ensures
    ∙ receiver_told p.answer.now r c.in_rule.ensures (omega arith) (omega arith) (omega arith)
    (omega (arith, blocks-in))
    (whole ∙ ap (λ (all : ℕ). cond (some r.session && eqb r.count all) 1 0) blocks-in)
    ∙ ap (λ (r : Receiver). telling (receiver_in_rule r) (receiver_numbers r) p.answer.now) c.receiver_in-record.ensures
