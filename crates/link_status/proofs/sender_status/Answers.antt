-- `sender_status`: the numbers are those of the record that the bytes are.
use Rattle.std.proofs.Common.{◌∙◌, ℕ, List, ap, get_or, arith}
use Rattle.sender.specs.{Rules.sender_in_rule, declared.Sender.Sender}
use Rattle.link_status.specs.Calls.{known_in, sender_numbers, telling, sender_status}
use Rattle.link_status.proofs.Telling.{sender_told}
use Rattle.link_status.proofs.sender_status.Goals as goal

pub returns : goal.returns
unfolding sender_status
returns c =
    let p = c.args in
    let s : Sender = c.sender_in-record.result in
    let blocks-in = c.block_count-all.ensures in
    let number = ap (λ (l : List ℕ). get_or l 0 0) c.phase_numbers-phase.ensures in
    c.tell_status.ensures
    ∙ sender_told p.answer.now s c.in_rule.ensures (omega (arith, number)) (omega arith) (omega arith)
    (c.known.ensures ∙ ap (λ (all : ℕ). known_in all s.phase) blocks-in) (omega (arith, blocks-in))
    ∙ ap (λ (s : Sender). telling (sender_in_rule s) (sender_numbers s) p.answer.now) c.sender_in-record.ensures
