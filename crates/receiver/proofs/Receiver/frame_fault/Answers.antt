-- `frame_fault`: an opening's own rules decide.
use Rattle.std.proofs.Common.{◌∙◌, refl}
use Rattle.refusals.proofs.Faults.{rule_passes}
use Rattle.receiver.proofs.Receiver.frame_fault.Goals as goal

pub returns-in-Opening : goal.returns-in-Opening
returns-in-Opening c = λ run e. rw c.in-Opening.is (c.opening_fault.ensures c.args.sound ∙ rule_passes _ _ refl)
