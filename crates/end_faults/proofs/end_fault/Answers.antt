-- The test is the rule.
use Rattle.std.proofs.Common.{refl, arith}
use Rattle.refusals.proofs.Faults.{verdict_right}
use Rattle.end_faults.proofs.Exits.{no_at}
use Rattle.end_faults.proofs.end_fault.Goals as goal

pub returns-then-at-file : goal.returns-then-at-file
returns-then-at-file c = no_at 0 _ c.into.ensures (omega arith) refl refl

pub returns : goal.returns
returns c = verdict_right _ (omega arith, tt)
