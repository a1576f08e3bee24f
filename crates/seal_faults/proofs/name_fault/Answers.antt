-- Its two tests are the two rules.
use Rattle.std.proofs.Common.{sym, ◌∙◌, arith}
use Rattle.refusals.proofs.Faults.{all_right, refused_so_lem}
use Rattle.seal_faults.proofs.name_fault.Goals as goal

pub returns-then-name-gt-MOST_NAME : goal.returns-then-name-gt-MOST_NAME
returns-then-name-gt-MOST_NAME c = refused_so_lem 0 _ (omega arith) (omega arith)

pub returns-then-not-name_good : goal.returns-then-not-name_good
returns-then-not-name_good c =
    refused_so_lem 1 _ (omega arith, sym c.name_good.ensures ∙ c.if-not-name_good.true) (omega arith)

pub returns : goal.returns
returns c = all_right _ (omega arith, (sym c.name_good.ensures ∙ c.if-not-name_good.false, tt))
