-- The tests are the rules, one after the other, and then the tag's rules decide.
use Rattle.std.proofs.Common.{refl, sym, ◌∙◌, arith}
use Rattle.refusals.proofs.Faults.{verdict_from}
use Rattle.pack.specs.Ciphers.{cipher_of}
use Rattle.end_faults.proofs.Exits.{cut_at, no_at}
use Rattle.end_faults.proofs.loop_fault.Goals as goal

pub returns-in_err-reach : goal.returns-in_err-reach
returns-in_err-reach c =
    let cut = c.in_err-reach.ensures in
    cut_at 0 _ c.from_residual.result c.from_residual.ensures.1 cut.0 (omega (arith, cut)) refl (omega (arith, cut))

pub returns-then-count-gt-MOST_LOOPS : goal.returns-then-count-gt-MOST_LOOPS
returns-then-count-gt-MOST_LOOPS c = no_at 1 _ c.into.ensures (omega arith) refl refl

pub returns-in_err-reach-2 : goal.returns-in_err-reach-2
returns-in_err-reach-2 c =
    let cut = c.in_err-reach-2.ensures in
    cut_at 2 _ c.from_residual-in_err-reach-2.result c.from_residual-in_err-reach-2.ensures.1 cut.0
    (omega (arith, cut)) refl (omega (arith, cut))

pub returns-then-not-loops_good : goal.returns-then-not-loops_good
returns-then-not-loops_good c =
    no_at 3 _ c.into-then-not-loops_good.ensures
    (omega arith, (omega arith, (omega arith, sym c.loops_good.ensures ∙ c.if-not-loops_good.true))) refl refl

pub returns : goal.returns
returns c =
    c.tag_fault.ensures (cipher_of c.args.kind) (sym c.tag_length.ensures)
    ∙ verdict_from 4 _ (omega arith, (omega arith, (omega arith, (sym c.loops_good.ensures ∙ c.if-not-loops_good.false, tt))))
