-- What was refused stays so, and a loaded cipher is warmed up.
use Rattle.std.proofs.Common.{arith}
use Rattle.std.proofs.lemmas.Result.{err_from_is_err_and}
use Rattle.enocoro.proofs.Making.{making_left, making_done}
use Rattle.enocoro.proofs.Registers.new.Goals as goal

pub returns-in_err-loaded : goal.returns-in_err-loaded
returns-in_err-loaded c =
    let p = err_from_is_err_and c.from_residual.result c.from_residual.ensures.1 in
    rw (p.1, p.2) (making_left c.args.key.now c.args.iv.now _ c.in_err-loaded.ensures)

pub returns : goal.returns
returns c =
    making_done c.args.key.now c.args.iv.now (λ i. omega (arith, c.type_inv.key i)) (λ i. omega (arith, c.type_inv.iv i))
    c.in_ok-loaded.ensures c.warmed_up.ensures
