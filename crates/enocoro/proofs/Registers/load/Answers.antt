-- The lengths decide, and a word that is read has its place's bytes.
use Rattle.std.proofs.Common.{arith}
use Rattle.refusals.proofs.Settled.{left_at}
use Rattle.enocoro.specs.Calls.{loading}
use Rattle.enocoro.proofs.Making.{loads}
use Rattle.enocoro.proofs.Registers.load.Goals as goal

pub returns-then-key-ne-KEY_BYTES : goal.returns-then-key-ne-KEY_BYTES
unfolding loading
returns-then-key-ne-KEY_BYTES c = left_at _ _ _ 0 tt (omega arith)

pub returns-then-iv-ne-VALUE_BYTES : goal.returns-then-iv-ne-VALUE_BYTES
unfolding loading
returns-then-iv-ne-VALUE_BYTES c = left_at _ _ _ 1 tt (omega arith, omega arith)

pub returns : goal.returns
returns c =
    loads c.args.key.now c.args.iv.now (omega arith) (omega arith) (λ i. omega (arith, c.type_inv.key i))
    (λ i. omega (arith, c.type_inv.iv i)) c.number_at.ensures c.number_at-2.ensures c.number_at-3.ensures
    (omega arith) (omega arith) (omega arith)
