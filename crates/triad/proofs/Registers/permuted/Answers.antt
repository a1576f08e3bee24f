-- A stride that takes the bit, and then as many as lead to 1,024.
use native.Mathlib.Omega.{arith}
use Rattle.triad.specs.Record.{state}
use Rattle.triad.proofs.Steps.{idle_none, idle_on, permuted_strides, ran_state}
use Rattle.triad.proofs.Registers.permuted.Goals as goal

pub loop-init : goal.loop-init
loop-init c = idle_none (state c.run.result.next) (omega arith)

pub loop-preserved : goal.loop-preserved
loop-preserved c =
    idle_on c.loop.counter (state c.run.result.next) (state c.loop.registers) c.loop.invariant
    (ran_state c.loop.registers _ c.run-in-loop.ensures) (omega arith)

pub returns : goal.returns
returns c =
    permuted_strides c.args.first (state c.args.self) (state c.run.result.next) (omega arith)
    (ran_state c.args.self c.args.first c.run.ensures) c.loop.invariant (omega arith)
