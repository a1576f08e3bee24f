use Rattle.std.proofs.Common.{◌≡◌, ◌*◌}
use Rattle.triad.specs.Record.{state}
use Rattle.triad.proofs.Steps.{idle}
use Rattle.triad.proofs.Registers.permuted.Given as goal

abbrev pub invariant-loop : goal.invariant-loop
invariant-loop l = state l.registers ≡ idle (64 * l.counter) (state l.initial.registers)
