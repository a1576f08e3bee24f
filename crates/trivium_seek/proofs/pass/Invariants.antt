-- The registers stand as far on as there were turns.
use Rattle.std.proofs.Common.{◌≡◌, ◌*◌}
use Rattle.trivium.specs.{Record.state, Registers.steps}
use Rattle.trivium_seek.proofs.pass.Given as goal

abbrev pub invariant-loop : goal.invariant-loop
invariant-loop l = state l.running.registers ≡ steps (8 * (8 * l.counter)) (state l.fn.registers)
