-- `whole_input::read_full` meets its contract: what came so far is in the buffer.
use Rattle.std.proofs.Common.{◌≤◌, length}
use Rattle.whole_input.proofs.read_full.Given as goal

abbrev pub invariant-loop : goal.invariant-loop
invariant-loop g l = l.got ≤ length l.buffer
