-- At each turn as many bytes are passed over as there have been stretches of 256.
use Rattle.std.proofs.Common.{◌≡◌, ◌*◌, length}
use Rattle.enocoro.specs.Calls.{skipping}
use Rattle.enocoro_runs.proofs.skip.Given as goal

abbrev pub invariant-loop : goal.invariant-loop
invariant-loop l =
    record { long : length l.unread ≡ 256; gone : l.moved ≡ skipping l.fn.registers (256 * l.counter) }
