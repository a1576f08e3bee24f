use Rattle.std.proofs.Common.{◌≡◌, ◌*◌}
use Rattle.octets.specs.{Buffers.slice, Buffers.placed, Stream.enciphered}
use Rattle.triad.specs.Calls.{ahead}
use Rattle.triad.specs.{Record.state, State.updates, State.zeros}
use Rattle.triad.proofs.RegistersStreamCipher.cover.Given as goal

-- the bytes before the place are done, and the registers stand there
abbrev pub invariant-loop-i : goal.invariant-loop-i
invariant-loop-i l =
    record {
      there : state l.moved ≡ updates (zeros (8 * (8 * l.i))) (state l.initial.moved);
      done : l.bytes
          ≡ placed l.initial.bytes 0 (enciphered (ahead l.initial.moved) (slice l.initial.bytes 0 (8 * l.i)));
    }
