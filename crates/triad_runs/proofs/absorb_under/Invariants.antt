use Rattle.std.proofs.Common.{◌≡◌, ◌*◌}
use Rattle.octets.specs.{Buffers.slice, Stream.enciphered}
use Rattle.triad.specs.Calls.{ahead}
use Rattle.triad.specs.{Record.state, State.updates, State.zeros, Tag.absorbed}
use Rattle.triad_runs.proofs.absorb_under.Given as goal

-- the words before the turn's are in as they were before they were enciphered, and the cipher stands behind them
abbrev pub invariant-loop-word : goal.invariant-loop-word
invariant-loop-word l =
    record {
      taken : state l.moved
          ≡ absorbed (enciphered (ahead l.initial.stream) (slice l.bytes 0 (8 * l.word-index))) (state l.initial.moved);
      there : state l.stream ≡ updates (zeros (8 * (8 * l.word-index))) (state l.initial.stream);
    }
