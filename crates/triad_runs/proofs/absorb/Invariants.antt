use Rattle.std.proofs.Common.{◌≡◌, ◌*◌}
use Rattle.octets.specs.Buffers.{slice}
use Rattle.triad.specs.{Record.state, Tag.absorbed}
use Rattle.triad_runs.proofs.absorb.Given as goal

-- the words before the turn's are in
abbrev pub invariant-loop-word : goal.invariant-loop-word
invariant-loop-word l = state l.moved ≡ absorbed (slice l.bytes 0 (8 * l.word-index)) (state l.initial.moved)
