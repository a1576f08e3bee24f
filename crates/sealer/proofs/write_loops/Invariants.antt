-- After i turns the first i numbers stand behind the count.
use Rattle.std.proofs.Common.{◌≡◌, ◌+◌, length}
use Rattle.octets.specs.Buffers.{put}
use Rattle.octets.specs.Rows.{row}
use Rattle.pack.specs.Layout.{fours}
use Rattle.sealer.proofs.write_loops.Given as goal

abbrev pub invariant-loop-i : goal.invariant-loop-i
invariant-loop-i l =
    (length l.output ≡ length l.initial.output)
    × (l.output ≡ put l.initial.output (l.at + 1) (row (fours l.i) l.loops))
