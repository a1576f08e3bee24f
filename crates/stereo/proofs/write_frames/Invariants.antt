-- after i turns the first i frames stand in their place
use Rattle.std.proofs.Common.{◌≡◌, ◌*◌}
use lib.Seq.{paste}
use Rattle.stereo.specs.Frames.{floats_of}
use Rattle.stereo.proofs.write_frames.Given as goal

abbrev pub invariant-loop-i : goal.invariant-loop-i
invariant-loop-i l = l.output ≡ paste l.fn.output 0 (floats_of l.samples) (2 * l.i)
