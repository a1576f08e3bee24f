-- What is read fits behind what came before.
use Rattle.std.proofs.Common.{arith}
use Rattle.whole_input.proofs.read_full.Goals as goal

pub loop-preserved : goal.loop-preserved
loop-preserved g c = omega (arith, c.in_ok-n.ensures.bound)

pub slice_bounds-read-count : goal.slice_bounds-read-count
slice_bounds-read-count g c = omega arith
