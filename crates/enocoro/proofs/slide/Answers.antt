-- Each byte that it takes stands at the place that it is taken from, and what it stores goes where a round wants it.
use Rattle.std.proofs.Common.{arith}
use Rattle.enocoro.proofs.Windows.{slid}
use Rattle.enocoro.proofs.slide.Goals as goal

pub returns : goal.returns
returns c =
    slid c.args.w.now c.args.at c.args.a.a0 c.args.a.a1 (omega arith) (omega arith) c.mixed-next.ensures
    (omega arith) (omega arith) (omega arith) (omega arith) (omega arith) (omega arith) (omega arith) (omega arith)
    (omega arith) (omega arith) (omega arith) (omega arith)
