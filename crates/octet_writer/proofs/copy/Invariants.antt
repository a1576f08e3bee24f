-- after i turns the first i bytes of the run stand in their place
use Rattle.std.proofs.Common.{◌≡◌}
use lib.Seq.{paste}
use Rattle.octet_writer.proofs.copy.Given as goal

abbrev pub invariant-loop-i : goal.invariant-loop-i
invariant-loop-i l = l.d ≡ paste l.fn.d l.at l.run l.i
