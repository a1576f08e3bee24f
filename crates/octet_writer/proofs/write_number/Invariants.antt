-- after i turns the first i of the number's bytes stand in their place
use Rattle.std.proofs.Common.{◌≡◌}
use lib.Seq.{paste}
use Rattle.octets.specs.Digits.{digits}
use Rattle.octet_writer.proofs.write_number.Given as goal

abbrev pub invariant-loop-i : goal.invariant-loop-i
invariant-loop-i l = l.d ≡ paste l.fn.d l.at (digits 256 l.n l.value) l.i
