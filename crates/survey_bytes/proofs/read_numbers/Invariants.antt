use Rattle.std.proofs.Common.{◌≡◌}
use lib.Seq.{paste}
use Rattle.octets.specs.Rows.{numbers_at}
use Rattle.pack.specs.Layout.{fours}
use Rattle.survey_bytes.proofs.read_numbers.Given as goal

-- after i turns the first i numbers stand in their place
abbrev pub invariant-loop-i : goal.invariant-loop-i
invariant-loop-i l = l.numbers ≡ paste l.fn.numbers 0 (numbers_at (fours l.n) l.bytes l.at) l.i
