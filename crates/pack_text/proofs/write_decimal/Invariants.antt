use Rattle.std.proofs.Common.{◌≡◌}
use lib.Seq.{paste}
use Rattle.pack_text.proofs.Decimals.{spelt}
use Rattle.pack_text.proofs.write_decimal.Given as goal

-- after i turns the first i letters stand in their place
abbrev pub invariant-loop-i : goal.invariant-loop-i
invariant-loop-i l = l.d ≡ paste l.fn.d l.at (spelt l.n l.value) l.i
