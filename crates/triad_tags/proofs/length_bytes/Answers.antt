-- Each element is its digit of the number, from the lowest on.
use native.Mathlib.Omega.{arith}
use Rattle.octets.specs.Digits.{digits}
use Rattle.triad_tags.proofs.length_bytes.Goals as goal

pub returns : goal.returns
unfolding digits
returns c = grind arith
