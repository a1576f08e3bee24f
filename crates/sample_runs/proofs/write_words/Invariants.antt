-- after i turns the bytes of the first i samples stand in their place
use Rattle.std.proofs.Common.{◌≡◌, ◌*◌}
use lib.Seq.{paste}
use Rattle.samples.specs.Words.{bytes_of_all}
use Rattle.sample_runs.proofs.write_words.Given as goal

abbrev pub invariant-loop-i : goal.invariant-loop-i
invariant-loop-i l = l.output ≡ paste l.fn.output 0 (bytes_of_all l.sound) (2 * l.i)
