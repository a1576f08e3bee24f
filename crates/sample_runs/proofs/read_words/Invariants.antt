-- after i turns the first i words, taken as they stand and turned, are in their place
use Rattle.std.proofs.Common.{◌≡◌, ◌/◌, length}
use lib.Seq.{paste}
use Rattle.sample_runs.specs.Unturned.{unturned, turned_front}
use Rattle.sample_runs.proofs.read_words.Given as goal

abbrev pub invariant-loop-i : goal.invariant-loop-i
invariant-loop-i l = l.output ≡ paste l.fn.output 0 (turned_front (length l.bytes / 2) (unturned l.bytes)) l.i
