-- A word of keystream with its lowest byte first is the tag; that it is turned so is left to `cc`, which names no call.
use native.Mathlib.Omega.{arith}
use Rattle.triad.specs.{Calls.tagging, Record.state}
use Rattle.triad.proofs.{Bytes.tag_word, Steps.ran_word}
use Rattle.triad.proofs.Registers.tag.Goals as goal

pub returns : goal.returns
unfolding tagging
returns c =
    tag_word (state c.args.self) c.permuted.ensures (omega arith) (ran_word _ _ c.run-last.ensures) (omega arith) (cc)
