-- What is there stands in front of zeros.
use Rattle.triad.proofs.Little.{front_number}
use Rattle.triad.proofs.word_in.Goals as goal

pub returns : goal.returns
returns c =
    front_number c.args.bytes.now c.min-n.result c.min-n.ensures c.copy_from_slice.ensures.after c.from_le_bytes.ensures
