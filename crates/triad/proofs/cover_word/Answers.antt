-- An exclusive or of two words goes byte by byte.
use native.Mathlib.Omega.{arith}
use Rattle.triad.proofs.Little.{word_under}
use Rattle.triad.proofs.cover_word.Goals as goal

pub returns : goal.returns
returns c =
    word_under c.args.bytes.now c.args.stream (omega arith) (λ i. grind arith) c.word_in.ensures
    c.to_le_bytes-covered.ensures c.copy_from_slice.ensures.after
