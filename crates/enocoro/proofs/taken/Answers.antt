-- The words that it reads are those of the window's part.
use Rattle.std.proofs.Common.{arith}
use Rattle.enocoro.proofs.Windows.{taken_out}
use Rattle.enocoro.proofs.taken.Goals as goal

pub returns : goal.returns
returns c =
    taken_out c.args.w.now c.args.at c.args.a.a0 c.args.a.a1 (omega arith) (λ i. omega (arith, c.type_inv.w i))
    c.word_there.ensures c.word_there-2.ensures c.word_there-3.ensures c.word_there-4.ensures
