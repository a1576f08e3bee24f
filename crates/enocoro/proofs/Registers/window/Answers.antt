-- Four words one behind the other are the bytes b.
use Rattle.std.proofs.Common.{arith}
use Rattle.enocoro.proofs.Windows.{laid}
use Rattle.enocoro.proofs.Registers.window.Goals as goal

pub returns : goal.returns
returns c =
    laid c.args.self _ (omega arith) (omega arith) (omega arith) c.write_word.ensures c.write_word-2.ensures
    c.write_word-3.ensures c.write_word-4.ensures (omega arith) (omega arith) (omega arith) (omega arith)
