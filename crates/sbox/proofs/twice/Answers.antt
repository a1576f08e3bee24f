-- So it is for each of the 256 bytes.
use Rattle.std.proofs.Common.{arith}
use Rattle.sbox.proofs.Tables.{shifted_right}
use Rattle.sbox.proofs.twice.Goals as goal

pub returns : goal.returns
returns c = shifted_right _ c.args.x (omega arith) (omega arith)
