-- What is looked up in the table in print is the substitution.
use Rattle.std.proofs.Common.{arith, refl}
use Rattle.sbox.proofs.Tables.{looked_up}
use Rattle.sbox.proofs.s8.Goals as goal

pub returns : goal.returns
returns c = looked_up _ c.args.x refl (omega arith)
