-- As many bytes as all keys have are those keys, copied.
use Rattle.std.proofs.Common.{arith, rules}
use Rattle.rings.proofs.Keys.{all_rings}
use Rattle.rings.proofs.rings_in.Goals as goal

pub returns : goal.returns
returns c = all_rings c.args.keys.now c.rings_of.ensures (search rules) (omega arith)
