-- A count that names no cipher picks Trivium.
use Rattle.pack.proofs.Picking.{held}
use Rattle.pack.proofs.Kind.picked.Goals as goal

pub returns : goal.returns
returns c = let h = held c.args.count in cc
