-- The first update takes the bit 0.
use Rattle.triad.specs.Calls.{making_cipher}
use Rattle.triad.proofs.Registers.new.Goals as goal

pub returns : goal.returns
unfolding making_cipher
returns c = c.made.ensures
