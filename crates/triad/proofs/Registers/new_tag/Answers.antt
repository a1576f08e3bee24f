-- The first update takes the bit 1.
use Rattle.triad.specs.Calls.{making_tag}
use Rattle.triad.proofs.Registers.new_tag.Goals as goal

pub returns : goal.returns
unfolding making_tag
returns c = c.made.ensures
