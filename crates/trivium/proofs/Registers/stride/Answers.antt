use Rattle.trivium.specs.Record.{state}
use Rattle.trivium.proofs.Registers.stride.Goals as goal

pub moved-requires : goal.moved-requires
unfolding state
moved-requires c = c.stride.ensures
