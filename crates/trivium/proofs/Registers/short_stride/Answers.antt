use Rattle.trivium.specs.Record.{state}
use Rattle.trivium.proofs.Registers.short_stride.Goals as goal

pub moved-requires : goal.moved-requires
unfolding state
moved-requires c = c.short_stride.ensures
