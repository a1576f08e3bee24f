-- `samples::swapped` meets its contract: the library's word for the other order.
use Rattle.std.proofs.Common.{◌∙◌}
use Rattle.samples.proofs.Reversed.{turned}
use Rattle.samples.proofs.swapped.Goals as goal

pub returns : goal.returns
returns c = c.swap_bytes.ensures ∙ turned c.args.word
