-- It is moved on by no stride.
use Rattle.std.proofs.Common.{refl, ◌∙◌}
use Rattle.trivium.proofs.Theorems.{made_at_none}
use Rattle.trivium_seek.proofs.make.Goals as goal

pub returns : goal.returns
returns c = c.make_at.ensures ∙ made_at_none _ _ refl
