-- `stereo::frame_of` meets its contract: the first sample's level is left, the second's right.
use Rattle.std.proofs.Common.{ap, ◌∙◌}
use Rattle.std.proofs.lemmas.Int.{to_z-of_z}
use Rattle.std.specs.Int.{w16}
use Rattle.stereo.specs.{Levels.level_of, Frames.frame_of}
use Rattle.stereo.proofs.frame_of.Goals as goal

pub returns : goal.returns
unfolding frame_of
returns c =
    let left = c.level.ensures ∙ ap level_of (to_z-of_z w16 c.args.first c.ranges.first) in
    let right = c.level-2.ensures ∙ ap level_of (to_z-of_z w16 c.args.second c.ranges.second) in
    λ i. record { left = left i; right = right i }
