-- Frames of a left and a right float: even samples are left, odd ones right, and a run of floats has left first.
use Rattle.std.specs.Prelude.{List, [], ◌∷◌}
use lib.{IntN.ℤ, Ieee.Float}
use Rattle.stereo.specs.{Levels.level_of, declared.Stereo.Stereo}

unfoldable pub frame_of : ℤ → ℤ → Stereo
frame_of first second = record { left = level_of first; right = level_of second }

-- a last sample without its fellow is no frame
unfoldable pub frames_of : List ℤ → List Stereo
frames_of [] = []
frames_of (last ∷ []) = []
frames_of (first ∷ second ∷ samples) = frame_of first second ∷ frames_of samples

unfoldable pub left_first : List Stereo → List Float
left_first [] = []
left_first (frame ∷ frames) = frame.left ∷ frame.right ∷ left_first frames

abbrev pub floats_of : List ℤ → List Float
floats_of samples = left_first (frames_of samples)
