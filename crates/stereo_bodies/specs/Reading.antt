-- A body of samples under a keystream, read as frames of floats.
use Rattle.std.specs.Prelude.{ℕ, ◌/◌, ◌%◌, List, [], ◌∷◌}
use lib.{Ieee.Float, ListN.length}
use Rattle.octets.specs.{Buffers.placed, Stream.Keystream, Stream.enciphered}
use Rattle.refusals.specs.Numbers.{odd_samples, no_room}
use Rattle.refusals.specs.Rules.{◌over◌, ◌unlike◌, Fault, ◌says◌, settled}
use Rattle.samples.specs.Words.{word_of, words_of}
use Rattle.stereo.specs.{Levels.level_of, Frames.floats_of}

-- the float that two plain bytes are
abbrev pub level_from : ℕ → ℕ → Float
level_from upper lower = level_of (word_of upper lower)

-- 35, if the last frame would lack its right float, and then 19, for as many floats as samples
abbrev pub frames_faults : ℕ → ℕ → List Fault
frames_faults samples room = (samples % 2 unlike 0 says odd_samples) ∷ (samples over room says no_room) ∷ []

unfoldable pub reading_frames : Keystream → List ℕ → List Float → List Float
reading_frames k body output =
    settled (frames_faults (length body / 2) (length output)) (placed output 0 (floats_of (words_of (enciphered k body))))
    (λ n. output)
