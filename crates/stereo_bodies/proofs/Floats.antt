-- Four plain bytes are two samples and so a frame: the floats of whole frames are what their bytes make by twos. A last
-- byte alone makes nothing.
use mathlib.Core.{Path.◌≡◌, Path.refl, Path.ap, List.List, List.[], List.◌∷◌}
use Prim.Native.Nat.{ℕ, ◌/◌, ◌%◌}
use native.Mathlib.Omega.{arith}
use lib.{Ieee.Float, ListN.length}
use Rattle.samples.specs.Words.{by_twos, words_of}
use Rattle.stereo.specs.Frames.{frame_of, frames_of, left_first, floats_of}
use Rattle.stereo_bodies.specs.Reading.{level_from}

pub floats_twos : (bytes : List ℕ) → length bytes / 2 % 2 ≡ 0 → floats_of (words_of bytes) ≡ by_twos level_from bytes
unfolding by_twos frame_of frames_of left_first
floats_twos [] e = refl
floats_twos (a ∷ []) e = refl
floats_twos (a ∷ b ∷ []) e = absurd (omega arith)
floats_twos (a ∷ b ∷ c ∷ []) e = absurd (omega arith)
floats_twos (a ∷ b ∷ c ∷ d ∷ bytes) e =
    ap (λ (floats : List Float). level_from a b ∷ level_from c d ∷ floats) (floats_twos bytes (omega arith))
