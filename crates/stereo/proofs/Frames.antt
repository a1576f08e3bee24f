-- Frames are made two samples at a time, so the floats of whole frames are those of the samples, in their order.
use mathlib.Core.{Path.◌≡◌, Path.refl, Path.ap, List.List, List.[], List.◌∷◌, List.map}
use Prim.Native.Nat.{ℕ, zero, suc, ◌-◌, ◌%◌, ◌≤◌, ◌<◌}
use native.Mathlib.Omega.{arith}
use lib.{IntN.ℤ, IntN.pos, IntN.nat_abs, Ieee.Float, ListN.length, ListN.get_or}
use Rattle.stereo.specs.Levels.{level_of, sample_at}
use Rattle.stereo.specs.Frames.{frame_of, frames_of, left_first, floats_of}
use Rattle.stereo.proofs.Levels.{back}

pub floats_all : (samples : List ℤ) → length samples % 2 ≡ 0 → floats_of samples ≡ map level_of samples
unfolding frame_of frames_of left_first
floats_all [] e = refl
floats_all (last ∷ []) e = absurd (omega arith)
floats_all (first ∷ second ∷ samples) e =
    ap (λ (floats : List Float). level_of first ∷ level_of second ∷ floats) (floats_all samples (omega arith))

pub length_floats : (samples : List ℤ) → length (floats_of samples) ≡ length samples - length samples % 2
unfolding frames_of left_first
length_floats [] = refl
length_floats (last ∷ []) = refl
length_floats (first ∷ second ∷ samples) = omega (arith, length_floats samples)

pub floats_at : (samples : List ℤ) (i : ℕ) (d : Float) → i < length samples - length samples % 2
    → get_or (floats_of samples) i d ≡ level_of (get_or samples i (pos 0))
unfolding frame_of frames_of left_first
floats_at [] i d h = absurd (omega arith)
floats_at (last ∷ []) i d h = absurd (omega arith)
floats_at (first ∷ second ∷ samples) zero d h = refl
floats_at (first ∷ second ∷ samples) (suc zero) d h = refl
floats_at (first ∷ second ∷ samples) (suc (suc i)) d h = floats_at samples i d (omega arith)

pub samples_back : (samples : List ℤ) → length samples % 2 ≡ 0 → ((i : ℕ) → nat_abs (get_or samples i (pos 0)) ≤ 32768)
    → map sample_at (floats_of samples) ≡ samples
unfolding frame_of frames_of left_first
samples_back [] e b = refl
samples_back (last ∷ []) e b = absurd (omega arith)
samples_back (first ∷ second ∷ samples) e b =
    λ i. back first (b 0) i ∷ back second (b 1) i ∷ samples_back samples (omega arith) (λ k. b (suc (suc k))) i
