-- What opening as frames does, by what opening as samples does with as much room.
use Rattle.std.specs.Prelude.{ℕ, ◌%◌}
use mathlib.Core.{List.List, List.map, Logic.◌≢◌, Path.◌≡◌}
use lib.{IntN.ℤ, Ieee.Float, ListN.length, ListN.take}
use Rattle.octets.specs.{Buffers.placed, Stream.Cipher}
use Rattle.refusals.specs.{Numbers.accepted, Numbers.no_room, Numbers.odd_samples, Outcome.outcome}
use Rattle.stereo.specs.{Levels.sample_at, Frames.floats_of}
use Rattle.pack.specs.Calls.{refused_opening, opening_pack}
use Rattle.stereo_opener.specs.Calls.{opening_stereo}

-- `pick` and `ring` are the cipher and the ring that each file is opened under
pub record Framed (pick : List ℕ → Cipher) (ring : List ℕ → List (List ℕ)) : Type 0 where
  -- it writes the frames of the samples that opening gives, and answers the same
  pub frames : (file : List ℕ) (sound : List ℤ) (output : List Float) → length sound ≡ length output
      → let o = opening_pack (pick file) (ring file) file sound in
      o.answer.refusal ≡ accepted → o.answer.samples % 2 ≡ 0
      → opening_stereo (pick file) (ring file) file output
      ≡ outcome o.answer (placed output 0 (floats_of (take o.answer.samples o.buffer)))
  -- and from these the samples can be had back
  pub back : (file : List ℕ) (sound : List ℤ) (output : List Float) → length sound ≡ length output
      → let o = opening_pack (pick file) (ring file) file sound in
      let s = opening_stereo (pick file) (ring file) file output in
      s.answer.refusal ≡ accepted
      → map sample_at (take s.answer.samples s.buffer) ≡ take o.answer.samples o.buffer
  -- a sound of an odd number of samples opens, and has no frames
  pub odd : (file : List ℕ) (sound : List ℤ) (output : List Float) → length sound ≡ length output
      → let o = opening_pack (pick file) (ring file) file sound in
      o.answer.refusal ≡ accepted → o.answer.samples % 2 ≢ 0
      → opening_stereo (pick file) (ring file) file output ≡ outcome (refused_opening 0 odd_samples) output
  -- what opening refuses is refused alike, but that 35 comes before 19
  pub refused : (file : List ℕ) (sound : List ℤ) (output : List Float) → length sound ≡ length output
      → let o = opening_pack (pick file) (ring file) file sound in
      o.answer.refusal ≢ accepted → o.answer.refusal ≢ no_room
      → opening_stereo (pick file) (ring file) file output ≡ outcome o.answer output
