-- Opening a pack as frames of floats: what the call owes, for every input.
use Rattle.std.specs.Prelude.{ℕ, List, ◌∷◌, ◌++◌}
use lib.{Ieee.Float, ListN.length}
use Rattle.octets.specs.{Buffers.placed, Stream.Cipher}
use Rattle.refusals.specs.{Numbers.accepted, Outcome.Outcome, Outcome.outcome}
use Rattle.refusals.specs.Rules.{◌unlike◌, Fault, ◌says◌, settled}
use Rattle.stereo.specs.Frames.{floats_of}
use Rattle.stereo_bodies.specs.Reading.{frames_faults}
use Rattle.pack.specs.{Calls.refused_opening, Calls.accepted_opening, Calls.lacks_of, Faults.keyed_faults}
use Rattle.pack.specs.{Ciphers.cipher_in, Ciphers.ring_in, Places.sample_count, Places.parts_of}
use Rattle.pack.specs.{Answers.Opened, declared.Rings.Rings}

-- behind the number that was found of a file by one who has keys
abbrev pub after_keyed : ℕ → ℕ → ℕ → List Fault
after_keyed keyed samples room = (keyed unlike accepted says keyed) ∷ frames_faults samples room

-- and behind all that a pack can have wrong
unfoldable pub stereo_faults : Cipher → List (List ℕ) → List ℕ → ℕ → List Fault
stereo_faults cipher ring file room = keyed_faults cipher ring file ++ frames_faults (sample_count cipher file) room

unfoldable pub opening_stereo : Cipher → List (List ℕ) → List ℕ → List Float → Outcome Opened Float
opening_stereo cipher ring file output =
    settled (stereo_faults cipher ring file (length output))
    (outcome (accepted_opening cipher file) (placed output 0 (floats_of (parts_of cipher ring file).samples)))
    (λ number. outcome (refused_opening (lacks_of cipher file) number) output)

-- for callers, by the cipher that the file's key count picks
abbrev pub opening_stereo_file : Rings → List ℕ → List Float → Outcome Opened Float
opening_stereo_file r file output = opening_stereo (cipher_in file) (ring_in r file) file output
