-- What each public call owes: its answer, and what the lent output holds afterwards, for every input. First under one
-- cipher, whatever it is, and then under the one that a file is under, or that sealing is told.
use Rattle.std.specs.Prelude.{ℕ, List}
use lib.{IntN.ℤ, ListN.length}
use Rattle.octets.specs.{Buffers.placed, Stream.Cipher}
use Rattle.refusals.specs.{Numbers.accepted, Outcome.Outcome, Outcome.outcome, Rules.lacking, Rules.settled}
use Rattle.pack.specs.Ciphers.{cipher_of, cipher_in, ring_for, ring_in}
use Rattle.pack.specs.declared.Rings.{Rings}
use Rattle.pack.specs.{Layout.Parts, Layout.layout, declared.Kind.Kind, Answers.Opened}
use Rattle.pack.specs.Answers.{Sealed}
use Rattle.pack.specs.Faults.{file_faults, keyed_faults, open_faults, seal_faults}
use Rattle.pack.specs.Places.{name_count, key_number, value_place, sample_count, loop_count, loops_place, parts_of}

-- the answer to a refused file, with the number of bytes that it lacks
abbrev pub refused_opening : ℕ → ℕ → Opened
refused_opening lacks number =
    record {
      refusal = number;
      lacks = lacks;
      samples = 0;
      key = 0;
      loops = 0;
      name_length = 0;
      name_at = 0;
      value_at = 0;
      loops_at = 0;
    }

-- the answer to an accepted file
abbrev pub accepted_opening : Cipher → List ℕ → Opened
accepted_opening cipher file =
    record {
      refusal = accepted;
      lacks = 0;
      samples = sample_count cipher file;
      key = key_number file;
      loops = loop_count cipher file;
      name_length = name_count file;
      name_at = 1;
      value_at = value_place file;
      loops_at = loops_place cipher file;
    }

-- what is missing of the section in which a file breaks off
abbrev pub lacks_of : Cipher → List ℕ → ℕ
lacks_of cipher file = lacking (file_faults cipher file)

-- what a file says of itself, room or not; without keys nobody can look at its tag
unfoldable pub surveying : Cipher → List ℕ → Opened
surveying cipher file =
    settled (file_faults cipher file) (accepted_opening cipher file) (refused_opening (lacks_of cipher file))

-- the same for one who has keys, who looks at its tag too
unfoldable pub inspecting : Cipher → List (List ℕ) → List ℕ → Opened
inspecting cipher ring file =
    settled (keyed_faults cipher ring file) (accepted_opening cipher file) (refused_opening (lacks_of cipher file))

unfoldable pub opening_pack : Cipher → List (List ℕ) → List ℕ → List ℤ → Outcome Opened ℤ
opening_pack cipher ring file output =
    settled (open_faults cipher ring file (length output))
    (outcome (accepted_opening cipher file) (placed output 0 (parts_of cipher ring file).samples))
    (λ number. outcome (refused_opening (lacks_of cipher file) number) output)

unfoldable pub sealing_pack : Cipher → List (List ℕ) → Parts → List ℕ → Outcome Sealed ℕ
sealing_pack cipher ring p output =
    let file = layout cipher ring p in
    settled (seal_faults cipher p (length file) (length output))
    (outcome (record { refusal = accepted; length = length file }) (placed output 0 file))
    (λ number. outcome (record { refusal = number; length = 0 }) output)

-- ---- for callers, who hold all rings

-- what a file says of itself, by the cipher that its key count picks
abbrev pub surveying_file : List ℕ → Opened
surveying_file file = surveying (cipher_in file) file

abbrev pub inspecting_file : Rings → List ℕ → Opened
inspecting_file r file = inspecting (cipher_in file) (ring_in r file) file

abbrev pub opening_file : Rings → List ℕ → List ℤ → Outcome Opened ℤ
opening_file r file output = opening_pack (cipher_in file) (ring_in r file) file output

abbrev pub sealing_file : Kind → Rings → Parts → List ℕ → Outcome Sealed ℕ
sealing_file kind r p output = sealing_pack (cipher_of kind) (ring_for kind r) p output
