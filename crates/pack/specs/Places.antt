-- Where things stand in a file. Each section is read by where it begins, and ends where the next one begins.
use Rattle.std.specs.Prelude.{ℕ, ◌+◌, ◌*◌, ◌%◌, ◌^◌, List, ◌++◌, get_or}
use Rattle.octets.specs.{Buffers.slice, Digits.number_at, Rows.numbers_at, Stream.Cipher, Stream.enciphered}
use Rattle.samples.specs.Words.{words_of}
use Rattle.pack.specs.Layout.{Parts, fours, key_named, tag_count}

-- the byte at a place, or 0 past the end
abbrev pub byte_at : List ℕ → ℕ → ℕ
byte_at file at = get_or file at 0

-- ---- a section that begins at `at`: its count, and where it ends

abbrev pub name_end : List ℕ → ℕ → ℕ
name_end file at = at + 1 + byte_at file at

abbrev pub key_end : Cipher → ℕ → ℕ
key_end cipher at = at + 2 + cipher.value_bytes

abbrev pub samples_in : List ℕ → ℕ → ℕ
samples_in file at = number_at file at 4

abbrev pub samples_end : List ℕ → ℕ → ℕ
samples_end file at = at + 4 + 2 * samples_in file at

abbrev pub loops_end : List ℕ → ℕ → ℕ
loops_end file at = at + 1 + 8 * byte_at file at

-- the tag section's count, its tag, and where it ends; all of it is nothing under a cipher without a tag
abbrev pub tag_count_in : Cipher → List ℕ → ℕ → ℕ
tag_count_in cipher file at = number_at file at (tag_count cipher)

abbrev pub tag_in : Cipher → List ℕ → ℕ → ℕ
tag_in cipher file at = number_at file (at + tag_count cipher) cipher.tag_bytes

abbrev pub tag_end : Cipher → ℕ → ℕ
tag_end cipher at = at + tag_count cipher + cipher.tag_bytes

-- from a file's key section on: the plain bytes of its samples, under the key and the value that it names
abbrev pub plain_from : Cipher → List (List ℕ) → List ℕ → ℕ → List ℕ
plain_from cipher ring file at =
    let value = slice file (at + 2) cipher.value_bytes in
    let key = key_named ring (byte_at file (at + 1)) in
    let samples = key_end cipher at in
    enciphered (cipher.stream key value) (slice file (samples + 4) (2 * samples_in file samples))

-- and what it gives for each part, whether or not it is accepted: the samples are read from the plain bytes
abbrev pub parts_from : Cipher → List (List ℕ) → List ℕ → List ℕ → ℕ → Parts
parts_from cipher ring name file at =
    let loops = samples_end file (key_end cipher at) in
    record {
      name = name;
      key_number = byte_at file (at + 1);
      value = slice file (at + 2) cipher.value_bytes;
      samples = words_of (plain_from cipher ring file at);
      loops = numbers_at (fours (2 * byte_at file loops)) file (loops + 1);
    }

-- ---- a whole file, which begins with its name section

abbrev pub name_count : List ℕ → ℕ
name_count file = byte_at file 0

abbrev pub key_place : List ℕ → ℕ
key_place file = name_end file 0

abbrev pub key_number : List ℕ → ℕ
key_number file = byte_at file (key_place file + 1)

abbrev pub value_place : List ℕ → ℕ
value_place file = key_place file + 2

module _ (cipher : Cipher) where
  abbrev pub sample_place : List ℕ → ℕ
  sample_place file = key_end cipher (key_place file)

  abbrev pub sample_count : List ℕ → ℕ
  sample_count file = samples_in file (sample_place file)

  -- where the enciphered samples begin
  abbrev pub body_place : List ℕ → ℕ
  body_place file = sample_place file + 4

  abbrev pub loop_place : List ℕ → ℕ
  loop_place file = samples_end file (sample_place file)

  abbrev pub loop_count : List ℕ → ℕ
  loop_count file = byte_at file (loop_place file)

  -- where the first loop begins
  abbrev pub loops_place : List ℕ → ℕ
  loops_place file = loop_place file + 1

  unfoldable pub plain_of : List (List ℕ) → List ℕ → List ℕ
  plain_of ring file = plain_from cipher ring file (key_place file)

  unfoldable pub parts_of : List (List ℕ) → List ℕ → Parts
  parts_of ring file = parts_from cipher ring (slice file 1 (name_count file)) file (key_place file)

  -- where the tag section begins
  abbrev pub tag_place : List ℕ → ℕ
  tag_place file = loops_end file (loop_place file)

  -- what the tag is over besides the plain bytes: all in front of the enciphered samples, and the loop section
  abbrev pub associated_in : List ℕ → List ℕ
  associated_in file = slice file 0 (body_place file) ++ slice file (loop_place file) (1 + 8 * loop_count file)

  -- the tag that is due to a file, as much of it as a tag has
  unfoldable pub tag_due : List (List ℕ) → List ℕ → ℕ
  tag_due ring file =
      cipher.tag (key_named ring (key_number file)) (slice file (value_place file) cipher.value_bytes)
      (associated_in file) (plain_of ring file)
      % 256 ^ cipher.tag_bytes
