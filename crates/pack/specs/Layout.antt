-- A pack as bytes of its parts: four sections in a fixed order, each after its count, and a fifth with the tag if its
-- cipher brings one; numbers with the most significant byte first.
use Rattle.std.specs.Prelude.{ℕ, suc, ◌+◌, ◌*◌, ◌/◌, ◌<◌, ◌≤◌, min}
use mathlib.Core.{Bool.Bool, Bool.true, Bool.false, Bool.◌&&◌, List.List, List.[], List.◌∷◌, List.◌++◌, Path.◌≡◌}
use lib.{Dec.leb, Dec.ltb, IntN.ℤ, IntN.nat_abs, ListN.length, ListN.get_or, ListN.replicate}
use Rattle.octets.specs.{Rows.row, Stream.Cipher, Stream.enciphered}
use Rattle.pack.specs.Limits.{most_name, last_key, most_samples, highest_sample, most_loops}
use Rattle.samples.specs.Words.{words_of, bytes_of_all}

pub record Parts : Type 0 where
  pub name : List ℕ
  pub key_number : ℕ
  pub value : List ℕ
  pub samples : List ℤ
  -- starts and ends in turn
  pub loops : List ℕ

-- the parts that a call is lent, in its order
abbrev pub parts : List ℕ → ℕ → List ℕ → List ℤ → List ℕ → Parts
parts name key value samples loops =
    record { name = name; key_number = key; value = value; samples = samples; loops = loops }

-- every byte of a name is 32 to 126
unfoldable pub name_good : List ℕ → Bool
name_good [] = true
name_good (x ∷ xs) = leb 32 x && leb x 126 && name_good xs

-- every sample has an opposite: it is -32767 to 32767
unfoldable pub samples_good : List ℤ → Bool
samples_good [] = true
samples_good (z ∷ zs) = leb (nat_abs z) highest_sample && samples_good zs

-- every loop's start is below its end, and its end at most the sample count
unfoldable pub loops_good : ℕ → List ℕ → Bool
loops_good count [] = true
loops_good count (start ∷ []) = false
loops_good count (start ∷ end ∷ loops) = ltb start end && leb end count && loops_good count loops

-- the limits of each part
pub record Within (cipher : Cipher) (p : Parts) : Type 0 where
  pub name_count : length p.name ≤ most_name
  pub name_bytes : name_good p.name ≡ true
  pub key_number : p.key_number ≤ last_key
  pub value_count : length p.value ≡ cipher.value_bytes
  pub value_bytes : (i : ℕ) → get_or p.value i 0 < 256
  pub sample_count : length p.samples ≤ most_samples
  pub samples : samples_good p.samples ≡ true
  pub loop_count : length p.loops ≤ 2 * most_loops
  pub loops : loops_good (length p.samples) p.loops ≡ true

-- the widths of n numbers of four bytes
abbrev pub fours : ℕ → List ℕ
fours n = replicate n 4

-- the key of the ring that a pack's key number names
abbrev pub key_named : List (List ℕ) → ℕ → List ℕ
key_named ring number = get_or ring number []

abbrev pub name_section : Parts → List ℕ
name_section p = length p.name ∷ p.name

abbrev pub key_section : Cipher → Parts → List ℕ
key_section cipher p = suc cipher.value_bytes ∷ p.key_number ∷ p.value

-- `plain` are the bytes that are enciphered
abbrev pub sample_section : Cipher → List (List ℕ) → Parts → List ℕ → List ℕ
sample_section cipher ring p plain =
    row (fours 1) (length p.samples ∷ [])
    ++ enciphered (cipher.stream (key_named ring p.key_number) p.value) plain

abbrev pub loop_section : Parts → List ℕ
loop_section p = length p.loops / 2 ∷ row (fours (length p.loops)) p.loops

-- The fifth section is a row of two numbers, the tag's length and the tag. Of a cipher without one both have no bytes:
-- the count of a tag has one byte, if there is a tag.
abbrev pub tag_count : Cipher → ℕ
tag_count cipher = min cipher.tag_bytes 1

abbrev pub tag_length : Cipher → ℕ
tag_length cipher = tag_count cipher + cipher.tag_bytes

abbrev pub tag_widths : Cipher → List ℕ
tag_widths cipher = tag_count cipher ∷ cipher.tag_bytes ∷ []

-- what a tag is over besides the plain bytes: sections 1 and 2, the sample count and section 4
unfoldable pub associated : Cipher → Parts → List ℕ
associated cipher p =
    name_section p ++ (key_section cipher p ++ (row (fours 1) (length p.samples ∷ []) ++ loop_section p))

unfoldable pub tag_section : Cipher → List (List ℕ) → Parts → List ℕ → List ℕ
tag_section cipher ring p plain =
    row (tag_widths cipher)
    (cipher.tag_bytes ∷ cipher.tag (key_named ring p.key_number) p.value (associated cipher p) plain ∷ [])

abbrev pub laid : Cipher → List (List ℕ) → Parts → List ℕ → List ℕ
laid cipher ring p plain =
    name_section p
    ++ (key_section cipher p
    ++ (sample_section cipher ring p plain ++ (loop_section p ++ tag_section cipher ring p plain)))

-- A file that is laid out from parts, with the samples read from the plain bytes. These need not be the samples' own:
-- 80 00 is read as the same sample as 80 01.
pub record LaidFrom (cipher : Cipher) (ring : List (List ℕ)) (p : Parts) (plain file : List ℕ) : Type 0 where
  pub size : length plain ≡ 2 * length p.samples
  pub bytes : (i : ℕ) → get_or plain i 0 < 256
  pub read : words_of plain ≡ p.samples
  pub is : file ≡ laid cipher ring p plain

-- a pack as it is sealed: what is enciphered are its samples' bytes
unfoldable pub layout : Cipher → List (List ℕ) → Parts → List ℕ
layout cipher ring p = laid cipher ring p (bytes_of_all p.samples)
