-- An accepted file is laid out from its parts and its plain bytes: each section, read and written again, is the
-- section, and the sections follow one another. Its tag is the one that is due, and what that is over is the same
-- whether it is taken from the file or from the parts.
use Prim.Native.Nat.{ℕ, suc, ◌+◌, ◌*◌, ◌/◌, ◌%◌, ◌^◌}
use mathlib.Core.List.{List, [], ◌∷◌, ◌++◌, append_assoc}
use mathlib.Core.Path.{◌≡◌, refl, sym, ap, ap₂, ◌∙◌}
use native.Mathlib.{Nat.mod-mod, Omega.arith}
use lib.{ListN.length, ListN.take, ListN.drop, ListN.length-drop, Seq.take_all, Seq.take_at}
use Rattle.octets.specs.{Buffers.slice, Digits.number_at, Digits.digits}
use Rattle.octets.specs.{Rows.row, Rows.row_length, Rows.numbers_at, Stream.Cipher, Stream.Keystream, Stream.enciphered}
use Rattle.octets.proofs.Numbers.{Below, below_slice, digits_same}
use Rattle.octets.proofs.Rows.{length_row, row_back, many_read, length_equal}
use Rattle.octets.proofs.Slices.{length_slice, slice_add, slice_rest, element_rest}
use Rattle.octets.proofs.Streams.{OfBytes, below_enciphered, length_enciphered, enciphered_twice}
use Rattle.refusals.specs.Rules.{AllRight}
use Rattle.samples.specs.Words.{word_of, words_of}
use Rattle.samples.proofs.Words.{length_twos, words_good}
use Rattle.pack.specs.Faults.{tag_section_faults, faults_from_loops, faults_from_samples, faults_from_key, file_faults}
use Rattle.pack.specs.Layout.{Parts, Within, loops_good, fours, key_named, name_section, key_section}
use Rattle.pack.specs.Layout.{sample_section, loop_section, tag_count, tag_widths, associated, tag_section, laid}
use Rattle.pack.specs.Layout.{LaidFrom}
use Rattle.pack.specs.Places.{byte_at, name_count, key_place, key_number, value_place, sample_place, sample_count}
use Rattle.pack.specs.Places.{body_place, loop_place, loop_count, loops_place, loops_end, plain_of, parts_of}
use Rattle.pack.specs.Places.{tag_in, tag_place, associated_in, tag_due}
use Rattle.pack.proofs.Samples.{all_good}

-- the rules of each section stand behind those of the section before it
module _ (cipher : Cipher) (file : List ℕ) (right : AllRight (file_faults cipher file)) where
  pub key_right : AllRight (faults_from_key cipher file (key_place file))
  unfolding file_faults
  key_right = right.1.1.1.1

  pub sample_right : AllRight (faults_from_samples cipher file (sample_place cipher file))
  unfolding faults_from_key
  sample_right = key_right.1.1.1.1

  pub loop_right : AllRight (faults_from_loops cipher file (loop_place cipher file) (sample_count cipher file))
  unfolding faults_from_samples
  loop_right = sample_right.1.1.1

  pub tag_right : AllRight (tag_section_faults cipher file (tag_place cipher file))
  tag_right = loop_right.1.1.1.1

-- ---- each section, written again in front of what follows it, is the file from its place on

name_again : (cipher : Cipher) (file : List ℕ) → AllRight (file_faults cipher file)
    → (length (slice file 1 (name_count file)) ∷ slice file 1 (name_count file)) ++ drop (key_place file) file ≡ file
unfolding file_faults
name_again cipher file right =
    ap₂ (λ (n : ℕ) (l : List ℕ). n ∷ l) (length_slice file 1 (name_count file) (omega arith))
    (slice_rest file 1 (name_count file))
    ∙ element_rest file 0 0 (omega arith)

key_again : (cipher : Cipher) (file : List ℕ) (at : ℕ) → AllRight (faults_from_key cipher file at)
    → let n = cipher.value_bytes in
    (suc n ∷ byte_at file (at + 1) ∷ slice file (at + 2) n) ++ drop (at + 2 + n) file ≡ drop at file
unfolding faults_from_key
key_again cipher file at right =
    ap₂ (λ (n : ℕ) (l : List ℕ). n ∷ byte_at file (at + 1) ∷ l) (sym right.1.0)
    (slice_rest file (at + 2) cipher.value_bytes)
    ∙ ap (λ (n : ℕ). byte_at file at ∷ byte_at file (at + 1) ∷ drop n file) next
    ∙ ap (λ (l : List ℕ). byte_at file at ∷ l) (element_rest file (at + 1) 0 (omega arith))
    ∙ element_rest file at 0 (omega arith)
  where
    next : at + 2 ≡ at + 1 + 1
    next = omega arith

-- so many samples are read from a body as are counted
counted : (n : ℕ) (k : Keystream) (body : List ℕ) → length body ≡ 2 * n → length (words_of (enciphered k body)) ≡ n
counted n k body size =
    length_twos word_of (enciphered k body) ∙ ap (λ (m : ℕ). m / 2) (length_enciphered k body ∙ size) ∙ half
  where
    half : 2 * n / 2 ≡ n
    half = omega arith

sample_again : (cipher : Cipher) (file : List ℕ) (at : ℕ) (k : Keystream) → Below 256 file
    → AllRight (faults_from_samples cipher file at)
    → let n = number_at file at 4 in
    let plain = enciphered k (slice file (at + 4) (2 * n)) in
    (row (fours 1) (length (words_of plain) ∷ []) ≡ slice file at 4)
    × ((row (fours 1) (length (words_of plain) ∷ []) ++ enciphered k plain) ++ drop (at + 4 + 2 * n) file ≡ drop at file)
unfolding faults_from_samples numbers_at
sample_again cipher file at k b right =
    let n : ℕ = number_at file at 4 in
    let body : List ℕ = slice file (at + 4) (2 * n) in
    let size : length body ≡ 2 * n = length_slice file (at + 4) (2 * n) (omega arith) in
    let count : row (fours 1) (length (words_of (enciphered k body)) ∷ []) ≡ slice file at 4 =
    ap (λ (m : ℕ). row (fours 1) (m ∷ [])) (counted n k body size) ∙ row_back (fours 1) file at (omega arith) b in (
      count,
      ap₂ (λ (xs ys : List ℕ). (xs ++ ys) ++ drop (at + 4 + 2 * n) file) count (enciphered_twice k body)
          ∙ append_assoc (slice file at 4) body (drop (at + 4 + 2 * n) file)
          ∙ ap (λ (l : List ℕ). slice file at 4 ++ l) (slice_rest file (at + 4) (2 * n))
          ∙ slice_rest file at 4,
    )

-- the loops of a section at `at`
abbrev loops_in : List ℕ → ℕ → List ℕ
loops_in file at = numbers_at (fours (2 * byte_at file at)) file (at + 1)

loop-again : (cipher : Cipher) (file : List ℕ) (at samples : ℕ) → Below 256 file
    → AllRight (faults_from_loops cipher file at samples)
    → (length (loops_in file at) / 2 ∷ row (fours (length (loops_in file at))) (loops_in file at))
    ++ drop (loops_end file at) file
    ≡ drop at file
loop-again cipher file at samples b right =
    let n : ℕ = 2 * byte_at file at in
    let long = length_equal n 4 in
    let half : n / 2 ≡ byte_at file at = omega arith in
    let width : row_length (fours n) ≡ 8 * byte_at file at = omega arith in
    ap (λ (m : ℕ). (m / 2 ∷ row (fours m) (loops_in file at)) ++ drop (loops_end file at) file)
    (many_read 4 n file (at + 1))
    ∙ ap₂ (λ (m : ℕ) (l : List ℕ). m ∷ l ++ drop (loops_end file at) file) half
    (row_back (fours n) file (at + 1) (omega arith) b ∙ ap (slice file (at + 1)) width)
    ∙ ap (λ (l : List ℕ). byte_at file at ∷ l) (slice_rest file (at + 1) (8 * byte_at file at))
    ∙ element_rest file at 0 (omega arith)

-- a section that stands in front of what follows it is that part of the file
part_of : (file section : List ℕ) (at n end : ℕ) → section ++ drop end file ≡ drop at file
    → length section ≡ n → slice file at n ≡ section
part_of file section at n end e long = ap (take n) (sym e) ∙ take_at section (drop end file) n long

-- a row that shows the tag section's two numbers is the rest of the file
tag_again : (cipher : Cipher) (file : List ℕ) (at tag : ℕ) → Below 256 file
    → AllRight (tag_section_faults cipher file at)
    → tag_in cipher file at ≡ tag % 256 ^ cipher.tag_bytes
    → row (tag_widths cipher) (cipher.tag_bytes ∷ tag ∷ []) ≡ drop at file
unfolding row numbers_at
tag_again cipher file at tag b right same =
    let n : ℕ = cipher.tag_bytes in
    ap₂ (λ (m : ℕ) (l : List ℕ). digits 256 (tag_count cipher) m ++ (l ++ [])) (sym right.1.0)
    (sym
    (ap (digits 256 n) same
    ∙ digits_same 256 (omega arith) n (tag % 256 ^ n) tag (mod-mod tag (256 ^ n))))
    ∙ row_back (tag_widths cipher) file at (omega arith) b
    ∙ take_all (row_length (tag_widths cipher)) (drop at file) (simp length-drop (omega arith))

-- ---- the whole file

module _ (cipher : Cipher) (ring : List (List ℕ)) (file : List ℕ) (right : AllRight (file_faults cipher file)) where
  -- the keystream of the file's key and initial value
  abbrev stream : Keystream
  stream = cipher.stream (key_named ring (key_number file)) (slice file (value_place file) cipher.value_bytes)

  -- the enciphered body, and how long it is
  abbrev body : List ℕ
  body = slice file (body_place cipher file) (2 * sample_count cipher file)

  body_size : length body ≡ 2 * sample_count cipher file
  unfolding faults_from_samples
  body_size =
      length_slice file (body_place cipher file) (2 * sample_count cipher file) (sample_right cipher file right).1.1.0

  -- as many samples are read as are counted
  pub samples_counted : length (parts_of cipher ring file).samples ≡ sample_count cipher file
  unfolding parts_of
  samples_counted = counted (sample_count cipher file) stream body body_size

  module _ (b : Below 256 file) where
    abbrev given : Parts
    given = parts_of cipher ring file

    abbrev plain : List ℕ
    plain = plain_of cipher ring file

    abbrev count : List ℕ
    count = row (fours 1) (length given.samples ∷ [])

    samples_again : (count ≡ slice file (sample_place cipher file) 4)
        × (sample_section cipher ring given plain ++ drop (loop_place cipher file) file
        ≡ drop (sample_place cipher file) file)
    unfolding parts_of plain_of
    samples_again =
        sample_again cipher file (sample_place cipher file) stream b (sample_right cipher file right)

    loops_again : loop_section given ++ drop (tag_place cipher file) file ≡ drop (loop_place cipher file) file
    unfolding parts_of
    loops_again =
        loop-again cipher file (loop_place cipher file) (sample_count cipher file) b (loop_right cipher file right)

    -- what the tag is over
    same_associated : associated cipher given ≡ associated_in cipher file
    unfolding parts_of associated file_faults faults_from_key
    same_associated =
        let key = key_right cipher file right in
        let begins : 0 + key_place file ≡ key_place file = omega arith in
        let n : ℕ = 2 + cipher.value_bytes in
        let m : ℕ = 1 + 8 * loop_count cipher file in
        let body : body_place cipher file ≡ key_place file + (n + 4) = omega arith in
        let samples : key_place file + n ≡ sample_place cipher file = omega arith in
        let name : slice file 0 (key_place file) ≡ name_section given =
        part_of file (name_section given) 0 (key_place file) (key_place file) (name_again cipher file right)
        (omega (arith, length_slice file 1 (name_count file) right.1.1.0)) in
        let keys : slice file (key_place file) n ≡ key_section cipher given =
        part_of file (key_section cipher given) (key_place file) n (sample_place cipher file)
        (key_again cipher file (key_place file) key)
        (omega (arith, length_slice file (value_place file) cipher.value_bytes key.1.1.0)) in
        let many : length given.loops ≡ 2 * loop_count cipher file =
        many_read 4 (2 * loop_count cipher file) file (loops_place cipher file) in
        let loops : slice file (loop_place cipher file) m ≡ loop_section given =
        part_of file (loop_section given) (loop_place cipher file) m (tag_place cipher file) loops_again
        (omega (
          arith,
          length_row (fours (length given.loops)) given.loops,
          length_equal (length
              given.loops) 4,
          many,
        ))
        in
        let front : slice file 0 (body_place cipher file)
        ≡ slice file 0 (key_place file) ++ (slice file (key_place file) n ++ slice file (sample_place cipher file) 4) =
        ap (slice file 0) body ∙ slice_add file 0 (key_place file) (n + 4)
        ∙ ap (λ (l : List ℕ). slice file 0 (key_place file) ++ l)
        (ap (λ (p : ℕ). slice file p (n + 4)) begins ∙ slice_add file (key_place file) n 4
        ∙ ap (λ (p : ℕ). slice file (key_place file) n ++ slice file p 4) samples) in
        sym
        (ap (λ (l : List ℕ). l ++ slice file (loop_place cipher file) m) front
        ∙ (λ i. (name i ++ (keys i ++ sym samples_again.0 i)) ++ loops i)
        ∙ append_assoc (name_section given) (key_section cipher given ++ count) (loop_section given)
        ∙ ap (λ (l : List ℕ). name_section given ++ l) (append_assoc (key_section cipher given) count
        (loop_section given)))

    -- the tag that is due, as laid out from the parts
    laid_again : tag_in cipher file (tag_place cipher file) ≡ tag_due cipher ring file
        → file ≡ laid cipher ring given plain
    unfolding parts_of plain_of tag_due tag_section
    laid_again agrees =
        let due = agrees
        ∙ ap (λ (l : List ℕ). cipher.tag (key_named ring given.key_number) given.value l plain
        % 256 ^ cipher.tag_bytes) (sym same_associated) in
        sym
        (ap
        (λ (l : List ℕ).
        name_section given
        ++ (key_section cipher given ++ (sample_section cipher ring given plain ++ (loop_section given ++ l))))
        (tag_again cipher file (tag_place cipher file) _ b (tag_right cipher file right) due)
        ∙ ap
        (λ (l : List ℕ). name_section given ++ (key_section cipher given ++ (sample_section cipher ring given plain ++ l)))
        loops_again
        ∙ ap (λ (l : List ℕ). name_section given ++ (key_section cipher given ++ l)) samples_again.1
        ∙ ap (λ (l : List ℕ). name_section given ++ l)
        (key_again cipher file (key_place file) (key_right cipher file right))
        ∙ name_again cipher file right)

    pub laid_from : OfBytes stream → tag_in cipher file (tag_place cipher file) ≡ tag_due cipher ring file
        → LaidFrom cipher ring given plain file
    unfolding parts_of plain_of
    laid_from h agrees =
        record {
          size = length_enciphered stream body ∙ body_size ∙ ap (λ (n : ℕ). 2 * n) (sym samples_counted);
          bytes = below_enciphered stream body h
              (below_slice file (body_place cipher file) (2 * sample_count cipher file) b);
          read = refl;
          is = laid_again agrees;
        }

    pub parts_within : Within cipher (parts_of cipher ring file)
    unfolding parts_of file_faults faults_from_key faults_from_samples
    parts_within =
        let key = key_right cipher file right in
        let sample = sample_right cipher file right in
        let loop = loop_right cipher file right in
        record {
          name_count = omega (arith, length_slice file 1 (name_count file) right.1.1.0);
          name_bytes = right.1.1.1.0;
          key_number = key.1.1.1.0;
          value_count = length_slice file (value_place file) cipher.value_bytes key.1.1.0;
          value_bytes = below_slice file (value_place file) cipher.value_bytes b;
          sample_count = omega (arith, samples_counted);
          samples = all_good _ (words_good (enciphered stream body));
          loop_count = omega (arith, many_read 4 (2 * loop_count cipher file) file (loops_place cipher file));
          loops = ap (λ (n : ℕ). loops_good n (loops_in file (loop_place cipher file))) samples_counted ∙ loop.1.1.1.0;
        }
