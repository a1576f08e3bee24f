-- A file laid out from parts within their limits is accepted, and gives the parts back: each section stands where the
-- counts before it say, and the tag that is due is the one that was laid.
use Prim.Native.Nat.{ℕ, zero, suc, ◌+◌, ◌*◌, ◌/◌, ◌%◌, ◌^◌, ◌<◌, min}
use mathlib.Core.Bool.{true}
use mathlib.Core.List.{List, [], ◌∷◌, ◌++◌, append_assoc, append-nil}
use mathlib.Core.Path.{◌≡◌, refl, sym, ap, subst, ◌∙◌}
use native.Mathlib.{Nat.add-zero, Nat.mod-lt, Nat.mod-mod, Nat.one-le-pow, Omega.arith}
use lib.ListN.{length, get_or, take, drop, length-append, take-append-drop}
use lib.Seq.{get_or-drop, drop-drop, take_at, drop_at, length-take-le}
use Rattle.octets.specs.{Buffers.slice, Digits.digits}
use Rattle.octets.specs.Rows.{row, numbers_at, Fits}
use Rattle.octets.specs.Stream.{Cipher, Keystream, enciphered}
use Rattle.octets.proofs.Numbers.{digits_same}
use Rattle.octets.proofs.Rows.{length_row, length_equal, numbers_back, fits_equal}
use Rattle.octets.proofs.Streams.{length_enciphered, enciphered_twice}
use Rattle.refusals.specs.Rules.{AllRight}
use Rattle.samples.specs.Words.{words_of, bytes_of_all}
use Rattle.samples.proofs.Words.{length_bytes, bytes_below, words_of_bytes}
use Rattle.pack.specs.Faults.{tag_section_faults, faults_from_loops, faults_from_samples, faults_from_key, file_faults}
use Rattle.pack.specs.Layout.{Parts, Within, name_good, loops_good, fours, key_named, name_section, key_section}
use Rattle.pack.specs.Layout.{sample_section, loop_section, tag_count, tag_length, tag_widths, associated}
use Rattle.pack.specs.Layout.{tag_section, laid}
use Rattle.pack.specs.Layout.{LaidFrom, layout}
use Rattle.pack.specs.Places.{byte_at, name_count, key_place, key_number, value_place, sample_place, sample_count}
use Rattle.pack.specs.Places.{body_place, loop_place, loop_count, loops_place, plain_of, parts_of, tag_place, tag_in}
use Rattle.pack.specs.Places.{associated_in, tag_due}
use Rattle.pack.proofs.{Loops.loops_small, Loops.loops_even, Samples.good_all}

-- how long a file is
pub length_laid : (cipher : Cipher) (ring : List (List ℕ)) (p : Parts) (plain : List ℕ)
    → length plain ≡ 2 * length p.samples
    → length (laid cipher ring p plain)
    ≡ 8 + length p.name + length p.value + 2 * length p.samples + 4 * length p.loops
    + tag_length cipher
unfolding tag_section
length_laid cipher ring p plain size =
    let body = length_enciphered (cipher.stream (key_named ring p.key_number) p.value) plain ∙ size in
    let loops = length_row (fours (length p.loops)) p.loops ∙ length_equal (length p.loops) 4 in
    let tag = cipher.tag (key_named ring p.key_number) p.value (associated cipher p) plain in
    simp length-append (omega (
      arith,
      length_row (fours 1) (length p.samples ∷ []),
      length_row (tag_widths cipher) (cipher.tag_bytes ∷ tag ∷ []),
    ))

pub length_layout : (cipher : Cipher) (ring : List (List ℕ)) (p : Parts)
    → length (layout cipher ring p)
    ≡ 8 + length p.name + length p.value + 2 * length p.samples + 4 * length p.loops
    + tag_length cipher
unfolding layout
length_layout cipher ring p = length_laid cipher ring p (bytes_of_all p.samples) (length_bytes p.samples)

-- ---- what stands from a place on, to the end

record Tail (file : List ℕ) (at : ℕ) (rest : List ℕ) : Type 0 where
  is : drop at file ≡ rest
  room : at + length rest ≡ length file

tail_byte : {file : List ℕ} {at x : ℕ} {rest : List ℕ} → Tail file at (x ∷ rest) → byte_at file at ≡ x
tail_byte {file} {at} t =
    ap (λ (n : ℕ). get_or file n 0) (sym (add-zero at)) ∙ sym (get_or-drop at file 0 0)
    ∙ ap (λ (l : List ℕ). get_or l 0 0) t.is

module _ {file : List ℕ} {at : ℕ} (run rest : List ℕ) (n : ℕ) (e : length run ≡ n)
    (t : Tail file at (run ++ rest)) where
  tail_run : slice file at n ≡ run
  tail_run = ap (take n) t.is ∙ take_at run rest n e

  tail_next : Tail file (at + n) rest
  tail_next =
      record {
        is = sym (drop-drop n at file) ∙ ap (drop n) t.is ∙ drop_at run rest n e;
        room = omega (arith, length-append run rest, t.room);
      }

tail_row : {file : List ℕ} {at : ℕ} (widths numbers rest : List ℕ) → Fits widths numbers
    → Tail file at (row widths numbers ++ rest)
    → numbers_at widths file at ≡ numbers
tail_row {file} {at} widths numbers rest fits t =
    ap (λ (l : List ℕ). numbers_at widths l at)
    (sym (take-append-drop at file) ∙ ap (λ (l : List ℕ). take at file ++ l) t.is)
    ∙ numbers_back widths numbers (take at file) rest at (length-take-le at file (omega (arith, t.room))) fits

-- ---- each section where it stands: it gives back what was laid, and is right if what follows it is

-- a count of one byte says how long a tag is, and one of none that there isn't any
count_fits : (n : ℕ) → n < 256 → n < 256 ^ min n 1
count_fits zero h = omega arith
count_fits (suc n) h = subst (λ (k : ℕ). suc n < 256 ^ k) one h
  where
    one : 1 ≡ min (suc n) 1
    one = omega arith

module _ (cipher : Cipher) (short : cipher.tag_bytes < 256) (ring : List (List ℕ)) (p : Parts) (w : Within cipher p)
    (plain : List ℕ) (size : length plain ≡ 2 * length p.samples) (read : words_of plain ≡ p.samples)
    (file : List ℕ) (t : Tail file 0 (laid cipher ring p plain)) where
  abbrev stream : Keystream
  stream = cipher.stream (key_named ring p.key_number) p.value

  abbrev body : List ℕ
  body = enciphered stream plain

  -- what is laid behind the name, behind the key and behind the samples
  abbrev behind_samples : List ℕ
  behind_samples = loop_section p ++ tag_section cipher ring p plain

  abbrev behind_key : List ℕ
  behind_key = sample_section cipher ring p plain ++ behind_samples

  abbrev behind_name : List ℕ
  behind_name = key_section cipher p ++ behind_key

  name_count_lem : length p.name ≡ name_count file
  name_count_lem = sym (tail_byte t)

  name_there : Tail file 1 (p.name ++ behind_name)
  name_there = tail_next (length p.name ∷ []) (p.name ++ behind_name) 1 refl t

  name_laid : slice file 1 (name_count file) ≡ p.name
  name_laid = tail_run p.name behind_name (name_count file) name_count_lem name_there

  key_there : Tail file (key_place file) behind_name
  key_there = tail_next p.name behind_name (name_count file) name_count_lem name_there

  name_right : AllRight (faults_from_key cipher file (key_place file)) → AllRight (file_faults cipher file)
  unfolding file_faults
  name_right more =
      let h = key_there.room in (
        omega arith,
        (omega (arith, name_count_lem, w.name_count), (omega arith, (ap name_good name_laid ∙ w.name_bytes, more))),
      )

  number_laid : key_number file ≡ p.key_number
  number_laid =
      tail_byte (tail_next (suc cipher.value_bytes ∷ []) (p.key_number ∷ p.value ++ behind_key) 1 refl key_there)

  value_there : Tail file (value_place file) (p.value ++ behind_key)
  value_there = tail_next (suc cipher.value_bytes ∷ p.key_number ∷ []) (p.value ++ behind_key) 2 refl key_there

  value_laid : slice file (value_place file) cipher.value_bytes ≡ p.value
  value_laid = tail_run p.value behind_key cipher.value_bytes w.value_count value_there

  count_there : Tail file (sample_place cipher file)
      (row (fours 1) (length p.samples ∷ []) ++ (body ++ behind_samples))
  count_there = rw append_assoc at (tail_next p.value behind_key cipher.value_bytes w.value_count value_there)

  key_right : AllRight (faults_from_samples cipher file (sample_place cipher file))
      → AllRight (faults_from_key cipher file (key_place file))
  unfolding faults_from_key
  key_right more =
      let h = count_there.room in
      (omega arith, (tail_byte key_there, (omega arith, (omega (arith, number_laid, w.key_number), more))))

  count_laid : sample_count cipher file ≡ length p.samples
  unfolding numbers_at
  count_laid =
      ap (λ (l : List ℕ). get_or l 0 0)
      (tail_row (fours 1) (length p.samples ∷ []) (body ++ behind_samples)
      (omega (arith, w.sample_count)) count_there)

  body_there : Tail file (body_place cipher file) (body ++ behind_samples)
  body_there =
      tail_next (row (fours 1) (length p.samples ∷ [])) (body ++ behind_samples) 4
      (length_row (fours 1) (length p.samples ∷ [])) count_there

  body_size : length body ≡ 2 * sample_count cipher file
  body_size = length_enciphered stream plain ∙ size ∙ ap (λ (n : ℕ). 2 * n) (sym count_laid)

  body_laid : slice file (body_place cipher file) (2 * sample_count cipher file) ≡ body
  body_laid = tail_run body behind_samples (2 * sample_count cipher file) body_size body_there

  loop_there : Tail file (loop_place cipher file) behind_samples
  loop_there = tail_next body behind_samples (2 * sample_count cipher file) body_size body_there

  sample_right : AllRight (faults_from_loops cipher file (loop_place cipher file) (sample_count cipher file))
      → AllRight (faults_from_samples cipher file (sample_place cipher file))
  unfolding faults_from_samples
  sample_right more =
      let h = loop_there.room in (omega arith, (omega (arith, count_laid, w.sample_count), (omega arith, more)))

  loops_good_lem : loops_good (sample_count cipher file) p.loops ≡ true
  loops_good_lem = ap (λ (n : ℕ). loops_good n p.loops) count_laid ∙ w.loops

  loop_count_lem : 2 * loop_count cipher file ≡ length p.loops
  loop_count_lem = omega (arith, tail_byte loop_there, loops_even (length p.samples) p.loops w.loops)

  abbrev loop_row : List ℕ
  loop_row = row (fours (length p.loops)) p.loops

  loops_laid : numbers_at (fours (2 * loop_count cipher file)) file (loops_place cipher file) ≡ p.loops
  loops_laid =
      let small = loops_small (length p.samples) (256 ^ 4) p.loops (omega (arith, w.sample_count)) w.loops in
      let there : Tail file (loops_place cipher file) (loop_row ++ tag_section cipher ring p plain) =
      tail_next (length p.loops / 2 ∷ []) (loop_row ++ tag_section cipher ring p plain) 1 refl loop_there in
      ap (λ (n : ℕ). numbers_at (fours n) file (loops_place cipher file)) loop_count_lem
      ∙ tail_row (fours (length p.loops)) p.loops (tag_section cipher ring p plain)
      (fits_equal 4 p.loops small) there

  loops_size : length (loop_section p) ≡ 1 + 8 * loop_count cipher file
  loops_size =
      omega (
        arith,
        loop_count_lem,
        length_row (fours (length p.loops)) p.loops,
        length_equal (length p.loops) 4,
      )

  tag_there : Tail file (tag_place cipher file) (tag_section cipher ring p plain)
  tag_there =
      let next = tail_next (loop_section p) (tag_section cipher ring p plain) (1 + 8 * loop_count cipher file) loops_size
      loop_there in
      subst (λ (at : ℕ). Tail file at (tag_section cipher ring p plain)) (omega arith) next

  loop_right : AllRight (tag_section_faults cipher file (tag_place cipher file))
      → AllRight (faults_from_loops cipher file (loop_place cipher file) (sample_count cipher file))
  loop_right more =
      let h = tag_there.room in (
        omega arith,
        (
          omega (arith, loop_count_lem, w.loop_count),
          (omega arith, (ap (loops_good (sample_count cipher file)) loops_laid ∙ loops_good_lem, more)),
        ),
      )

  -- the tag that was laid, as much of it as a tag has
  abbrev tag : ℕ
  tag = cipher.tag (key_named ring p.key_number) p.value (associated cipher p) plain

  abbrev kept : ℕ
  kept = tag % 256 ^ cipher.tag_bytes

  tag_numbers : numbers_at (tag_widths cipher) file (tag_place cipher file) ≡ cipher.tag_bytes ∷ kept ∷ []
  unfolding tag_section row
  tag_numbers =
      let n : ℕ = cipher.tag_bytes in
      let same : digits 256 n tag ≡ digits 256 n kept =
      sym (digits_same 256 (omega arith) n kept tag (mod-mod tag (256 ^ n))) in
      tail_row (tag_widths cipher) (cipher.tag_bytes ∷ kept ∷ []) []
      (count_fits cipher.tag_bytes short, (mod-lt tag (one-le-pow cipher.tag_bytes 256 (omega arith)), tt))
      (subst (Tail file (tag_place cipher file))
      (ap (λ (l : List ℕ). digits 256 (tag_count cipher) n ++ (l ++ [])) same
      ∙ sym (append-nil (row (tag_widths cipher) (n ∷ kept ∷ [])))) tag_there)

  tag_right : AllRight (tag_section_faults cipher file (tag_place cipher file))
  unfolding tag_section numbers_at
  tag_right =
      let h = tag_there.room in
      let long = length_row (tag_widths cipher) (cipher.tag_bytes ∷ tag ∷ []) in
      (omega arith, (ap (λ (l : List ℕ). get_or l 0 0) tag_numbers, (omega arith, (omega arith, tt))))

  -- what the tag is over
  same_associated : associated_in cipher file ≡ associated cipher p
  unfolding associated
  same_associated =
      let count : List ℕ = row (fours 1) (length p.samples ∷ []) in
      let front : List ℕ = name_section p ++ (key_section cipher p ++ count) in
      let cut : laid cipher ring p plain ≡ front ++ (body ++ behind_samples) = simp append_assoc in
      let long : length front ≡ body_place cipher file =
      simp length-append (omega (
        arith,
        length_row (fours 1) (length p.samples ∷ []),
        name_count_lem,
        w.value_count,
      )) in
      (λ i.
      tail_run front (body ++ behind_samples) (body_place cipher file) long (subst (Tail file 0) cut t) i
      ++ tail_run (loop_section p) (tag_section cipher ring p plain)
      (1 + 8 * loop_count cipher file) loops_size loop_there i)
      ∙ append_assoc (name_section p) (key_section cipher p ++ count) (loop_section p)
      ∙ ap (λ (l : List ℕ). name_section p ++ l) (append_assoc (key_section cipher p) count (loop_section p))

  plain_laid : plain_of cipher ring file ≡ plain
  unfolding plain_of
  plain_laid =
      (λ i. enciphered (cipher.stream (key_named ring (number_laid i)) (value_laid i)) (body_laid i))
      ∙ enciphered_twice stream plain

  tag_agrees : tag_in cipher file (tag_place cipher file) ≡ tag_due cipher ring file
  unfolding tag_due numbers_at
  tag_agrees =
      ap (λ (l : List ℕ). get_or l 1 0) tag_numbers
      ∙ sym
      (λ i.
      cipher.tag (key_named ring (number_laid i)) (value_laid i) (same_associated i) (plain_laid i)
      % 256 ^ cipher.tag_bytes)

  samples_laid : (parts_of cipher ring file).samples ≡ p.samples
  unfolding parts_of plain_of
  samples_laid = ap words_of plain_laid ∙ read

  given_back : AllRight (file_faults cipher file) × (tag_in cipher file (tag_place cipher file) ≡ tag_due cipher ring file)
      × (parts_of cipher ring file ≡ p)
  unfolding parts_of
  given_back = (
    name_right (key_right (sample_right (loop_right tag_right))),
    tag_agrees,
    λ i.
        record {
          name = name_laid i;
          key_number = number_laid i;
          value = value_laid i;
          samples = samples_laid i;
          loops = loops_laid i;
        },
  )

pub laid_accepted : (cipher : Cipher) → cipher.tag_bytes < 256 → (ring : List (List ℕ)) (p : Parts)
    (plain file : List ℕ)
    → Within cipher p
    → LaidFrom cipher ring p plain file
    → AllRight (file_faults cipher file) × (tag_in cipher file (tag_place cipher file) ≡ tag_due cipher ring file)
    × (parts_of cipher ring file ≡ p)
laid_accepted cipher short ring p plain file w l =
    given_back cipher short ring p w plain l.size l.read file
    (record { is = l.is; room = omega (arith, ap length l.is) })

-- what is sealed is laid out from the samples' own bytes
pub layout_laid : (cipher : Cipher) (ring : List (List ℕ)) (p : Parts) → Within cipher p
    → LaidFrom cipher ring p (bytes_of_all p.samples) (layout cipher ring p)
unfolding layout
layout_laid cipher ring p w =
    record {
      size = length_bytes p.samples;
      bytes = bytes_below p.samples;
      read = words_of_bytes p.samples (good_all p.samples w.samples);
      is = refl;
    }
