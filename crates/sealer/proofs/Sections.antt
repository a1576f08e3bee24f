-- The sections of a pack, each put behind the one before it, are the file.
use mathlib.Core.Path.{◌≡◌, refl, ap, ◌∙◌}
use mathlib.Core.List.{List, [], ◌∷◌, ◌++◌, append_assoc}
use Prim.Native.Nat.{ℕ, ◌+◌, ◌-◌, ◌*◌, ◌≤◌}
use native.Mathlib.Omega.{arith}
use lib.{ListN.length, ListN.take, ListN.drop, ListN.length-append, Seq.take_at, Seq.drop_at}
use Rattle.octets.specs.{Buffers.slice, Buffers.placed, Buffers.put, Digits.digits, Rows.row, Stream.Cipher}
use Rattle.octets.specs.{Stream.Keystream, Stream.enciphered}
use Rattle.octets.proofs.{Buffers.put_placed, Buffers.puts_on, Rows.length_row, Rows.length_equal}
use Rattle.octets.proofs.{Slices.slice_front, Slices.slice_behind, Streams.length_enciphered, Streams.enciphered_twice}
use Rattle.samples.specs.Words.{bytes_of_all}
use Rattle.samples.proofs.Words.{length_bytes}
use Rattle.pack.specs.Ciphers.{cipher_of, ring_for}
use Rattle.pack.specs.Layout.{Parts, fours, key_named, layout, name_section, key_section, loop_section, tag_length}
use Rattle.pack.specs.{Layout.tag_widths, Layout.associated, Layout.tag_section, declared.Kind.Kind, declared.Rings.Rings}
use Rattle.pack.specs.declared.Kind.TheVariants.{Trivium, Enocoro, Triad}
use Rattle.sealer.specs.Tags.{tag_row}

module _ (cipher : Cipher) (ring : List (List ℕ)) (p : Parts) where
  abbrev pub start : List ℕ
  start = name_section p ++ (key_section cipher p ++ row (fours 1) (length p.samples ∷ []))

  abbrev pub stream : Keystream
  stream = cipher.stream (key_named ring p.key_number) p.value

  abbrev pub plain : List ℕ
  plain = bytes_of_all p.samples

  abbrev body : List ℕ
  body = enciphered stream plain

  -- where the body begins, where it ends, and where the tag section begins
  abbrev pub place : ℕ
  place = 7 + length p.name + length p.value

  abbrev pub end : ℕ
  end = place + 2 * length p.samples

  abbrev pub last : ℕ
  last = end + 1 + 4 * length p.loops

  abbrev count : List ℕ
  count = row (fours 1) (length p.samples ∷ [])

  section_long : length (tag_section cipher ring p plain) ≡ tag_length cipher
  unfolding tag_section
  section_long =
      length_row (tag_widths cipher)
      (cipher.tag_bytes
      ∷ cipher.tag (key_named ring p.key_number) p.value (associated cipher p) plain
      ∷ [])
      ∙ omega arith

  start_long : length start ≡ place
  start_long = let four = length_row (fours 1) (length p.samples ∷ []) in simp length-append (omega arith)

  body_long : length body ≡ 2 * length p.samples
  body_long = length_enciphered stream plain ∙ length_bytes p.samples

  loops_long : length (loop_section p) ≡ 1 + 4 * length p.loops
  loops_long =
      let four = length_row (fours (length p.loops)) p.loops ∙ length_equal (length p.loops) 4 in omega arith

  abbrev pub three : List ℕ
  three = (start ++ body) ++ loop_section p

  three_long : length three ≡ last
  three_long =
      omega (
        arith,
        length-append (start ++ body)
            (loop_section p),
        length-append start body,
        start_long,
        body_long,
        loops_long,
      )

  -- the first three; the body is under the keystream that was begun, at the place that the code names
  pub written : (d : List ℕ) {k : Keystream} {at : ℕ} {e₁ e₂ e₃ : List ℕ} → last ≤ length d → k ≡ stream
      → e₁ ≡ put d 0 start
      → e₂ ≡ put e₁ at (enciphered k plain) → at ≡ place
      → e₃ ≡ put e₂ end (loop_section p)
      → e₃ ≡ put d 0 three
  written d {e₁ = e₁} room under p₁ p₂ there p₃ =
      let both = length-append start body in
      p₃
      ∙ puts_on d 0 (start ++ body) (loop_section p)
      (p₂ ∙ (λ i. put e₁ (there i) (enciphered (under i) plain))
      ∙ puts_on d 0 start body p₁ (omega (arith, start_long)) (omega (arith, start_long, body_long)))
      (omega (arith, both, start_long, body_long))
      (omega (arith, both, start_long, body_long, loops_long))

  -- what stands in the output then is what the tag is over, so its row is the tag section
  module _ (d e : List ℕ) (room : last ≤ length d) (there : e ≡ put d 0 three) where
    part : (at n : ℕ) → at + n ≤ last → slice e at n ≡ slice three at n
    unfolding placed
    part at n far =
        ap (λ (l : List ℕ). slice l at n) (there ∙ put_placed d 0 three (omega (arith, three_long)))
        ∙ slice_front three (drop (0 + length three) d) at n (omega (arith, three_long))

    front_there : slice e 0 place ≡ start
    front_there =
        part 0 place (omega arith)
        ∙ ap (take place) (append_assoc start body (loop_section p))
        ∙ take_at start (body ++ loop_section p) place start_long

    body_there : slice e place (end - place) ≡ body
    body_there =
        part place (end - place) (omega arith)
        ∙ ap (λ (l : List ℕ). slice l place (end - place)) (append_assoc start body (loop_section p))
        ∙ ap (take (end - place)) (drop_at start (body ++ loop_section p) place start_long)
        ∙ take_at body (loop_section p) (end - place) (omega (arith, body_long))

    loops_there : slice e end (last - end) ≡ loop_section p
    loops_there =
        part end (last - end) (omega arith)
        ∙ slice_behind (start ++ body) (loop_section p) end (last - end)
        (omega (arith, length-append start body, start_long, body_long))
        (omega (arith, loops_long))

    tag_due_lem : tag_row cipher (key_named ring p.key_number) p.value e place end last ≡ tag_section cipher ring p plain
    unfolding tag_row tag_section associated
    tag_due_lem =
        let tag : List ℕ → List ℕ → List ℕ = λ over message.
        row (tag_widths cipher)
        (cipher.tag_bytes ∷ cipher.tag (key_named ring p.key_number) p.value over message ∷ []) in
        (λ i. tag (front_there i ++ loops_there i) (enciphered stream (body_there i)))
        ∙ (λ i.
        tag ((append_assoc (name_section p) (key_section cipher p ++ count) (loop_section p)
        ∙ ap (λ (l : List ℕ). name_section p ++ l) (append_assoc (key_section cipher p) count (loop_section p))) i)
        (enciphered_twice stream plain i))

    -- and with it the file is whole
    pub finished : {last_written : List ℕ} → last + tag_length cipher ≤ length d
        → last_written ≡ put e last (tag_row cipher (key_named ring p.key_number) p.value e place end last)
        → last_written ≡ placed d 0 (layout cipher ring p)
    unfolding layout
    finished fits w =
        let section : List ℕ = tag_section cipher ring p plain in
        let long = section_long in
        w ∙ ap (put e last) tag_due_lem
        ∙ puts_on d 0 three section there (omega (arith, three_long)) (omega (arith, three_long, long))
        ∙ put_placed d 0 (three ++ section) (omega (arith, length-append three section, three_long, long))
        ∙ ap (placed d 0) (simp append_assoc)

-- the row of a tag section depends on no ring but TRIAD's
pub row_ring : (kind : Kind) (r : Rings) (n : ℕ) (value file : List ℕ) (from loop at : ℕ)
    → tag_row (cipher_of kind) (key_named r.of_triad n) value file from loop at
    ≡ tag_row (cipher_of kind) (key_named (ring_for kind r) n) value file from loop at
unfolding tag_row row digits
row_ring Trivium r n value file from loop at = refl
row_ring Enocoro r n value file from loop at = refl
row_ring Triad r n value file from loop at = refl
