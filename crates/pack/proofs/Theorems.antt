-- The laws that Demand2.antt puts together: sealed parts open to themselves, an opened file seals to itself exactly if
-- no plain word is 80 00, and the opener accepts exactly what is laid out from parts within their limits, each from the
-- laws of accepted and of laid files. Then what refusals leave.
use Prim.Native.Nat.{ℕ, ◌*◌, ◌<◌, ◌≤◌}
use mathlib.Core.List.{List, [], ◌∷◌, ◌++◌, append_assoc}
use mathlib.Core.Path.{◌≡◌, refl, sym, ap, ap₂, subst, ◌∙◌}
use mathlib.Core.{Bool.Bool, Bool.true, Bool.false, Logic.◌≢◌, Logic.◌⊎◌, Logic.inl, Logic.inr}
use native.Mathlib.Omega.{arith}
use borrow.Author.Tests.{ltb-true, ltb-false}
use lib.{Dec.T, Dec.ltb, IntN.ℤ, ListN.length, ListN.get_or, ListN.take, Seq.take_at, Seq.drop_at}
use Rattle.octets.specs.{Buffers.slice, Buffers.placed, Rows.row, Stream.Cipher, Stream.Keystream, Stream.enciphered}
use Rattle.octets.proofs.{Buffers.take_placed, Numbers.Below}
use Rattle.octets.proofs.Streams.{OfBytes, length_enciphered, enciphered_twice}
use Rattle.refusals.specs.{Numbers.accepted, Numbers.no_room, Outcome.Outcome, Outcome.outcome}
use Rattle.refusals.specs.Rules.{AllRight, first, lacking, Leaves}
use Rattle.refusals.proofs.Faults.{numbered, all_right, none_wrong, right_after, right_both, refused_at}
use Rattle.refusals.proofs.Faults.{lacking_append, by_verdict}
use Rattle.refusals.proofs.Settled.{done_if, settled_number, settled_leaves, first_here}
use Rattle.samples.specs.Words.{words_of, NoLowest, bytes_of_all}
use Rattle.samples.proofs.Words.{length_bytes, bytes_of_words, bytes_kept}
use Rattle.trivium.specs.Registers.{started}
use Rattle.trivium.proofs.Bytes as Trivium-bytes
use Rattle.enocoro.proofs.States as Enocoro-bytes
use Rattle.triad.proofs.Bytes as Triad-bytes
use Rattle.pack.specs.{Ciphers.cipher_of, Demand2.sealed_to, declared.Kind.Kind, Answers.Opened}
use Rattle.pack.specs.declared.Kind.TheVariants.{Trivium, Enocoro, Triad}
use Rattle.pack.specs.Answers.{Sealed}
use Rattle.pack.specs.Calls.{refused_opening, accepted_opening, lacks_of, surveying, inspecting, opening_pack}
use Rattle.pack.specs.Calls.{sealing_pack}
use Rattle.pack.specs.Faults.{faults_from_samples, faults_from_key, file_faults, tag_faults, keyed_faults, open_faults}
use Rattle.pack.specs.Faults.{room_faults, seal_faults}
use Rattle.pack.specs.Layout.{Parts, Within, fours, key_named, name_section, key_section, loop_section, laid}
use Rattle.pack.specs.Layout.{LaidFrom, layout, tag_section}
use Rattle.pack.specs.Places.{sample_count, plain_of, parts_of, tag_in, tag_place, tag_due}
use Rattle.pack.proofs.LaidFiles.{length_laid, length_layout, laid_accepted, layout_laid}
use Rattle.pack.proofs.{Loops.loops_even, AcceptedFiles.samples_counted, AcceptedFiles.laid_from}
use Rattle.pack.proofs.AcceptedFiles.{parts_within}

-- every number of a file's rules says no
pub file_numbered : (cipher : Cipher) (file : List ℕ) → T (numbered (file_faults cipher file))
unfolding file_faults faults_from_key faults_from_samples
file_numbered cipher file = tt

pub file_right : (cipher : Cipher) (file : List ℕ) → first (file_faults cipher file) ≡ accepted
    → AllRight (file_faults cipher file)
file_right cipher file = none_wrong (file_faults cipher file) (file_numbered cipher file)

pub keyed_numbered : (cipher : Cipher) (ring : List (List ℕ)) (file : List ℕ)
    → T (numbered (keyed_faults cipher ring file))
unfolding keyed_faults file_faults faults_from_key faults_from_samples
keyed_numbered cipher ring file = tt

-- a room is enough, or it is 19
pub room_or_not : (needed room : ℕ)
    → (first (room_faults needed room) ≡ accepted) ⊎ (first (room_faults needed room) ≡ no_room)
room_or_not needed room = go (ltb room needed) refl
  where
    go : (b : Bool) → ltb room needed ≡ b
        → (first (room_faults needed room) ≡ accepted) ⊎ (first (room_faults needed room) ≡ no_room)
    go true more = inr (sym (refused_at 0 (room_faults needed room) (ltb-true room needed more)))
    go false fits = inl (sym (all_right (room_faults needed room) (ltb-false room needed fits, tt)))

-- a file's tag is the one that is due
abbrev pub Agrees : Cipher → List (List ℕ) → List ℕ → Type 0
Agrees cipher ring file = tag_in cipher file (tag_place cipher file) ≡ tag_due cipher ring file

-- with that, and no fault in itself, it has none for one who has keys either; and the other way round
pub keyed_right : (cipher : Cipher) (ring : List (List ℕ)) (file : List ℕ) → AllRight (file_faults cipher file)
    → Agrees cipher ring file → AllRight (keyed_faults cipher ring file)
unfolding keyed_faults
keyed_right cipher ring file right agrees = right_after (file_faults cipher file) _ right (agrees, tt)

pub keyed_shown : (cipher : Cipher) (ring : List (List ℕ)) (file : List ℕ) → AllRight (keyed_faults cipher ring file)
    → AllRight (file_faults cipher file) × Agrees cipher ring file
unfolding keyed_faults
keyed_shown cipher ring file right =
    let both = right_both (file_faults cipher file) (tag_faults cipher ring file) right in (both.0, both.1.0)

-- a fault of the file itself comes first
pub file_first : (cipher : Cipher) (ring : List (List ℕ)) (file : List ℕ) (n : ℕ) → n ≢ accepted
    → n ≡ first (file_faults cipher file) → n ≡ first (keyed_faults cipher ring file)
unfolding keyed_faults
file_first cipher ring file n refused e =
    first_here (file_faults cipher file) (tag_faults cipher ring file) (file_numbered cipher file) n refused e

-- and a tag lacks nothing
pub keyed_lacks : (cipher : Cipher) (ring : List (List ℕ)) (file : List ℕ)
    → lacking (keyed_faults cipher ring file) ≡ lacks_of cipher file
unfolding keyed_faults
keyed_lacks cipher ring file =
    lacking_append (file_faults cipher file) (tag_faults cipher ring file)
    (by_verdict (λ (k l : ℕ). l ≡ 0) refl (tag_faults cipher ring file) (λ _. refl, tt))

-- ---- demand 2

-- The sealer takes what is within limits, and room for it: it asks besides only that a run of loops is even, which
-- follows.
pub within_sealed : (cipher : Cipher) (p : Parts) (size room : ℕ) → Within cipher p → size ≤ room
    → AllRight (seal_faults cipher p size room)
unfolding seal_faults
within_sealed cipher p size room w h =
    let even = loops_even (length p.samples) p.loops w.loops in (
      w.name_count,
      (
        w.name_bytes,
        (
          w.value_count,
          (w.key_number, (w.sample_count, (w.samples, (w.loop_count, (omega arith, (w.loops, (h, tt))))))),
        ),
      ),
    )

-- and nothing else, where bytes are bytes
sealed_within : (cipher : Cipher) (p : Parts) (size room : ℕ) → AllRight (seal_faults cipher p size room)
    → ((i : ℕ) → get_or p.value i 0 < 256) → Within cipher p
unfolding seal_faults
sealed_within cipher p size room h values =
    record {
      name_count = h.0;
      name_bytes = h.1.0;
      value_count = h.1.1.0;
      key_number = h.1.1.1.0;
      value_bytes = values;
      sample_count = h.1.1.1.1.0;
      samples = h.1.1.1.1.1.0;
      loop_count = h.1.1.1.1.1.1.0;
      loops = h.1.1.1.1.1.1.1.1.0;
    }

module _ (cipher : Cipher) (ring : List (List ℕ)) where
  -- an accepted file opens to its parts' samples, given room
  pub opens : (file : List ℕ) (sound : List ℤ) (p : Parts) → AllRight (file_faults cipher file)
      → Agrees cipher ring file
      → parts_of cipher ring file ≡ p
      → length p.samples ≤ length sound
      → opening_pack cipher ring file sound ≡ outcome (accepted_opening cipher file) (placed sound 0 p.samples)
  unfolding opening_pack open_faults
  opens file sound p right agrees parts room =
      let counted = samples_counted cipher ring file right in
      let fits : sample_count cipher file ≤ length sound = omega
      (arith, ap (λ (q : Parts). length q.samples) parts) in
      sym (done_if _ _ _ (right_after (keyed_faults cipher ring file) _ (keyed_right cipher ring file right agrees)
      (fits, tt)))
      ∙ ap (λ (q : Parts). outcome (accepted_opening cipher file) (placed sound 0 q.samples)) parts

  -- parts that aren't refused are sealed
  pub seals : (p : Parts) (output : List ℕ)
      → AllRight (seal_faults cipher p (length (layout cipher ring p)) (length output))
      → sealing_pack cipher ring p output ≡ sealed_to (layout cipher ring p) output
  unfolding sealing_pack
  seals p output right = sym (done_if _ _ _ right)

  pub sealed_opens : cipher.tag_bytes < 256 → (p : Parts) (output : List ℕ) (sound : List ℤ)
      → first (seal_faults cipher p (length (layout cipher ring p)) (length output)) ≡ accepted
      → ((i : ℕ) → get_or p.value i 0 < 256)
      → length p.samples ≤ length sound
      → let file = take (sealing_pack cipher ring p output).answer.length (sealing_pack cipher ring p output).buffer in
      (opening_pack cipher ring file sound ≡ outcome (accepted_opening cipher file) (placed sound 0 p.samples))
      × (parts_of cipher ring file ≡ p)
  unfolding seal_faults
  sealed_opens short p output sound e values room =
      let file : List ℕ = layout cipher ring p in
      let right : AllRight (seal_faults cipher p (length file) (length output)) = none_wrong _ tt e in
      let within = sealed_within cipher p (length file) (length output) right values in
      let laid = laid_accepted cipher short ring p (bytes_of_all p.samples) file within
      (layout_laid cipher ring p within) in
      let written : take (sealing_pack cipher ring p output).answer.length (sealing_pack cipher ring p output).buffer
      ≡ file =
      ap (λ (o : Outcome Sealed ℕ). take o.answer.length o.buffer) (seals p output right)
      ∙ take_placed output file (omega arith) in
      subst
      (λ (f : List ℕ).
      (opening_pack cipher ring f sound ≡ outcome (accepted_opening cipher f) (placed sound 0 p.samples))
      × (parts_of cipher ring f ≡ p))
      (sym written) (opens file sound p laid.0 laid.1 laid.2 room, laid.2)

-- what is enciphered in a file can be told from the file
module _ (cipher : Cipher) (ring : List (List ℕ)) (p : Parts) where
  abbrev stream : Keystream
  stream = cipher.stream (key_named ring p.key_number) p.value

  abbrev front : List ℕ
  front = name_section p ++ (key_section cipher p ++ row (fours 1) (length p.samples ∷ []))

  body_told : (plain : List ℕ)
      → slice (laid cipher ring p plain) (length front) (length plain) ≡ enciphered stream plain
  body_told plain =
      let body : List ℕ = enciphered stream plain in
      let behind : List ℕ = loop_section p ++ tag_section cipher ring p plain in
      let cut : laid cipher ring p plain ≡ front ++ (body ++ behind) = simp append_assoc in
      ap (λ (l : List ℕ). slice l (length front) (length plain)) cut
      ∙ ap (take (length plain)) (drop_at front (body ++ behind) (length front) refl)
      ∙ take_at body behind (length plain) (length_enciphered stream plain)

  plain_told : (xs ys : List ℕ) → length xs ≡ length ys → laid cipher ring p xs ≡ laid cipher ring p ys → xs ≡ ys
  plain_told xs ys long same =
      sym (enciphered_twice stream xs)
      ∙ ap (enciphered stream)
      (sym (body_told xs) ∙ ap₂ (λ (l : List ℕ) (n : ℕ). slice l (length front) n) same long ∙ body_told ys)
      ∙ enciphered_twice stream ys

-- what is said of every file asks that the keystreams' elements are bytes
module _ (cipher : Cipher) (ring : List (List ℕ))
    (bytes : (key value : List ℕ) → OfBytes (cipher.stream key value)) where
  module _ (file : List ℕ) (b : Below 256 file) (e : first (file_faults cipher file) ≡ accepted)
      (agrees : Agrees cipher ring file) where
    abbrev given : Parts
    given = parts_of cipher ring file

    abbrev plain : List ℕ
    plain = plain_of cipher ring file

    from : LaidFrom cipher ring given plain file
    from = laid_from cipher ring file (file_right cipher file e) b (bytes _ _) agrees

    -- sealed again, it is as long as it was
    pub same_size : length (layout cipher ring given) ≡ length file
    same_size =
        length_layout cipher ring given ∙ sym (length_laid cipher ring given plain from.size)
        ∙ ap length (sym from.is)

    pub opened_seals : (output : List ℕ) → length file ≤ length output
        → sealing_pack cipher ring given output ≡ sealed_to (layout cipher ring given) output
    opened_seals output room =
        seals cipher ring given output
        (within_sealed cipher given _ _ (parts_within cipher ring file (file_right cipher file e) b)
        (omega (arith, same_size)))

    -- the bytes of the samples that were read are the plain bytes exactly if no word of them was 80 00
    abbrev own : List ℕ
    own = bytes_of_all (words_of plain)

    is_own : layout cipher ring given ≡ laid cipher ring given own
    unfolding layout
    is_own = ap (λ (zs : List ℤ). laid cipher ring given (bytes_of_all zs)) (sym from.read)

    pub same_if : NoLowest plain → layout cipher ring given ≡ file
    same_if other =
        is_own
        ∙ ap (laid cipher ring given) (bytes_of_words (length given.samples) plain from.size from.bytes other)
        ∙ sym from.is

    pub only_if : layout cipher ring given ≡ file → NoLowest plain
    only_if same =
        let long : length own ≡ length plain =
        length_bytes (words_of plain) ∙ ap (λ (zs : List ℤ). 2 * length zs) from.read ∙ sym from.size in
        bytes_kept plain (plain_told cipher ring given own plain long (sym is_own ∙ same ∙ from.is))

  -- The opener accepts exactly the files that are laid out from parts within their limits.
  pub opener_accepts_exactly : cipher.tag_bytes < 256 → (file : List ℕ) → Below 256 file
      → let fromParts = (p : Parts) × (plain : List ℕ) × Within cipher p × LaidFrom cipher ring p plain file in
      let right = (first (file_faults cipher file) ≡ accepted) × Agrees cipher ring file in
      (right → fromParts) × (fromParts → right)
  opener_accepts_exactly short file b = (
    λ e. (
      parts_of cipher ring file,
      plain_of cipher ring file,
      parts_within cipher ring file (file_right cipher file e.0) b,
      from file b e.0 e.1,
    ),
    λ l.
        let laid = laid_accepted cipher short ring l.0 l.1 file l.2 l.3 in
        (sym (all_right _ laid.0), laid.1),
  )

-- those of all ciphers are
pub cipher_bytes_lem : (kind : Kind) (key value : List ℕ) → OfBytes ((cipher_of kind).stream key value)
cipher_bytes_lem Trivium key value = Trivium-bytes.keystream_bytes (started key value)
cipher_bytes_lem Enocoro key value = Enocoro-bytes.keystream_bytes key value
cipher_bytes_lem Triad key value = Triad-bytes.keystream_bytes _

-- and no tag is longer than its count can say
pub short_tag : (kind : Kind) → (cipher_of kind).tag_bytes < 256
short_tag Trivium = omega arith
short_tag Enocoro = omega arith
short_tag Triad = omega arith

-- ---- a refused call leaves everything as given

pub surveying_leaves : (cipher : Cipher) (file : List ℕ)
    → Leaves (λ o. o.refusal) (refused_opening (lacks_of cipher file)) (surveying cipher file)
unfolding surveying
surveying_leaves cipher file = settled_leaves _ _ _ (λ o. o.refusal) refl (λ n. refl)

-- a survey's number is the first broken rule's
pub survey_refusal : (cipher : Cipher) (file : List ℕ) → (surveying cipher file).refusal ≡ first (file_faults cipher file)
unfolding surveying
survey_refusal cipher file = settled_number _ _ _ (λ (o : Opened). o.refusal) refl (λ n. refl)

-- and so for one who has keys
pub inspecting_leaves : (cipher : Cipher) (ring : List (List ℕ)) (file : List ℕ)
    → Leaves (λ o. o.refusal) (refused_opening (lacks_of cipher file)) (inspecting cipher ring file)
unfolding inspecting
inspecting_leaves cipher ring file = settled_leaves _ _ _ (λ o. o.refusal) refl (λ n. refl)

pub inspect_refusal : (cipher : Cipher) (ring : List (List ℕ)) (file : List ℕ)
    → (inspecting cipher ring file).refusal ≡ first (keyed_faults cipher ring file)
unfolding inspecting
inspect_refusal cipher ring file = settled_number _ _ _ (λ (o : Opened). o.refusal) refl (λ n. refl)

pub opening_leaves : (cipher : Cipher) (ring : List (List ℕ)) (file : List ℕ) (output : List ℤ)
    → Leaves (λ o. o.answer.refusal) (λ n. outcome (refused_opening (lacks_of cipher file) n) output)
    (opening_pack cipher ring file output)
unfolding opening_pack
opening_leaves cipher ring file output = settled_leaves _ _ _ (λ o. o.answer.refusal) refl (λ n. refl)

pub sealing_leaves : (cipher : Cipher) (ring : List (List ℕ)) (p : Parts) (output : List ℕ)
    → Leaves (λ o. o.answer.refusal) (λ n. outcome (record { refusal = n; length = 0 }) output)
    (sealing_pack cipher ring p output)
unfolding sealing_pack
sealing_leaves cipher ring p output = settled_leaves _ _ _ (λ o. o.answer.refusal) refl (λ n. refl)
