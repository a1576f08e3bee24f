-- Demand 2 holds: what an accepted opening puts into a caller's hand are the parts that the file gives, and the laws
-- of laid and of accepted files speak of these.
use Prim.Native.Nat.{ℕ, ◌*◌, ◌<◌, ◌≤◌}
use mathlib.Core.{List.List, Path.◌≡◌, Path.refl, Path.sym, Path.ap, Path.subst, Path.◌∙◌}
use native.Mathlib.Omega.{arith}
use lib.{IntN.ℤ, ListN.length, ListN.get_or, ListN.take}
use Rattle.octets.specs.{Buffers.placed, Stream.Cipher}
use Rattle.octets.proofs.{Buffers.take_placed, Rows.many_read, Slices.length_slice, Streams.OfBytes}
use Rattle.refusals.specs.{Numbers.accepted, Outcome.Outcome, Outcome.outcome, Rules.AllRight, Rules.first}
use Rattle.refusals.proofs.Faults.{all_right, none_wrong, right_both}
use Rattle.refusals.proofs.Settled.{settled_number}
use Rattle.samples.specs.Words.{NoLowest}
use Rattle.pack.specs.{declared.Kind.Kind, Answers.Opened, Answers.Sealed}
use Rattle.pack.specs.declared.Kind.TheVariants.{Trivium, Enocoro, Triad}
use Rattle.pack.specs.Calls.{accepted_opening, opening_pack, sealing_pack, sealing_file}
use Rattle.pack.specs.Ciphers.{cipher_of, kind_in, ring_for}
use Rattle.pack.specs.declared.Rings.{Rings}
use Rattle.pack.specs.Demand2.{in_hand, OpenedTo, sealed_to, plain_in, LaidUnder, Demand2}
use Rattle.pack.specs.Faults.{faults_from_samples, faults_from_key, file_faults, keyed_faults, room_faults, open_faults}
use Rattle.pack.specs.Faults.{seal_faults}
use Rattle.pack.specs.Layout.{Parts, parts, layout}
use Rattle.pack.specs.Places.{name_count, sample_count, loop_count, loops_place, plain_of, parts_of}
use Rattle.pack.proofs.AcceptedFiles.{samples_counted, laid_from, parts_within}
use Rattle.pack.proofs.Theorems.{within_sealed, opens, seals, sealed_opens, opened_seals, same_size, same_if}
use Rattle.pack.proofs.Theorems.{Agrees, keyed_shown, only_if, cipher_bytes_lem, short_tag}
use Rattle.pack.proofs.LaidFiles.{laid_accepted}
use Rattle.pack.proofs.Picking.{kind_found}

module _ (cipher : Cipher) (ring : List (List ℕ)) where
  -- the numbers that callers see are the first broken rules'
  pub opening_refusal : (file : List ℕ) (sound : List ℤ)
      → (opening_pack cipher ring file sound).answer.refusal ≡ first (open_faults cipher ring file (length sound))
  unfolding opening_pack
  opening_refusal file sound = settled_number _ _ _ (λ (o : Outcome Opened ℤ). o.answer.refusal) refl (λ n. refl)

  pub sealing_refusal : (p : Parts) (output : List ℕ)
      → (sealing_pack cipher ring p output).answer.refusal
      ≡ first (seal_faults cipher p (length (layout cipher ring p)) (length output))
  unfolding sealing_pack
  sealing_refusal p output = settled_number _ _ _ (λ (o : Outcome Sealed ℕ). o.answer.refusal) refl (λ n. refl)

  -- a file that is opened breaks no rule, its tag is the one that is due, and its samples have room
  pub opening_right : (file : List ℕ) (sound : List ℤ) → (opening_pack cipher ring file sound).answer.refusal ≡ accepted
      → AllRight (file_faults cipher file) × Agrees cipher ring file × (sample_count cipher file ≤ length sound)
  unfolding open_faults keyed_faults file_faults faults_from_key faults_from_samples
  opening_right file sound e =
      let right = none_wrong (open_faults cipher ring file (length sound)) tt (sym (opening_refusal file sound) ∙ e) in
      let both = right_both (keyed_faults cipher ring file) (room_faults (sample_count cipher file)
      (length sound)) right in
      let shown = keyed_shown cipher ring file both.0 in
      (shown.0, shown.1, both.1.0)

  -- the outcome of an opening, and what it puts into hand
  module _ (file : List ℕ) (sound : List ℤ) (right : AllRight (file_faults cipher file))
      (agrees : Agrees cipher ring file) (room : sample_count cipher file ≤ length sound) where
    abbrev given : Parts
    given = parts_of cipher ring file

    abbrev done : Outcome Opened ℤ
    done = outcome (accepted_opening cipher file) (placed sound 0 given.samples)

    sized : length given.samples ≤ length sound
    sized = omega (arith, samples_counted cipher ring file right)

    is_done : opening_pack cipher ring file sound ≡ done
    is_done = opens cipher ring file sound given right agrees refl sized

    in_hand_lem : in_hand cipher file done ≡ given
    unfolding parts_of
    in_hand_lem =
        ap (λ (s : List ℤ). parts given.name given.key_number given.value s given.loops)
        (ap (λ (n : ℕ). take n (placed sound 0 given.samples)) (sym (samples_counted cipher ring file right))
        ∙ take_placed sound given.samples sized)

    opened_to : OpenedTo cipher given file sound done
    unfolding parts_of file_faults
    opened_to =
        record {
          taken = refl;
          name_count = sym (length_slice file 1 (name_count file) right.1.1.0);
          sample_count = sym (samples_counted cipher ring file right);
          loop_count = sym (many_read 4 (2 * loop_count cipher file) file (loops_place cipher file));
          same = in_hand_lem;
          written = refl;
        }

  -- an accepted file has opened to the parts that it gives
  pub opened_given : (file : List ℕ) (sound : List ℤ) → (opening_pack cipher ring file sound).answer.refusal ≡ accepted
      → OpenedTo cipher (parts_of cipher ring file) file sound (opening_pack cipher ring file sound)
  opened_given file sound e =
      let both = opening_right file sound e in
      subst (OpenedTo cipher (parts_of cipher ring file) file sound)
      (sym (is_done file sound both.0 both.1 both.2))
      (opened_to file sound both.0 both.1 both.2)

-- two files of which sealing gives the same outcome are the same
same_file : (xs ys output : List ℕ) → length xs ≤ length output → length ys ≤ length output
    → sealed_to xs output ≡ sealed_to ys output → xs ≡ ys
same_file xs ys output hx hy e =
    sym (take_placed output xs hx) ∙ ap (λ (o : Outcome Sealed ℕ). take o.answer.length o.buffer) e
    ∙ take_placed output ys hy

-- ---- under one cipher and its ring

module _ (kind : Kind) (r : Rings) where
  abbrev cipher : Cipher
  cipher = cipher_of kind

  abbrev ring : List (List ℕ)
  ring = ring_for kind r

  abbrev opening : List ℕ → List ℤ → Outcome Opened ℤ
  opening = opening_pack cipher ring

  abbrev bytes : (key value : List ℕ) → OfBytes (cipher.stream key value)
  bytes = cipher_bytes_lem kind

  opened_under : (file : List ℕ) (sound : List ℤ) → ((i : ℕ) → get_or file i 0 < 256)
      → let p = in_hand cipher file (opening file sound) in
      (opening file sound).answer.refusal ≡ accepted
      → OpenedTo cipher p file sound (opening file sound) × LaidUnder kind r p (plain_in kind r file) file
  opened_under file sound b e =
      let right = opening_right cipher ring file sound e in
      let given = opened_given cipher ring file sound e in
      subst
      (λ (p : Parts). OpenedTo cipher p file sound (opening file sound) × LaidUnder kind r p (plain_in kind r file) file)
      (sym given.same) (
        given,
        (
          parts_within cipher ring file right.0 b,
          laid_from cipher ring file right.0 b (bytes _ _) right.1,
        ),
      )

  resealed_under : (file output : List ℕ) (sound : List ℤ) → ((i : ℕ) → get_or file i 0 < 256)
      → length file ≤ length output
      → let same = sealing_file kind r (in_hand cipher file (opening file sound)) output ≡ sealed_to file output in
      (opening file sound).answer.refusal ≡ accepted
      → (NoLowest (plain_in kind r file) → same) × (same → NoLowest (plain_in kind r file))
  resealed_under file output sound b room e =
      let both = opening_right cipher ring file sound e in
      let right = sym (all_right _ both.0) in
      let agrees = both.1 in
      let p = parts_of cipher ring file in
      let again : sealing_file kind r (in_hand cipher file (opening file sound)) output
      ≡ sealed_to (layout cipher ring p) output =
      ap (λ (q : Parts). sealing_file kind r q output) (opened_given cipher ring file sound e).same
      ∙ opened_seals cipher ring bytes file b right agrees output room in (
        λ other. again ∙ ap (λ (f : List ℕ). sealed_to f output) (same_if cipher ring bytes file b right agrees other),
        λ same.
            only_if cipher ring bytes file b right agrees
            (same_file (layout cipher ring p) file output
            (omega (arith, same_size cipher ring bytes file b right agrees)) room
            (sym again ∙ same)),
      )

  -- what is laid out is opened, and as a file of this cipher; and what is opened so is laid out
  laid_opened : (file : List ℕ) (sound : List ℤ)
      → (p : Parts) × (plain : List ℕ) × LaidUnder kind r p plain file × (length p.samples ≤ length sound)
      → ((opening file sound).answer.refusal ≡ accepted) × (kind_in file ≡ kind)
  laid_opened file sound l =
      let laid = laid_accepted cipher (short_tag kind) ring l.0 l.1 file l.2.0 l.2.1 in (
        ap (λ (o : Outcome Opened ℤ). o.answer.refusal)
            (opens cipher ring file sound l.0 laid.0 laid.1 laid.2 l.3),
        kind_found kind file laid.0,
      )

  opened_laid : (file : List ℕ) (sound : List ℤ) → ((i : ℕ) → get_or file i 0 < 256)
      → (opening file sound).answer.refusal ≡ accepted
      → (p : Parts) × (plain : List ℕ) × LaidUnder kind r p plain file × (length p.samples ≤ length sound)
  opened_laid file sound b e =
      let right = opening_right cipher ring file sound e in (
        parts_of cipher ring file,
        plain_of cipher ring file,
        (
          parts_within cipher ring file right.0 b,
          laid_from cipher ring file right.0 b (bytes _ _) right.1,
        ),
        omega (arith, samples_counted cipher ring file right.0, right.2),
      )

-- ---- for callers: a file of this cipher is read under it

pub demand2 : (kind : Kind) (r : Rings) → Demand2 kind r
demand2 kind r =
    record {
      seals =
          λ p output w room.
          seals (cipher_of kind) (ring_for kind r) p output (within_sealed (cipher_of kind) p _ _ w room);
      sealed =
          λ p output sound values room e.
          let s = sealing_file kind r p output in
          let file = take s.answer.length s.buffer in
          let back = sealed_opens (cipher_of kind) (ring_for kind r) (short_tag kind) p output sound
          (sym (sealing_refusal (cipher_of kind) (ring_for kind r) p output) ∙ e) values room in
          let taken : (opening kind r file sound).answer.refusal ≡ accepted =
          ap (λ (o : Outcome Opened ℤ). o.answer.refusal) back.0 in
          let same = kind_found kind file (opening_right (cipher_of kind) (ring_for kind r) file sound taken).0 in
          subst (λ (k : Kind). OpenedTo (cipher_of kind) p file sound (opening k r file sound)) (sym same)
          (subst (λ (q : Parts). OpenedTo (cipher_of kind) q file sound (opening kind r file sound)) back.1
          (opened_given (cipher_of kind) (ring_for kind r) file sound taken));
      opened =
          λ file sound same b.
          subst
          (λ (k : Kind). let o = opening k r file sound in
          let p = in_hand (cipher_of kind) file o in
          o.answer.refusal ≡ accepted
          → OpenedTo (cipher_of kind) p file sound o × LaidUnder kind r p (plain_in kind r file) file) (sym same)
          (opened_under kind r file sound b);
      resealed =
          λ file output sound same b room.
          subst
          (λ (k : Kind). let o = opening k r file sound in
          let again = sealing_file kind r (in_hand (cipher_of kind) file o) output ≡ sealed_to file output in
          o.answer.refusal ≡ accepted
          → (NoLowest (plain_in kind r file) → again) × (again → NoLowest (plain_in kind r file))) (sym same)
          (resealed_under kind r file output sound b room);
      accepts =
          λ file sound b. (
            λ l.
                let taken = laid_opened kind r file sound l in (
                  subst (λ (k : Kind). (opening k r file sound).answer.refusal ≡ accepted) (sym taken.1) taken.0,
                  taken.1,
                ),
            λ taken.
                opened_laid kind r file sound b
                (subst (λ (k : Kind). (opening k r file sound).answer.refusal ≡ accepted) taken.1 taken.0),
          );
    }

-- with the ciphers of demand 1, the very ones that the contracts of opener and sealer cite
pub demand2_trivium : (r : Rings) → Demand2 Trivium r
demand2_trivium = demand2 Trivium

pub demand2_enocoro : (r : Rings) → Demand2 Enocoro r
demand2_enocoro = demand2 Enocoro

pub demand2_triad : (r : Rings) → Demand2 Triad r
demand2_triad = demand2 Triad
