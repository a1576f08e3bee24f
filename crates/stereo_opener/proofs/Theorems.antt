-- Opening as frames goes by the rules of opening as samples, with one more, and writes what is made of the same samples.
-- From the floats they can be had back, since each is within 16 bits.
use mathlib.Core.{Path.◌≡◌, Path.refl, Path.sym, Path.ap, Path.ap₂, Path.◌∙◌, Logic.◌≢◌, Logic.⊎_elim}
use mathlib.Core.{Bool.Bool, Bool.true, Bool.false, List.List, List.map, List.◌++◌}
use Prim.Native.Nat.{ℕ, ◌%◌, ◌≤◌}
use native.Mathlib.Omega.{arith}
use borrow.Author.Tests.{eqb-true, eqb-false}
use lib.{IntN.ℤ, IntN.pos, IntN.nat_abs, Ieee.Float, Dec.eqb, ListN.length, ListN.get_or, ListN.take}
use Rattle.octets.specs.{Buffers.placed, Stream.Cipher}
use Rattle.octets.proofs.Buffers.{take_placed}
use Rattle.refusals.specs.{Numbers.accepted, Numbers.no_room, Numbers.odd_samples, Outcome.Outcome, Outcome.outcome}
use Rattle.refusals.specs.Rules.{AllRight, Fault, first, Leaves}
use Rattle.refusals.specs.Rules.{Verdict}
use Rattle.refusals.proofs.Faults.{all_right, none_wrong, right_both, right_after, refused_at, verdict_right}
use Rattle.refusals.proofs.Settled.{done_if, settled_left, settled_number, settled_leaves, first_here, first_later}
use Rattle.stereo.specs.{Levels.sample_at, Frames.floats_of}
use Rattle.stereo.proofs.Frames.{length_floats, samples_back}
use Rattle.trivium.specs.Keystream.{trivium}
use Rattle.enocoro.specs.Keystream.{enocoro}
use Rattle.triad.specs.Tag.{triad}
use Rattle.pack.specs.Calls.{refused_opening, accepted_opening, lacks_of, opening_pack}
use Rattle.pack.specs.{Ciphers.cipher_in, declared.Rings.Rings, Ciphers.ring_in, Places.sample_count, Places.parts_of}
use Rattle.pack.specs.Faults.{faults_from_samples, faults_from_key, file_faults, keyed_faults, room_faults, open_faults}
use Rattle.pack.specs.Answers.{Opened}
use Rattle.pack.proofs.AcceptedFiles.{samples_counted}
use Rattle.pack.proofs.{Opposites.given_good, Theorems.keyed_numbered, Theorems.keyed_shown, Theorems.room_or_not}
use Rattle.stereo_bodies.specs.Reading.{frames_faults}
use Rattle.stereo_opener.specs.Calls.{stereo_faults, opening_stereo}
use Rattle.stereo_opener.specs.Framed.{Framed}

module _ (cipher : Cipher) (ring : List (List ℕ)) (file : List ℕ) (sound : List ℤ) (output : List Float)
    (same : length sound ≡ length output) where
  abbrev o : Outcome Opened ℤ
  o = opening_pack cipher ring file sound

  abbrev s : Outcome Opened Float
  s = opening_stereo cipher ring file output

  abbrev keyed : List Fault
  keyed = keyed_faults cipher ring file

  abbrev n : ℕ
  n = sample_count cipher file

  abbrev run : List ℤ
  run = (parts_of cipher ring file).samples

  -- ---- a file that one of the two accepts

  number : o.answer.refusal ≡ first (keyed ++ room_faults n (length sound))
  unfolding opening_pack open_faults
  number = settled_number _ _ _ (λ (x : Outcome Opened ℤ). x.answer.refusal) refl (λ m. refl)

  stereo_number : s.answer.refusal ≡ first (keyed ++ frames_faults n (length output))
  unfolding opening_stereo stereo_faults
  stereo_number = settled_number _ _ _ (λ (x : Outcome Opened Float). x.answer.refusal) refl (λ m. refl)

  module _ (right : AllRight keyed) (room : n ≤ length sound) where
    opened : o ≡ outcome (accepted_opening cipher file) (placed sound 0 run)
    unfolding opening_pack open_faults
    opened = sym (done_if _ _ _ (right_after keyed (room_faults n (length sound)) right (room, tt)))

    counted : length run ≡ n
    counted = samples_counted cipher ring file (keyed_shown cipher ring file right).0

    samples_there : take o.answer.samples o.buffer ≡ run
    samples_there =
        ap (λ (x : Outcome Opened ℤ). take x.answer.samples x.buffer) opened
        ∙ ap (λ (m : ℕ). take m (placed sound 0 run)) (sym counted)
        ∙ take_placed sound run (omega (arith, counted))

    framed : n % 2 ≡ 0 → s ≡ outcome (accepted_opening cipher file) (placed output 0 (floats_of run))
    unfolding opening_stereo stereo_faults
    framed even =
        sym (done_if _ _ _ (right_after keyed (frames_faults n (length output)) right (even, (omega arith, tt))))

    frames : n % 2 ≡ 0
        → s ≡ outcome o.answer (placed output 0 (floats_of (take o.answer.samples o.buffer)))
    frames even =
        framed even
        ∙ ap₂ (λ (a : Opened) (l : List ℤ). outcome a (placed output 0 (floats_of l)))
        (sym (ap (λ (x : Outcome Opened ℤ). x.answer) opened)) (sym samples_there)

    within : (i : ℕ) → nat_abs (get_or run i (pos 0)) ≤ 32768
    within i = omega (arith, given_good cipher ring file i)

    back : n % 2 ≡ 0
        → map sample_at (take s.answer.samples s.buffer) ≡ take o.answer.samples o.buffer
    back even =
        let floats : List Float = floats_of run in
        let long : length floats ≡ n = length_floats run ∙ omega (arith, counted) in
        ap (λ (x : Outcome Opened Float). map sample_at (take x.answer.samples x.buffer)) (framed even)
        ∙ ap (λ (m : ℕ). map sample_at (take m (placed output 0 floats))) (sym long)
        ∙ ap (map sample_at) (take_placed output floats (omega arith))
        ∙ samples_back run (ap (λ (m : ℕ). m % 2) counted ∙ even) within
        ∙ sym samples_there

    odd : n % 2 ≢ 0 → s ≡ outcome (refused_opening 0 odd_samples) output
    unfolding opening_stereo stereo_faults
    odd uneven =
        let none : lacks_of cipher file ≡ 0 =
        sym (ap (λ (v : Verdict). v.lacks) (verdict_right _ (keyed_shown cipher ring file right).0)) in
        sym (settled_left _ _ _ odd_samples (omega arith)
        (refused_at 0 (frames_faults n (length output)) uneven
        ∙ first_later keyed _ (keyed_numbered cipher ring file) (all_right keyed right)))
        ∙ ap (λ (m : ℕ). outcome (refused_opening m odd_samples) output) none

  -- ---- by what was answered

  taken : o.answer.refusal ≡ accepted → AllRight keyed × (n ≤ length sound)
  unfolding keyed_faults file_faults faults_from_key faults_from_samples
  taken e =
      let both = right_both keyed (room_faults n (length sound)) (none_wrong _ tt (sym number ∙ e)) in
      (both.0, both.1.0)

  stereo_taken : s.answer.refusal ≡ accepted → AllRight keyed × (n ≤ length sound) × (n % 2 ≡ 0)
  unfolding keyed_faults file_faults faults_from_key faults_from_samples
  stereo_taken e =
      let both = right_both keyed (frames_faults n (length output)) (none_wrong _ tt (sym stereo_number ∙ e)) in
      (both.0, omega (arith, both.1.1.0), both.1.0)

  count : o.answer.refusal ≡ accepted → o.answer.samples ≡ n
  count e = ap (λ (x : Outcome Opened ℤ). x.answer.samples) (opened (taken e).0 (taken e).1)

  -- a fault of the file itself comes before all others, in both
  own_fault : (m : ℕ) → m ≢ accepted → m ≡ first keyed → s ≡ outcome o.answer output
  unfolding opening_pack open_faults opening_stereo stereo_faults
  own_fault m wrong e =
      let lacks : ℕ = lacks_of cipher file in
      let here : (later : List Fault) → m ≡ first (keyed ++ later) =
      λ later. first_here keyed later (keyed_numbered cipher ring file) m wrong e in
      sym (settled_left _ _ (λ k. outcome (refused_opening lacks k) output) m wrong (here _))
      ∙ ap (λ (x : Outcome Opened ℤ). outcome x.answer output)
      (settled_left _ _ (λ k. outcome (refused_opening lacks k) sound) m wrong (here _))

  refused : o.answer.refusal ≢ accepted → o.answer.refusal ≢ no_room → s ≡ outcome o.answer output
  refused wrong other = go (eqb (first keyed) accepted) refl
    where
      go : (b : Bool) → eqb (first keyed) accepted ≡ b → s ≡ outcome o.answer output
      go false e = own_fault (first keyed) (eqb-false (first keyed) accepted e) refl
      go true e =
          let later = number
          ∙ sym (first_later keyed (room_faults n (length sound)) (keyed_numbered cipher ring file)
          (sym (eqb-true (first keyed) accepted e))) in
          absurd (⊎_elim (λ a. wrong (later ∙ a)) (λ a. other (later ∙ a)) (room_or_not n (length sound)))

pub framed_as : (pick : List ℕ → Cipher) (ring : List ℕ → List (List ℕ)) → Framed pick ring
framed_as pick ring =
    record {
      frames =
          λ file sound output same e even.
          let right = taken (pick file) (ring file) file sound output same e in
          frames (pick file) (ring file) file sound output same right.0 right.1
          (ap (λ (m : ℕ). m % 2) (sym (count (pick file) (ring file) file sound output same e)) ∙ even);
      back =
          λ file sound output same e.
          let right = stereo_taken (pick file) (ring file) file sound output same e in
          back (pick file) (ring file) file sound output same right.0 right.1 right.2;
      odd =
          λ file sound output same e uneven.
          let right = taken (pick file) (ring file) file sound output same e in
          odd (pick file) (ring file) file sound output same right.0 right.1
          (λ even. uneven (ap (λ (m : ℕ). m % 2) (count (pick file) (ring file) file sound output same e) ∙ even));
      refused =
          λ file sound output same wrong other.
          refused (pick file) (ring file) file sound output same wrong other;
    }

pub framed_trivium : (ring : List (List ℕ)) → Framed (λ file. trivium) (λ file. ring)
framed_trivium ring = framed_as (λ file. trivium) (λ file. ring)

pub framed_enocoro : (ring : List (List ℕ)) → Framed (λ file. enocoro) (λ file. ring)
framed_enocoro ring = framed_as (λ file. enocoro) (λ file. ring)

pub framed_triad : (ring : List (List ℕ)) → Framed (λ file. triad) (λ file. ring)
framed_triad ring = framed_as (λ file. triad) (λ file. ring)

-- for callers, under the cipher that a file is under
pub framed_picked : (r : Rings) → Framed cipher_in (ring_in r)
framed_picked r = framed_as cipher_in (ring_in r)

-- a refused call leaves the output as it was
pub stereo_leaves : (cipher : Cipher) (ring : List (List ℕ)) (file : List ℕ) (output : List Float)
    → Leaves (λ o. o.answer.refusal) (λ n. outcome (refused_opening (lacks_of cipher file) n) output)
    (opening_stereo cipher ring file output)
unfolding opening_stereo
stereo_leaves cipher ring file output = settled_leaves _ _ _ (λ o. o.answer.refusal) refl (λ n. refl)
