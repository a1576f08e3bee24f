-- What the C call for opening counts is what it has read, and each sample that is read has an opposite.
use mathlib.Core.{Path.◌≡◌, Path.refl, Path.sym, Path.ap, Path.subst, Path.◌∙◌, List.List, List.[], List.◌∷◌}
use Prim.Native.Nat.{ℕ, ◌<◌}
use native.Mathlib.Omega.{arith}
use lib.{IntN.ℤ, IntN.pos, ListN.length, ListN.get_or}
use Rattle.octets.specs.Buffers.{placed}
use Rattle.refusals.specs.{Numbers.accepted, Numbers.no_room, Rules.AllRight, Rules.◌under◌, Rules.◌says◌}
use Rattle.refusals.proofs.Faults.{none_wrong, right_both}
use Rattle.refusals.proofs.Settled.{settled_number, answer_done}
use Rattle.samples.proofs.Words.{Good}
use Rattle.pack.specs.{Calls.accepted_opening, Ciphers.cipher_in, Ciphers.ring_in, Places.sample_count, Places.parts_of}
use Rattle.rings.specs.Ring.{rings_of}
use Rattle.pack.specs.Faults.{faults_from_samples, faults_from_key, file_faults, keyed_faults, room_faults, open_faults}
use Rattle.pack.proofs.AcceptedFiles.{samples_counted}
use Rattle.pack.proofs.Opposites.{front_at, good_opposite, given_good}
use Rattle.pack.proofs.Theorems.{keyed_shown}
use Rattle.survey_bytes.specs.Calls.{answer_numbers, numbers_room}
use Rattle.pack_bytes.specs.{Calls.PackOpened, Calls.pack_opened, Calls.bytes_faults, Calls.pack_open}
use Rattle.pack_bytes.specs.Opposites.{PackOpposites}

module _ (file keys : List ℕ) (samples : List ℤ) (answer : List ℕ)
    (taken : (pack_open file keys samples answer).number ≡ accepted) where
  abbrev run : List ℤ
  run = (parts_of (cipher_in file) (ring_in (rings_of keys) file) file).samples

  abbrev numbers : List ℕ
  numbers = answer_numbers (accepted_opening (cipher_in file) file)

  done : pack_open file keys samples answer ≡ pack_opened (placed samples 0 run) (placed answer 0 numbers) accepted
  unfolding pack_open
  done = answer_done _ _ _ (λ (o : PackOpened ℤ). o.number) refl (λ n. refl) refl taken

  right : AllRight (file_faults (cipher_in file) file)
  unfolding pack_open open_faults keyed_faults file_faults faults_from_key faults_from_samples
  right =
      let cipher = cipher_in file in
      let ring = ring_in (rings_of keys) file in
      let all = none_wrong (bytes_faults keys (open_faults cipher ring file (length samples)) (length answer)) tt
      (sym (settled_number _ _ _ (λ (o : PackOpened ℤ). o.number) refl (λ n. refl)) ∙ taken) in
      let own =
      (right_both (open_faults cipher ring file (length samples)) ((length answer under numbers_room says no_room) ∷ [])
      all.1).0 in
      let keyed =
      (right_both (keyed_faults cipher ring file) (room_faults (sample_count cipher file) (length samples)) own).0 in
      (keyed_shown cipher ring file keyed).0

  counted : get_or (pack_open file keys samples answer).answer 0 0 ≡ length run
  unfolding placed
  counted = ap (λ (o : PackOpened ℤ). get_or o.answer 0 0) done ∙ sym (samples_counted (cipher_in file) (ring_in
      (rings_of keys) file) file right)

  written_good : (i : ℕ) → i < length run → Good (get_or (pack_open file keys samples answer).written i (pos 0))
  written_good i h =
      subst Good (sym (ap (λ (o : PackOpened ℤ). get_or o.written i (pos 0)) done ∙ front_at samples run i h))
      (given_good (cipher_in file) (ring_in (rings_of keys) file) file i)

pub pack_opposites : (file keys : List ℕ) → PackOpposites file keys
pack_opposites file keys samples answer i taken h =
    good_opposite (get_or (pack_open file keys samples answer).written i (pos 0))
    (written_good file keys samples answer taken i (omega (arith, counted file keys samples answer taken)))
