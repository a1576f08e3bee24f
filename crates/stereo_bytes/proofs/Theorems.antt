-- A refused call leaves all that it was lent as it was. Both C calls for opening go by the same rules of the file and
-- of the answer's room, so that where one is done the other is, if frames are whole.
use mathlib.Core.{Path.◌≡◌, Path.refl, Path.sym, Path.ap, Path.ap₂, Path.◌∙◌, List.List, List.[], List.◌∷◌}
use Prim.Native.Nat.{ℕ, ◌%◌, ◌≤◌}
use native.Mathlib.Omega.{arith}
use lib.{IntN.ℤ, Ieee.Float, ListN.length, ListN.get_or, ListN.take}
use Rattle.octets.specs.{Buffers.placed, Stream.Cipher}
use Rattle.octets.proofs.Buffers.{take_placed}
use Rattle.refusals.specs.{Numbers.accepted, Numbers.no_room, Rules.AllRight, Rules.◌under◌, Rules.Fault, Rules.◌says◌}
use Rattle.refusals.specs.Rules.{Leaves}
use Rattle.refusals.proofs.Faults.{none_wrong, right_both, right_after}
use Rattle.refusals.proofs.Settled.{done_if, settled_number, settled_leaves, answer_done}
use Rattle.stereo.specs.Frames.{floats_of}
use Rattle.pack.specs.{Calls.accepted_opening, Ciphers.cipher_in, Ciphers.ring_in, Places.sample_count, Places.parts_of}
use Rattle.pack.specs.Faults.{faults_from_samples, faults_from_key, file_faults, keyed_faults, room_faults, open_faults}
use Rattle.pack.proofs.{AcceptedFiles.samples_counted, Theorems.keyed_shown}
use Rattle.rings.specs.Ring.{rings_of}
use Rattle.stereo_bodies.specs.Reading.{frames_faults}
use Rattle.stereo_opener.specs.Calls.{stereo_faults}
use Rattle.survey_bytes.specs.Calls.{answer_numbers, numbers_room}
use Rattle.pack_bytes.specs.Calls.{PackOpened, pack_opened, bytes_faults, pack_open}
use Rattle.stereo_bytes.specs.{Calls.pack_open_stereo, Framed.PackFramed}

pub pack_stereo_leaves : (file keys : List ℕ) (floats : List Float) (answer : List ℕ)
    → Leaves (λ o. o.number) (pack_opened floats answer) (pack_open_stereo file keys floats answer)
unfolding pack_open_stereo
pack_stereo_leaves file keys floats answer = settled_leaves _ _ _ (λ o. o.number) refl (λ n. refl)

module _ (file keys : List ℕ) (samples : List ℤ) (floats : List Float) (answer : List ℕ)
    (same : length samples ≡ length floats) (taken : (pack_open file keys samples answer).number ≡ accepted) where
  abbrev cipher : Cipher
  cipher = cipher_in file

  abbrev ring : List (List ℕ)
  ring = ring_in (rings_of keys) file

  abbrev n : ℕ
  n = sample_count cipher file

  abbrev run : List ℤ
  run = (parts_of cipher ring file).samples

  abbrev numbers : List ℕ
  numbers = placed answer 0 (answer_numbers (accepted_opening cipher file))

  abbrev rest : List Fault
  rest = (length answer under numbers_room says no_room) ∷ []

  opened : pack_open file keys samples answer ≡ pack_opened (placed samples 0 run) numbers accepted
  unfolding pack_open
  opened = answer_done _ _ _ (λ (o : PackOpened ℤ). o.number) refl (λ m. refl) refl taken

  right : AllRight (bytes_faults keys (open_faults cipher ring file (length samples)) (length answer))
  unfolding pack_open open_faults keyed_faults file_faults faults_from_key faults_from_samples
  right =
      none_wrong (bytes_faults keys (open_faults cipher ring file (length samples)) (length answer)) tt
      (sym (settled_number _ _ _ (λ (o : PackOpened ℤ). o.number) refl (λ m. refl)) ∙ taken)

  -- rule by rule: the keys, the file and its tag, room for its samples, and for the numbers
  both : AllRight (keyed_faults cipher ring file) × (n ≤ length samples) × AllRight rest
  unfolding open_faults
  both =
      let opens = right_both (open_faults cipher ring file (length samples)) rest right.1 in
      let keyed = right_both (keyed_faults cipher ring file) (room_faults n (length samples)) opens.0 in
      (keyed.0, keyed.1.0, opens.1)

  counted : length run ≡ n
  counted = samples_counted cipher ring file (keyed_shown cipher ring file both.0).0

  count : get_or (pack_open file keys samples answer).answer 0 0 ≡ n
  unfolding placed
  count = ap (λ (o : PackOpened ℤ). get_or o.answer 0 0) opened

  there : take (get_or (pack_open file keys samples answer).answer 0 0) (pack_open file keys samples answer).written ≡ run
  there =
      ap₂ (λ (m : ℕ) (o : PackOpened ℤ). take m o.written) (count ∙ sym counted) opened
      ∙ take_placed samples run (omega (arith, counted, both.1))

  framed : n % 2 ≡ 0
      → pack_open_stereo file keys floats answer ≡ pack_opened (placed floats 0 (floats_of run)) numbers accepted
  unfolding pack_open_stereo stereo_faults
  framed even =
      sym (done_if _ _ _ (
        right.0,
        right_after (stereo_faults cipher ring file (length floats)) rest
            (right_after (keyed_faults cipher ring file) (frames_faults n (length floats)) both.0
            (even, (omega (arith, both.1), tt)))
            both.2,
      ))

pub pack_framed : (file keys : List ℕ) → PackFramed file keys
pack_framed file keys samples floats answer same taken even =
    framed file keys samples floats answer same taken
    (ap (λ (m : ℕ). m % 2) (sym (count file keys samples floats answer same taken)) ∙ even)
    ∙ ap₂ (λ (l : List ℤ) (a : List ℕ). pack_opened (placed floats 0 (floats_of l)) a accepted)
    (sym (there file keys samples floats answer same taken))
    (sym (ap (λ (o : PackOpened ℤ). o.answer) (opened file keys samples floats answer same taken)))
