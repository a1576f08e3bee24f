-- A refused call leaves all that it was lent as it was. Survey and loops tell what opening tells: all are settled by
-- the same rules of the file.
use mathlib.Core.{Path.◌≡◌, Path.refl, Path.sym, Path.ap, Path.subst, Path.◌∙◌}
use mathlib.Core.List.{List, [], ◌∷◌, ◌++◌, append_assoc}
use Prim.Native.Nat.{ℕ}
use native.Mathlib.Omega.{arith}
use lib.{IntN.ℤ, ListN.length, ListN.take}
use Rattle.octets.specs.{Buffers.placed, Rows.numbers_at}
use Rattle.octets.proofs.{Buffers.take_placed, Rows.many_read}
use Rattle.refusals.specs.{Numbers.accepted, Numbers.bad_key, Numbers.no_room, Outcome.Outcome}
use Rattle.refusals.specs.{Outcome.outcome, Rules.◌under◌, Rules.◌unlike◌, Rules.Fault, Rules.◌says◌, Rules.first}
use Rattle.refusals.specs.Rules.{Leaves}
use Rattle.refusals.proofs.Faults.{none_wrong, right_both, right_after, rule_passes, Each, by_verdict}
use Rattle.refusals.proofs.Settled.{done_if, settled_number, settled_leaves, answer_done}
use Rattle.pack.specs.Faults.{faults_from_samples, faults_from_key, file_faults, tag_faults, keyed_faults, room_faults}
use Rattle.pack.specs.Faults.{open_faults}
use Rattle.pack.specs.{Calls.surveying_file, Ciphers.cipher_in, Ciphers.ring_in, Cuts.CutsLack, Layout.Parts}
use Rattle.pack.specs.{Layout.fours, Places.sample_count, Places.loops_place, Places.parts_of}
use Rattle.rings.specs.Ring.{rings_of, keys_bytes}
use Rattle.pack.proofs.{Cuts.NoFour, Cuts.lacks_behind, Theorems.keyed_shown}
use Rattle.record_bytes.specs.Written.{Written, wrote}
use Rattle.survey_bytes.specs.Calls.{numbers_room, pack_survey, pack_lacks, loop_numbers, pack_loops_faults, pack_loops}
use Rattle.survey_bytes.proofs.Theorems.{loops_of_parts}
use Rattle.pack_bytes.specs.{Calls.PackOpened, Calls.pack_opened, Calls.bytes_faults, Calls.pack_open}
use Rattle.pack_bytes.specs.{Calls.pack_seal, Told.ToldAlike}

pub pack_open_leaves : (file keys : List ℕ) (samples : List ℤ) (answer : List ℕ)
    → Leaves (λ o. o.number) (pack_opened samples answer) (pack_open file keys samples answer)
unfolding pack_open
pack_open_leaves file keys samples answer = settled_leaves _ _ _ (λ o. o.number) refl (λ n. refl)

pub pack_seal_leaves : (count : ℕ) (keys : List ℕ) (p : Parts) (output : List ℕ) (before : ℕ)
    → Leaves (λ w. w.number) (wrote output before) (pack_seal count keys p output before)
unfolding pack_seal
pack_seal_leaves count keys p output before = settled_leaves _ _ _ (λ w. w.number) refl (λ n. refl)

survey_told : (file keys : List ℕ) (samples : List ℤ) (answer : List ℕ)
    → (pack_open file keys samples answer).number ≡ accepted
    → pack_survey file answer ≡ outcome accepted (pack_open file keys samples answer).answer
unfolding pack_open pack_survey open_faults keyed_faults file_faults faults_from_key faults_from_samples
survey_told file keys samples answer z =
    let cipher = cipher_in file in
    let ring = ring_in (rings_of keys) file in
    let right = none_wrong (bytes_faults keys (open_faults cipher ring file (length samples)) (length answer)) tt
    (sym (settled_number _ _ _ (λ (o : PackOpened ℤ). o.number) refl (λ n. refl)) ∙ z) in
    let both =
    right_both (open_faults cipher ring file (length samples)) ((length answer under numbers_room says no_room) ∷ [])
    right.1 in
    let keyed =
    right_both (keyed_faults cipher ring file) (room_faults (sample_count cipher file) (length samples)) both.0 in
    let own = keyed_shown cipher ring file keyed.0 in
    sym
    (done_if _ _ _
    (right_after (file_faults (cipher_in file) file) (room_faults numbers_room (length answer)) own.0 (both.1.0, tt)))
    ∙ ap (λ (o : PackOpened ℤ). outcome accepted o.answer)
    (sym (answer_done _ _ _ (λ (o : PackOpened ℤ). o.number) refl (λ n. refl) refl z))

loops_told : (file keys run : List ℕ) (before : ℕ) → (pack_loops file run before).number ≡ accepted
    → take (pack_loops file run before).count (pack_loops file run before).buffer
    ≡ (parts_of (cipher_in file) (ring_in (rings_of keys) file) file).loops
unfolding pack_loops file_faults faults_from_key faults_from_samples
loops_told file keys run before z =
    let n : ℕ = loop_numbers file in
    let numbers : List ℕ = numbers_at (fours n) file (loops_place (cipher_in file) file) in
    let right = none_wrong (pack_loops_faults file (length run)) tt
    (sym (settled_number _ _ _ (λ (w : Written). w.number) refl (λ n. refl)) ∙ z) in
    let room = (right_both (file_faults (cipher_in file) file) (room_faults n (length run)) right).1.0 in
    let size = many_read 4 n file (loops_place (cipher_in file) file) in
    ap (λ (w : Written). take w.count w.buffer)
    (answer_done _ _ _ (λ (w : Written). w.number) refl (λ n. refl) refl z)
    ∙ ap (λ (k : ℕ). take k (placed run 0 numbers)) (sym size)
    ∙ take_placed run numbers (omega arith)
    ∙ loops_of_parts (ring_in (rings_of keys) file) file

-- rules that have none of the four numbers for a cut, as those of rooms and of the tag
abbrev Other : ℕ → ℕ → Type 0
Other number lacks = NoFour number

other_numbers : (faults : List Fault) → Each Other faults → NoFour (first faults)
other_numbers = by_verdict Other (λ h. omega arith)

cut_survey : (file answer : List ℕ) → CutsLack (pack_survey file answer).answer (pack_lacks file)
unfolding pack_survey pack_lacks
cut_survey file answer =
    subst (λ (n : ℕ). CutsLack n (surveying_file file).lacks)
    (sym (settled_number _ _ _ (λ (o : Outcome ℕ ℕ). o.answer) refl (λ n. refl)))
    (lacks_behind (cipher_in file) file (room_faults numbers_room (length answer)) (other_numbers _
    (λ _ h. omega arith, tt)))

cut_open : (file keys : List ℕ) (samples : List ℤ) (answer : List ℕ) → length keys ≡ keys_bytes
    → CutsLack (pack_open file keys samples answer).number (pack_lacks file)
unfolding pack_open pack_lacks open_faults keyed_faults
cut_open file keys samples answer right =
    let cipher = cipher_in file in
    let tag : List Fault = tag_faults cipher (ring_in (rings_of keys) file) file in
    let some : List Fault = room_faults (sample_count cipher file) (length samples) in
    let rest : List Fault = (length answer under numbers_room says no_room) ∷ [] in
    subst (λ (n : ℕ). CutsLack n (surveying_file file).lacks)
    (sym
    (settled_number _ _ _ (λ (o : PackOpened ℤ). o.number) refl (λ n. refl)
    ∙ sym (rule_passes (length keys unlike keys_bytes says bad_key) _ right)
    ∙ ap (λ (l : List Fault). first (l ++ rest)) (append_assoc (file_faults cipher file) tag some)
    ∙ ap first (append_assoc (file_faults cipher file) (tag ++ some) rest)))
    (lacks_behind cipher file ((tag ++ some) ++ rest)
    (other_numbers _ (λ _ h. omega arith, (λ _ h. omega arith, (λ _ h. omega arith, tt)))))

pub told_alike : (file keys : List ℕ) → ToldAlike file keys
told_alike file keys =
    record {
      numbers = survey_told file keys;
      loops = loops_told file keys;
      cut = cut_survey file;
      cut_opening = cut_open file keys;
    }
