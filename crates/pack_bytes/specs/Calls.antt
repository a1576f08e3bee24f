-- Opening and sealing with the rings of keys lent as one run of bytes, and the answer's numbers written to a lent run.
use Rattle.std.specs.Prelude.{ℕ, List, [], ◌∷◌, ◌++◌}
use lib.{IntN.ℤ, ListN.length}
use Rattle.octets.specs.Buffers.{placed}
use Rattle.refusals.specs.Numbers.{accepted, bad_key, no_room}
use Rattle.refusals.specs.Rules.{◌under◌, ◌unlike◌, Fault, ◌says◌, settled}
use Rattle.pack.specs.{Calls.accepted_opening, Layout.Parts, Places.parts_of, Answers.Opened}
use Rattle.pack.specs.Ciphers.{cipher_of, picked, cipher_in, ring_in}
use Rattle.pack.specs.{Demand2.file_of, Faults.own_count, Faults.open_faults, Faults.part_name_faults, Faults.other_faults}
use Rattle.pack.specs.Faults.{room_faults}
use Rattle.rings.specs.Ring.{rings_of, keys_bytes}
use Rattle.record_bytes.specs.Written.{Written, wrote}
use Rattle.survey_bytes.specs.Calls.{answer_numbers, numbers_room}

-- all keys are lent
abbrev pub keys_fault : List ℕ → Fault
keys_fault keys = length keys unlike keys_bytes says bad_key

-- ---- opening, as samples or as anything else

-- the number, what is written and the seven numbers
pub record PackOpened (A : Type 0) : Type 0 where
  pub number : ℕ
  pub written : List A
  pub answer : List ℕ

abbrev pub pack_opened : {A : Type 0} → List A → List ℕ → ℕ → PackOpened A
pack_opened written answer number = record { number = number; written = written; answer = answer }

-- the keys, then what opening has against the file and the room for what is written, then room for the seven numbers
abbrev pub bytes_faults : List ℕ → List Fault → ℕ → List Fault
bytes_faults keys opens answer = keys_fault keys ∷ (opens ++ ((answer under numbers_room says no_room) ∷ []))

-- `told` is what is answered, and `done` the output with what is written
abbrev pub bytes_opening : {A : Type 0} → List ℕ → List Fault → Opened → List A → List A → List ℕ → PackOpened A
bytes_opening keys opens told done output answer =
    settled (bytes_faults keys opens (length answer)) (pack_opened done (placed answer 0 (answer_numbers told)) accepted)
    (pack_opened output answer)

-- as samples
unfoldable pub pack_open : List ℕ → List ℕ → List ℤ → List ℕ → PackOpened ℤ
pack_open file keys samples answer =
    let cipher = cipher_in file in
    let ring = ring_in (rings_of keys) file in
    bytes_opening keys (open_faults cipher ring file (length samples)) (accepted_opening cipher file)
    (placed samples 0 (parts_of cipher ring file).samples) samples answer

-- ---- sealing

-- the sealer's own rules, and among them, behind the name, that the cipher is told by its key count
abbrev pub pack_seal_faults : ℕ → List ℕ → Parts → ℕ → ℕ → List Fault
pack_seal_faults count keys parts size room =
    let cipher = cipher_of (picked count) in
    keys_fault keys
    ∷ (part_name_faults parts.name ++ (own_count cipher count ∷ (other_faults cipher parts ++ room_faults size room)))

-- `before` is what the count held
unfoldable pub pack_seal : ℕ → List ℕ → Parts → List ℕ → ℕ → Written
pack_seal count keys parts output before =
    let file = file_of (picked count) (rings_of keys) parts in
    settled (pack_seal_faults count keys parts (length file) (length output))
    (wrote (placed output 0 file) (length file) accepted)
    (wrote output before)
