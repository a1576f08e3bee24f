-- What a pack file says of itself, written to runs that a caller lends: the numbers of its answer, and its loops.
use Rattle.std.specs.Prelude.{ℕ, ◌*◌, List, [], ◌∷◌, ◌++◌, length}
use Rattle.octets.specs.{Buffers.placed, Rows.numbers_at}
use Rattle.refusals.specs.{Numbers.accepted, Outcome.Outcome, Outcome.outcome, Rules.Fault, Rules.settled}
use Rattle.pack.specs.{Calls.accepted_opening, Calls.surveying_file, Ciphers.cipher_in, Faults.file_faults}
use Rattle.pack.specs.{Faults.room_faults, Layout.fours, Places.loop_count, Places.loops_place, Answers.Opened}
use Rattle.record_bytes.specs.Written.{Written, wrote}

-- ---- the answer's numbers, in the header's order

abbrev pub answer_numbers : Opened → List ℕ
answer_numbers o = o.samples ∷ o.key ∷ o.loops ∷ o.name_length ∷ o.name_at ∷ o.value_at ∷ o.loops_at ∷ []

abbrev pub numbers_room : ℕ
numbers_room = 7

abbrev pub pack_survey_faults : List ℕ → ℕ → List Fault
pack_survey_faults file answer = file_faults (cipher_in file) file ++ room_faults numbers_room answer

unfoldable pub pack_survey : List ℕ → List ℕ → Outcome ℕ ℕ
pack_survey file answer =
    settled (pack_survey_faults file (length answer))
    (outcome accepted (placed answer 0 (answer_numbers (accepted_opening (cipher_in file) file))))
    (λ number. outcome number answer)

-- ---- what a file lacks of the section in which it breaks off

unfoldable pub pack_lacks : List ℕ → ℕ
pack_lacks file = (surveying_file file).lacks

-- ---- the loops, starts and ends in turn, as sealing takes them

abbrev pub loop_numbers : List ℕ → ℕ
loop_numbers file = 2 * loop_count (cipher_in file) file

abbrev pub pack_loops_faults : List ℕ → ℕ → List Fault
pack_loops_faults file room = file_faults (cipher_in file) file ++ room_faults (loop_numbers file) room

-- `before` is what the count held
unfoldable pub pack_loops : List ℕ → List ℕ → ℕ → Written
pack_loops file loops before =
    let numbers = numbers_at (fours (loop_numbers file)) file (loops_place (cipher_in file) file) in
    settled (pack_loops_faults file (length loops))
    (wrote (placed loops 0 numbers) (loop_numbers file) accepted)
    (wrote loops before)
