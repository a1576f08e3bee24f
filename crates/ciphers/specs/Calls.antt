-- What the calls of every cipher owe alike: which keys and initial values it is made of, and how it enciphers.
use Rattle.std.specs.Prelude.{ℕ, ◌+◌, ◌≤◌, length, take, drop}
use mathlib.Core.{Path.◌≡◌, List.List, List.[], List.◌∷◌, List.◌++◌}
use Rattle.octets.specs.{Buffers.placed, Stream.Cipher, Stream.Keystream, Stream.enciphered}
use Rattle.refusals.specs.Numbers.{accepted, bad_key, bad_value, no_room}
use Rattle.refusals.specs.{Outcome.Outcome, Outcome.outcome}
use Rattle.refusals.specs.Rules.{Fault, ◌over◌, ◌unlike◌, ◌says◌, settled}

-- an initial value of another length, for one who has a key of the right one
abbrev pub value_faults : Cipher → List ℕ → List Fault
value_faults cipher iv = (length iv unlike cipher.value_bytes says bad_value) ∷ []

abbrev pub make_faults : Cipher → List ℕ → List ℕ → List Fault
make_faults cipher key iv = (length key unlike cipher.key_bytes says bad_key) ∷ value_faults cipher iv

abbrev pub encipher_faults : List ℕ → List ℕ → List Fault
encipher_faults input output = (length input over length output says no_room) ∷ []

-- The bytes under the keystream where they stand, and the record behind them.
abbrev pub covers_by : {Record : Type 0} → (Record → Keystream) → (Record → ℕ → Record)
    → Record → List ℕ → Outcome Record ℕ
covers_by stream moved r bytes = outcome (moved r (length bytes)) (enciphered (stream r) bytes)

-- The bytes under the keystream, at the front of the output. A record stands at some place of its keystream, and can be
-- moved on by so many bytes; the answer holds a number and a record.
abbrev pub enciphers_by : {Record Answer : Type 0} → (ℕ → Record → Answer) → (Record → Keystream)
    → (Record → ℕ → Record)
    → Record → List ℕ → List ℕ → Outcome Answer ℕ
enciphers_by answer stream moved r input output =
    settled (encipher_faults input output)
    (outcome (answer accepted (moved r (length input))) (placed output 0 (enciphered (stream r) input)))
    (λ number. outcome (answer number r) output)

-- ---- what two calls come to, for a call that enciphers from a record

-- A stream taken in two calls, the second at the place where the first stopped, is the stream taken in one. `next` is
-- the record in an answer.
abbrev pub TakenInTwo : {Record Answer : Type 0} → (Answer → Record)
    → (Record → List ℕ → List ℕ → Outcome Answer ℕ) → Type 0
TakenInTwo {Record} next encipher =
    (r : Record) (xs ys output : List ℕ) → length xs + length ys ≤ length output
    → let first = encipher r xs output in
    let second = encipher (next first.answer) ys (drop (length xs) first.buffer) in
    encipher r (xs ++ ys) output ≡ outcome second.answer (take (length xs) first.buffer ++ second.buffer)

-- To encipher twice from the same record is to have the bytes back.
abbrev pub GivesBack : {Record Answer : Type 0} → (Record → List ℕ → List ℕ → Outcome Answer ℕ) → Type 0
GivesBack {Record} encipher =
    (r : Record) (input output other : List ℕ) → length input ≤ length output → length input ≤ length other
    → let sent = take (length input) (encipher r input output).buffer in
    take (length input) (encipher r sent other).buffer ≡ input
