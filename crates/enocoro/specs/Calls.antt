-- What each public call owes: its answer, and what a lent buffer holds afterwards, for every input.
use Rattle.std.specs.Prelude.{ℕ, List}
use Rattle.octets.specs.Stream.{Keystream}
use Rattle.ciphers.specs.Calls.{make_faults, covers_by, enciphers_by}
use Rattle.refusals.specs.{Answers.Answer, Answers.answer, Numbers.accepted, Outcome.Outcome}
use Rattle.refusals.specs.Rules.{settled}
use Rattle.enocoro.specs.{Keystream.keystream, Keystream.enocoro, Record.state, Record.packed}
use Rattle.enocoro.specs.State.{next, rounds, loaded, blanks, warm_up, started}
use Rattle.enocoro.specs.{declared.Registers.Registers, declared.Rounded.Rounded}

-- what a refused making leaves
abbrev pub blank : Registers
blank = record { a0 = 0; a1 = 0; b0 = 0; b1 = 0; b2 = 0; b3 = 0 }

-- key and initial value in their places, before any round
unfoldable pub loading : List ℕ → List ℕ → Answer Registers
loading key iv =
    settled (make_faults enocoro key iv) (answer accepted (packed (loaded key iv))) (λ number. answer number blank)

unfoldable pub making_cipher : List ℕ → List ℕ → Answer Registers
making_cipher key iv =
    settled (make_faults enocoro key iv) (answer accepted (packed (started key iv))) (λ number. answer number blank)

-- one byte and one round
unfoldable pub rounding : Registers → Rounded
rounding r = record { byte = (state r).a1; next = packed (next (state r)) }

-- all rounds before the keystream begins
unfoldable pub warming : Registers → Registers
warming r = packed (blanks warm_up 1 (state r))

-- whole bytes passed over
unfoldable pub skipping : Registers → ℕ → Registers
skipping r bytes = packed (rounds bytes (state r))

-- the keystream from the place where the record stands
abbrev pub ahead : Registers → Keystream
ahead r = keystream (state r)

-- bytes under the keystream where they stand
abbrev pub covering : Registers → List ℕ → Outcome Registers ℕ
covering = covers_by ahead skipping

-- the bytes under the keystream, at the front of the output
unfoldable pub enciphering : Registers → List ℕ → List ℕ → Outcome (Answer Registers) ℕ
enciphering = enciphers_by answer ahead skipping
