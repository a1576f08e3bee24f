-- A cipher that the caller keeps as bytes, whatever cipher it is: its own refusals, and before them bytes that are no record
-- of it.
use Rattle.std.specs.Prelude.{ℕ, ◌+◌, ◌≤◌, length, take, drop}
use mathlib.Core.{Path.◌≡◌, List.List, List.◌∷◌, List.◌++◌}
use Rattle.octets.specs.{Buffers.placed, Stream.Keystream, Stream.enciphered}
use Rattle.refusals.specs.{Numbers.accepted, Numbers.not_a_cipher}
use Rattle.refusals.specs.Rules.{◌unlike◌, Fault, ◌says◌, settled}
use Rattle.ciphers.specs.Calls.{encipher_faults}

-- the number, the record and the output
pub record Ciphered : Type 0 where
  pub number : ℕ
  pub cipher : List ℕ
  pub output : List ℕ

abbrev pub ciphered : List ℕ → List ℕ → ℕ → Ciphered
ciphered cipher output number = record { number = number; cipher = cipher; output = output }

abbrev pub kept_faults : ℕ → List ℕ → List ℕ → List ℕ → List Fault
kept_faults size cipher input output = (length cipher unlike size says not_a_cipher) ∷ encipher_faults input output

-- Enciphering from a record of this size: `read` is the record that bytes are, and `bytes` are a record's. Keystream and
-- moving on are as in `enciphersBy`.
abbrev pub kept_enciphering : {Record : Type 0} → ℕ → (List ℕ → Record) → (Record → List ℕ) → (Record → Keystream)
    → (Record → ℕ → Record)
    → List ℕ → List ℕ → List ℕ → Ciphered
kept_enciphering size read bytes stream moved cipher input output =
    let r = read cipher in
    settled (kept_faults size cipher input output)
    (ciphered (bytes (moved r (length input))) (placed output 0 (enciphered (stream r) input)) accepted)
    (ciphered cipher output)

-- a stream taken in two calls, the second on the bytes that the first leaves, is the stream taken in one
abbrev pub KeptInTwo : ℕ → (List ℕ → List ℕ → List ℕ → Ciphered) → Type 0
KeptInTwo size encipher =
    (cipher xs ys output : List ℕ) → length cipher ≡ size → length xs + length ys ≤ length output
    → let first = encipher cipher xs output in
    let second = encipher first.cipher ys (drop (length xs) first.output) in
    encipher cipher (xs ++ ys) output
    ≡ ciphered second.cipher (take (length xs) first.output ++ second.output) second.number
