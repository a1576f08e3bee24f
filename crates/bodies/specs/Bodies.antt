-- Where a pack's body begins: its cipher's keystream, under the key of its ring that a key number names.
use Rattle.std.specs.Prelude.{ℕ, ◌+◌, List, ◌∷◌, Result, Ok, Err}
use Rattle.octets.specs.{Buffers.slice, Stream.Cipher, Stream.Keystream}
use Rattle.refusals.specs.{Numbers.accepted, Numbers.bad_key_number, Answers.number_of, declared.Refusal.Refusal}
use Rattle.refusals.specs.Rules.{◌over◌, Fault, ◌says◌, settled}
use Rattle.ciphers.specs.Calls.{value_faults, make_faults}
use Rattle.trivium.specs.Calls.{blank}
use Rattle.chunks.specs.{Ahead.ahead, declared.Cipher.TheVariants.Trivium}
use Rattle.chunks.specs.declared.Cipher as chunks
use Rattle.pack.specs.Ciphers.{cipher_of, picked, ring_for}
use Rattle.pack.specs.declared.Rings.{Rings}
use Rattle.pack.specs.{Layout.key_named, Limits.last_key, Places.byte_at, declared.Kind.Kind}

-- 14, and 2
abbrev pub body_faults : Kind → ℕ → List ℕ → List Fault
body_faults kind number value = (number over last_key says bad_key_number) ∷ value_faults (cipher_of kind) value

abbrev pub stream_for : Kind → Rings → ℕ → List ℕ → Keystream
stream_for kind r number value = (cipher_of kind).stream (key_named (ring_for kind r) number) value

-- the number for no, and the keystream: of a refused beginning, that of a refused making
pub record Ready : Type 0 where
  pub refusal : ℕ
  pub stream : Keystream

abbrev pub ready : ℕ → Keystream → Ready
ready refusal stream = record { refusal = refusal; stream = stream }

abbrev pub refused_beginning : ℕ → Ready
refused_beginning number = ready number (ahead (Trivium blank))

-- what an Ok or an Err stands for
abbrev pub begun : Result chunks.Cipher Refusal → Ready
begun (Ok cipher) = ready accepted (ahead cipher)
begun (Err refusal) = refused_beginning (number_of refusal)

-- a cipher made of any key and initial value
abbrev pub made_by : Cipher → List ℕ → List ℕ → Ready
made_by cipher key value =
    settled (make_faults cipher key value) (ready accepted (cipher.stream key value)) refused_beginning

unfoldable pub beginning : Kind → Rings → ℕ → List ℕ → Ready
beginning kind r number value =
    settled (body_faults kind number value) (ready accepted (stream_for kind r number value)) refused_beginning

-- by a file's key section, which begins at `at`
unfoldable pub beginning_from : Rings → List ℕ → ℕ → Ready
beginning_from r file at =
    let kind = picked (byte_at file at) in
    beginning kind r (byte_at file (at + 1)) (slice file (at + 2) (cipher_of kind).value_bytes)
