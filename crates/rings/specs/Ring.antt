-- The rings of keys as bytes: four keys for each cipher, of which a pack's key number names one.
use Rattle.std.specs.Prelude.{ℕ, ◌+◌, ◌*◌, List, [], ◌∷◌, length, cond, eqb, Result, Ok, Err}
use Rattle.refusals.specs.{declared.Refusal.Refusal, declared.Refusal.TheVariants.BadKey}
use Rattle.octets.specs.Buffers.{slice}
use Rattle.trivium.specs.Keystream.{trivium}
use Rattle.enocoro.specs.Keystream.{enocoro}
use Rattle.triad.specs.Tag.{triad}
use Rattle.pack.specs.{Ciphers.rings, declared.Rings.Rings}

-- four keys of so many bytes each, which stand one after the other from `at`
unfoldable pub ring_at : ℕ → ℕ → List ℕ → List (List ℕ)
ring_at size at bytes =
    slice bytes at size ∷ slice bytes (at + size) size ∷ slice bytes (at + 2 * size) size
    ∷ slice bytes (at + 3 * size) size
    ∷ []

-- where the rings begin: Trivium's, then Enocoro's, then TRIAD's; and so many bytes in all
abbrev pub enocoro_place : ℕ
enocoro_place = 4 * trivium.key_bytes

abbrev pub triad_place : ℕ
triad_place = enocoro_place + 4 * enocoro.key_bytes

abbrev pub keys_bytes : ℕ
keys_bytes = triad_place + 4 * triad.key_bytes

abbrev pub rings_of : List ℕ → Rings
rings_of bytes =
    rings (ring_at trivium.key_bytes 0 bytes) (ring_at enocoro.key_bytes enocoro_place bytes)
    (ring_at triad.key_bytes triad_place bytes)

-- if all keys are lent
abbrev pub rings_in : List ℕ → Result Rings Refusal
rings_in keys = cond (eqb (length keys) keys_bytes) (Ok (rings_of keys)) (Err BadKey)
