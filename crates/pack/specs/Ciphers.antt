-- The ciphers that a pack may be under. A file's key count tells which, and sealing is told; each has a ring of four
-- keys.
use Rattle.std.specs.Prelude.{ℕ, suc, eqb, Result, Ok, Err}
use mathlib.Core.{Bool.cond, List.List, Logic.◌⊎◌, Path.◌≡◌}
use Rattle.octets.specs.Stream.{Cipher}
use Rattle.refusals.specs.declared.Refusal.{Refusal, TheVariants.BadKeyCount}
use Rattle.trivium.specs.Keystream.{trivium}
use Rattle.enocoro.specs.Keystream.{enocoro}
use Rattle.triad.specs.Tag.{triad}
use Rattle.pack.specs.Places.{byte_at, key_place}
use Rattle.pack.specs.{declared.Kind.Kind, declared.Kind.TheVariants.Trivium}
use Rattle.pack.specs.declared.Kind.TheVariants.{Enocoro, Triad}
use Rattle.pack.specs.declared.Rings.{Rings}

abbrev pub cipher_of : Kind → Cipher
cipher_of Trivium = trivium
cipher_of Enocoro = enocoro
cipher_of Triad = triad

-- what a key section counts: its key number, and the bytes of an initial value
abbrev pub count_of : Kind → ℕ
count_of kind = suc (cipher_of kind).value_bytes

-- the cipher that a key count picks: Enocoro and TRIAD for their own; every other count is held to Trivium's
unfoldable pub picked : ℕ → Kind
picked count = cond (eqb count (count_of Enocoro)) Enocoro (cond (eqb count (count_of Triad)) Triad Trivium)

-- the cipher whose own count it is, if there is one: any other count is refused
unfoldable pub named_by : ℕ → Result Kind Refusal
named_by count = cond (eqb count (count_of (picked count))) (Ok (picked count)) (Err BadKeyCount)

-- so a count that isn't refused, being that of the cipher that it picks, is one of these three; and these are
abbrev pub Admitted : ℕ → Type 0
Admitted count =
    let own = count ≡ count_of (picked count) in
    let any = (count ≡ count_of Trivium) ⊎ ((count ≡ count_of Enocoro) ⊎ (count ≡ count_of Triad)) in
    (own → any) × (any → own)

-- and the one that a file is under
abbrev pub kind_in : List ℕ → Kind
kind_in file = picked (byte_at file (key_place file))

abbrev pub cipher_in : List ℕ → Cipher
cipher_in file = cipher_of (kind_in file)

abbrev pub rings : List (List ℕ) → List (List ℕ) → List (List ℕ) → Rings
rings first second third = record { of_trivium = first; of_enocoro = second; of_triad = third }

abbrev pub ring_for : Kind → Rings → List (List ℕ)
ring_for Trivium r = r.of_trivium
ring_for Enocoro r = r.of_enocoro
ring_for Triad r = r.of_triad

abbrev pub ring_in : Rings → List ℕ → List (List ℕ)
ring_in r file = ring_for (kind_in file) r
