-- What the records of both link ends begin with, as bytes: key, pair name, session and the sound's length.
use mathlib.Core.{Path.◌≡◌, List.List, List.[], List.◌∷◌, List.◌++◌}
use Rattle.std.specs.Prelude.{ℕ, length, get_or}
use Rattle.octets.specs.{Buffers.slice, Rows.row, Rows.numbers_at, Rows.Fits}
use Rattle.names.specs.Naming.{key_bytes, pair_bytes, named}
use Rattle.record_bytes.specs.declared.Front.{Front}

-- session and length
abbrev pub front_widths : List ℕ
front_widths = 4 ∷ 4 ∷ []

abbrev pub front_numbers : Front → List ℕ
front_numbers f = f.session ∷ f.length ∷ []

abbrev pub front_size : ℕ
front_size = 24

unfoldable pub front_bytes : Front → List ℕ
front_bytes f = f.key ++ f.pair ++ row front_widths (front_numbers f)

-- what is read back; from bytes that are too few, names of zeros
unfoldable pub front_in : List ℕ → Front
front_in bytes =
    let names = named (slice bytes 0 key_bytes) (slice bytes key_bytes pair_bytes) in
    let x : List ℕ = numbers_at front_widths bytes 16 in
    record { key = names.key; pair = names.pair; session = get_or x 0 0; length = get_or x 1 0 }

-- fronts that the code's types hold
pub record FrontFits (f : Front) : Type 0 where
  pub key_long : length f.key ≡ key_bytes
  pub pair_long : length f.pair ≡ pair_bytes
  pub numbers : Fits front_widths (front_numbers f)
