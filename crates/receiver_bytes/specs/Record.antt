-- A receiver as bytes: the front of a link end, then how many blocks are held.
use Rattle.std.specs.Prelude.{ℕ}
use mathlib.Core.{Bool.cond, List.List, List.[], List.◌∷◌, List.◌++◌}
use lib.{Dec.eqb, ListN.length, ListN.replicate}
use Rattle.octets.specs.{Digits.number_at, Rows.row}
use Rattle.record_bytes.specs.{Front.front_bytes, Front.front_in, declared.Front.Front}
use Rattle.receiver.specs.declared.Receiver.{Receiver}

abbrev pub receiver_size : ℕ
receiver_size = 26

abbrev pub front_of : Receiver → Front
front_of r = record { key = r.key; pair = r.pair; session = r.session; length = r.length }

abbrev pub count_widths : List ℕ
count_widths = 2 ∷ []

unfoldable pub receiver_bytes : Receiver → List ℕ
receiver_bytes r = front_bytes (front_of r) ++ row count_widths (r.count ∷ [])

-- Bytes that are no receiver stand for one that is out of rule, and so every call refuses them with 27: its length is
-- over 32,768.
abbrev pub no_receiver : Receiver
no_receiver = record { key = replicate 10 0; pair = replicate 6 0; session = 0; length = 32769; count = 0 }

-- what is read back
unfoldable pub receiver_in : List ℕ → Receiver
receiver_in bytes =
    let f = front_in bytes in
    cond (eqb (length bytes) receiver_size)
    (record { key = f.key; pair = f.pair; session = f.session; length = f.length; count = number_at bytes 24 2 })
    no_receiver
