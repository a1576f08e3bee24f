-- A sender as bytes: the front of a link end, then its phase and how many blocks are known to be held.
use Rattle.std.specs.Prelude.{ℕ, Option, Some, None}
use mathlib.Core.{Bool.Bool, Bool.cond, Bool.◌&&◌, Bool.◌||◌, List.List, List.[], List.◌∷◌, List.◌++◌}
use lib.{Dec.leb, Dec.eqb, ListN.length, ListN.replicate}
use Rattle.octets.specs.{Digits.number_at, Rows.row}
use Rattle.record_bytes.specs.{Front.front_bytes, Front.front_in, declared.Front.Front}
use Rattle.sender.specs.{declared.Phase.Phase, declared.Reason.TheVariants.TooLong, declared.Sender.Sender}
use Rattle.sender.specs.declared.Phase.TheVariants.{Idle, Opening, Sending, Done, Refused}

abbrev pub sender_size : ℕ
sender_size = 27

-- a phase's number, each reason has one of its own, and the count that it carries
abbrev pub phase_numbers : Phase → List ℕ
phase_numbers Idle = 0 ∷ 0 ∷ []
phase_numbers Opening = 1 ∷ 0 ∷ []
phase_numbers (Sending known) = 2 ∷ known ∷ []
phase_numbers Done = 3 ∷ 0 ∷ []
phase_numbers (Refused TooLong) = 4 ∷ 0 ∷ []

abbrev pub phase_widths : List ℕ
phase_widths = 1 ∷ 2 ∷ []

abbrev pub front_of : Sender → Front
front_of s = record { key = s.key; pair = s.pair; session = s.session; length = s.length }

unfoldable pub sender_bytes : Sender → List ℕ
sender_bytes s = front_bytes (front_of s) ++ row phase_widths (phase_numbers s.phase)

-- the numbers that are a phase's: there is one with this number, and a count only while sending
abbrev pub is_phase : ℕ → ℕ → Bool
is_phase number known = leb number 4 && (eqb number 2 || eqb known 0)

-- the bytes that are a sender: of its length, with a phase that there is
unfoldable pub is_sender : List ℕ → Bool
is_sender bytes = eqb (length bytes) sender_size && is_phase (number_at bytes 24 1) (number_at bytes 25 2)

unfoldable pub phase_in : ℕ → ℕ → Phase
phase_in number known =
    cond (eqb number 0) Idle
    (cond (eqb number 1) Opening
    (cond (eqb number 2) (Sending known)
    (cond (eqb number 3) Done
    (Refused TooLong))))

-- that phase, if the numbers are one's
abbrev pub phase_if : ℕ → ℕ → Option Phase
phase_if number known = cond (is_phase number known) (Some (phase_in number known)) None

-- Bytes that are no sender stand for one that is out of rule, and so every call refuses them with 27: its length is
-- over 32,768.
abbrev pub no_sender : Sender
no_sender = record { key = replicate 10 0; pair = replicate 6 0; session = 0; length = 32769; phase = Idle }

-- what is read back
unfoldable pub sender_in : List ℕ → Sender
sender_in bytes =
    let f = front_in bytes in
    cond (is_sender bytes)
    (record {
      key = f.key;
      pair = f.pair;
      session = f.session;
      length = f.length;
      phase = phase_in (number_at bytes 24 1) (number_at bytes 25 2);
    })
    no_sender
