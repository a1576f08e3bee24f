-- The four frames of the link: the bytes of each, and what is read back from bytes.
use mathlib.Core.{Path.◌≡◌, Bool.Bool, Bool.true, Bool.cond, Bool.◌&&◌, List.List, List.[], List.◌∷◌, List.◌++◌}
use Rattle.std.specs.Prelude.{ℕ, ◌+◌}
use lib.{Dec.leb, Dec.eqb, ListN.length, ListN.drop}
use Rattle.octets.specs.{Digits.number_at, Rows.row, Rows.Fits}
use Rattle.blocks.specs.Blocks.{longest, whole}

pub data Frame : Type 0 where
  -- session, length of the sound
  opening : ℕ → ℕ → Frame
  -- session, block number, enciphered bytes
  block : ℕ → ℕ → List ℕ → Frame
  -- session, blocks held
  holds : ℕ → ℕ → Frame
  -- session
  too_long : ℕ → Frame

-- ---- the paper's table, row by row

-- how many bytes each number of a frame has
abbrev pub widths : Frame → List ℕ
widths (opening session sound) = 1 ∷ 4 ∷ 4 ∷ []
widths (block session k run) = 1 ∷ 4 ∷ 2 ∷ 1 ∷ []
widths (holds session held) = 1 ∷ 4 ∷ 2 ∷ []
widths (too_long session) = 1 ∷ 4 ∷ []

-- the numbers, of which the first says which frame it is
abbrev pub numbers : Frame → List ℕ
numbers (opening session sound) = 1 ∷ session ∷ sound ∷ []
numbers (block session k run) = 2 ∷ session ∷ k ∷ length run ∷ []
numbers (holds session held) = 3 ∷ session ∷ held ∷ []
numbers (too_long session) = 4 ∷ session ∷ []

-- what stands behind them
abbrev pub behind : Frame → List ℕ
behind (opening session sound) = []
behind (block session k run) = run
behind (holds session held) = []
behind (too_long session) = []

unfoldable pub bytes : Frame → List ℕ
bytes f = row (widths f) (numbers f) ++ behind f

-- ---- limits

-- 0 is no session yet
abbrev pub some : ℕ → Bool
some session = leb 1 session

-- sessions begin at 1, a sound has at most 32,768 bytes, and a block 1 to 64
unfoldable pub in_limits : Frame → Bool
in_limits (opening session sound) = some session && leb sound longest
in_limits (block session k run) = some session && (leb 1 (length run) && leb (length run) whole)
in_limits (holds session held) = some session
in_limits (too_long session) = some session

-- the frames that can be written and read back: within the limits, and each number fits its bytes in the table
pub record Good (f : Frame) : Type 0 where
  pub limits : in_limits f ≡ true
  pub fits : Fits (widths f) (numbers f)

-- ---- reading

-- what the bytes of a message are: a frame, or none
pub data Heard : Type 0 where
  it : Frame → Heard
  no_frame : Heard

-- the frame, if the message begins with this number, has this length and keeps the limits; or else what other rows say
abbrev pub kept : List ℕ → ℕ → ℕ → Frame → Heard → Heard
kept message first size f other =
    cond (eqb (number_at message 0 1) first && eqb (length message) size && in_limits f) (it f) other

-- what is read back: the row of the table that the message fits
unfoldable pub heard : List ℕ → Heard
heard message =
    let session = number_at message 1 4 in
    kept message 1 9 (opening session (number_at message 5 4))
    (kept message 2 (8 + number_at message 7 1) (block session (number_at message 5 2) (drop 8 message))
    (kept message 3 7 (holds session (number_at message 5 2))
    (kept message 4 5 (too_long session)
    no_frame)))
