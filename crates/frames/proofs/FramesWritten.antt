-- Frames are written number after number, and numbers written one behind the other are a row.
use mathlib.Core.{Path.◌≡◌, Path.refl, Path.sym, Path.ap, Path.◌∙◌, List.List, List.[], List.◌∷◌, List.append-nil}
use Prim.Native.Nat.{ℕ, ◌+◌, ◌≤◌}
use native.Mathlib.Omega.{arith}
use lib.ListN.{length, length-append}
use Rattle.octets.specs.{Buffers.placed, Buffers.put, Digits.digits, Rows.row}
use Rattle.octets.proofs.{Buffers.put_placed, Buffers.goes_on, Rows.length_row, Rows.row_written}
use denote.Enum.Declared.{tag_of}
use Rattle.frames.specs.{contracts.FrameKind.the_type, Told.kind_number, declared.FrameKind.FrameKind}
use Rattle.frames.specs.declared.FrameKind.TheVariants as the_kind
use Rattle.frames.specs.Frames.{opening, block, holds, too_long, bytes}

-- ---- short frames

-- what is written with a number in it is what the same number writes
pub with_number : {A : Type 0} (written : ℕ → A) (number : ℕ) {x : A} {n : ℕ} → x ≡ written n → n ≡ number
    → x ≡ written number
with_number written number e same = e ∙ ap written same

-- the first byte that the code writes for a kind
pub first_written : (kind : FrameKind) → tag_of the_type kind + 1 ≡ kind_number kind
first_written the_kind.Opening = refl
first_written the_kind.Block = refl
first_written the_kind.Holds = refl
first_written the_kind.TooLong = refl

-- a first byte, a session, and a number of so many bytes
abbrev pub short : ℕ → ℕ → ℕ → ℕ → List ℕ
short kind session width number = row (1 ∷ 4 ∷ width ∷ []) (kind ∷ session ∷ number ∷ [])

pub length_short : (kind session width number : ℕ) → length (short kind session width number) ≡ 5 + width
length_short kind session width number = length_row (1 ∷ 4 ∷ width ∷ []) (kind ∷ session ∷ number ∷ []) ∙ omega arith

pub short_opening : (session sound : ℕ) → short 1 session 4 sound ≡ bytes (opening session sound)
unfolding bytes
short_opening session sound = sym (append-nil (short 1 session 4 sound))

pub short_holds : (session held : ℕ) → short 3 session 2 held ≡ bytes (holds session held)
unfolding bytes
short_holds session held = sym (append-nil (short 3 session 2 held))

-- a number of no bytes is nothing
pub short_too_long : (session number : ℕ) → short 4 session 0 number ≡ bytes (too_long session)
unfolding bytes row digits
short_too_long session number = refl

-- ---- a block

pub length_block : (session k : ℕ) (run : List ℕ) → length (bytes (block session k run)) ≡ 8 + length run
unfolding bytes
length_block session k run =
    length-append (row (1 ∷ 4 ∷ 2 ∷ 1 ∷ []) (2 ∷ session ∷ k ∷ length run ∷ [])) run
    ∙ ap (λ (n : ℕ). n + length run) (length_row (1 ∷ 4 ∷ 2 ∷ 1 ∷ []) (2 ∷ session ∷ k ∷ length run ∷ []))

-- count and bytes behind number 5: with the count the four numbers are one row, and the bytes go on behind it
pub block_written : (d : List ℕ) (session k : ℕ) (run : List ℕ) → 8 + length run ≤ length d
    → put (put (placed d 0 (short 2 session 2 k)) 7 (digits 256 1 (length run))) 8 run
    ≡ placed d 0 (bytes (block session k run))
unfolding bytes
block_written d session k run room =
    let head : List ℕ = row (1 ∷ 4 ∷ 2 ∷ 1 ∷ []) (2 ∷ session ∷ k ∷ length run ∷ []) in
    let seven = length_short 2 session 2 k in
    let eight : length head ≡ 8 = length_row (1 ∷ 4 ∷ 2 ∷ 1 ∷ []) (2 ∷ session ∷ k ∷ length run ∷ []) in
    goes_on d 0 head run
    (ap (λ (l : List ℕ). put l 7 (digits 256 1 (length run)))
    (sym (put_placed d 0 (short 2 session 2 k) (omega arith))
    ∙ sym (row_written d (1 ∷ 4 ∷ 2 ∷ []) (2 ∷ session ∷ k ∷ []) 0 (omega arith)))
    ∙ row_written d (1 ∷ 4 ∷ 2 ∷ 1 ∷ []) (2 ∷ session ∷ k ∷ length run ∷ []) 0 (omega arith)
    ∙ put_placed d 0 head (omega arith))
    (omega arith) (omega arith)
