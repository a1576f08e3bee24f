-- One byte and two that are stored, as runs that are put.
use mathlib.Core.{Path.◌≡◌, Path.sym, Path.◌∙◌, List.List, List.[], List.◌∷◌}
use Prim.Native.Nat.{ℕ, ◌+◌, ◌≤◌}
use lib.ListN.{length, set}
use Rattle.octets.specs.Buffers.{put}
use Rattle.octets.proofs.Buffers.{put_placed, placed_stores}

pub one_put : (d : List ℕ) (at x : ℕ) → at + 1 ≤ length d → set d at x ≡ put d at (x ∷ [])
one_put d at x room = placed_stores d at x [] room ∙ sym (put_placed d at (x ∷ []) room)

pub two_put : (d : List ℕ) (at x y : ℕ) → at + 2 ≤ length d → set (set d at x) (at + 1) y ≡ put d at (x ∷ y ∷ [])
two_put d at x y room = placed_stores d at x (y ∷ []) room ∙ sym (put_placed d at (x ∷ y ∷ []) room)
