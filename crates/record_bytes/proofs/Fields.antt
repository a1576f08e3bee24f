-- A record's numbers, read and written one by one. What the code names as place, width and number is what the record has
-- there by arithmetic, so a wrong one is refused with an example.
use mathlib.Core.{Path.◌≡◌, Path.ap, Path.◌∙◌, List.List, List.[], List.◌∷◌}
use Prim.Native.Nat.{ℕ, ◌<◌}
use native.Mathlib.Omega.{arith}
use lib.ListN.{length, get_or}
use Rattle.octets.specs.{Buffers.put, Digits.number, Digits.number_after, Digits.number_at, Digits.digits}
use Rattle.octets.proofs.Slices.{slice_read}

-- a single byte
pub byte_there : (bytes : List ℕ) (at : ℕ) {place : ℕ} → at < length bytes → place ≡ at
    → get_or bytes place 0 ≡ number_at bytes at 1
unfolding number_after
byte_there bytes at h there =
    ap (λ (p : ℕ). get_or bytes p 0) there
    ∙ alone (get_or bytes at 0)
    ∙ ap (number 256) (slice_read bytes at 0 0 (omega arith))
  where
    alone : (x : ℕ) → x ≡ number 256 (x ∷ [])
    alone x = omega arith

-- a number written behind others
pub then_written : (at width x : ℕ) {d e f : List ℕ} {place wide y : ℕ} → f ≡ put e place (digits 256 wide y) → e ≡ d
    → place ≡ at → wide ≡ width → y ≡ x → f ≡ put d at (digits 256 width x)
then_written at width x written before there so same =
    written ∙ (λ i. put (before i) (there i) (digits 256 (so i) (same i)))
