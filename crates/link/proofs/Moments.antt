-- What holds at the start and is kept by each event holds at every moment.
use Prim.Native.Nat.{ℕ}
use mathlib.Core.List.{List}
use native.Mathlib.Omega.{arith}
use lib.ListN.{length}
use Rattle.octets.specs.Stream.{Cipher}
use Rattle.link.specs.World.{World, Reach, start, begins, sends, receives, hears}
use Rattle.link.proofs.{Begins.begins_kept, Begins.fresh_holds, Hears.hears_kept, Invariant.Inv}
use Rattle.link.proofs.{Receives.receives_kept, Sends.sends_kept}

module _ {cipher : Cipher} {key pair buffer : List ℕ} where
  pub holds_at : {w : World} → Reach cipher key pair buffer w → Inv cipher key pair (length buffer) w
  holds_at (start ten six) = fresh_holds cipher key pair buffer ten six
  holds_at (begins {w} r sound) = begins_kept w (holds_at r) sound
  holds_at (sends {w} r sound frame same) = sends_kept w (holds_at r) sound frame (λ u long. same u (omega arith))
  holds_at (receives {w} r frame reply m) = (receives_kept w (holds_at r) reply frame m).0
  holds_at (hears {w} r frame m) = (hears_kept w (holds_at r) frame m).0
