-- What a caller of `rings::rings_in` knows: the rings are those of the bytes, which are all keys; or they aren't, and that
-- is why.
use mathlib.Core.{Path.◌≡◌, Path.refl, Bool.Bool, Bool.true, Bool.false, Bool.cond, List.List, Logic.◌≢◌}
use Prim.Native.Nat.{ℕ}
use borrow.Author.Tests.{eqb-true, eqb-false}
use lib.{Dec.eqb, ListN.length}
use Rattle.std.specs.Prelude.{Result, Ok, Err}
use Rattle.refusals.specs.{declared.Refusal.Refusal, declared.Refusal.TheVariants.BadKey}
use Rattle.pack.specs.declared.Rings.{Rings}
use Rattle.rings.specs.Ring.{keys_bytes, rings_of, rings_in}

module _ (keys : List ℕ) where
  abbrev by : Bool → Result Rings Refusal
  by b = cond b (Ok (rings_of keys)) (Err BadKey)

  pub are_keys : {r : Rings} → Ok r ≡ rings_in keys → (length keys ≡ keys_bytes) × (r ≡ rings_of keys)
  are_keys {r} e = go (eqb (length keys) keys_bytes) refl e
    where
      go : (b : Bool) → eqb (length keys) keys_bytes ≡ b → Ok r ≡ by b → (length keys ≡ keys_bytes) × (r ≡ rings_of keys)
      go true t q = (eqb-true (length keys) keys_bytes t, cc)
      go false t q = absurd cc

  pub no_keys : {refusal : Refusal} → Err refusal ≡ rings_in keys → (length keys ≢ keys_bytes) × (refusal ≡ BadKey)
  no_keys {refusal} e = go (eqb (length keys) keys_bytes) refl e
    where
      go : (b : Bool) → eqb (length keys) keys_bytes ≡ b → Err refusal ≡ by b
          → (length keys ≢ keys_bytes) × (refusal ≡ BadKey)
      go true t q = absurd cc
      go false t q = (eqb-false (length keys) keys_bytes t, cc)
