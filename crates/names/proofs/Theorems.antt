-- What checking the names comes to: refused, there are only zeros to give.
use mathlib.Core.{Path.refl, List.List}
use Prim.Native.Nat.{ℕ}
use Rattle.refusals.specs.Rules.{Leaves}
use Rattle.refusals.proofs.Settled.{settled_leaves}
use Rattle.names.specs.Naming.{no_names, named}

pub naming_leaves : (key pair : List ℕ) → Leaves (λ n. n.refusal) no_names (named key pair)
unfolding named
naming_leaves key pair = settled_leaves _ _ _ (λ n. n.refusal) refl (λ n. refl)
