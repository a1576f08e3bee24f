-- A refused call leaves all that it was lent as it was, and bytes that are no receiver get 27.
use mathlib.Core.{Path.◌≡◌, Path.refl, Logic.◌≢◌, List.List}
use Prim.Native.Nat.{ℕ}
use lib.ListN.{length}
use Rattle.refusals.specs.{Numbers.out_of_rule, Outcome.outcome, Rules.Leaves}
use Rattle.refusals.proofs.Settled.{left_at, settled_leaves}
use Rattle.receiver_bytes.specs.{Calls.receiver_make, Calls.reception, Calls.receiver_hear, Record.receiver_size}
use Rattle.receiver_bytes.proofs.Record.{no_receiver_out}

pub receiver_make_leaves : (buffer key pair : List ℕ)
    → Leaves (λ o. o.answer) (λ n. outcome n buffer) (receiver_make buffer key pair)
unfolding receiver_make
receiver_make_leaves buffer key pair = settled_leaves _ _ _ (λ o. o.answer) refl (λ n. refl)

module _ (receiver frame sound answer : List ℕ) (before : ℕ) where
  pub receiver_hear_leaves : Leaves (λ h. h.number) (reception receiver sound answer before)
      (receiver_hear receiver frame sound answer before)
  unfolding receiver_hear
  receiver_hear_leaves = settled_leaves _ _ _ (λ h. h.number) refl (λ n. refl)

  pub no_receiver_hears : length receiver ≢ receiver_size
      → reception receiver sound answer before out_of_rule ≡ receiver_hear receiver frame sound answer before
  unfolding receiver_hear
  no_receiver_hears other = left_at _ _ _ 0 tt (no_receiver_out receiver other)
