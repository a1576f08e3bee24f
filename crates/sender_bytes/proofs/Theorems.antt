-- A refused call leaves all that it was lent as it was, and bytes that are no sender get 27.
use mathlib.Core.{Path.◌≡◌, Path.refl, Bool.false, List.List}
use Prim.Native.Nat.{ℕ}
use Rattle.refusals.specs.{Numbers.out_of_rule, Outcome.outcome, Rules.Leaves}
use Rattle.refusals.proofs.Settled.{left_at, settled_leaves}
use Rattle.record_bytes.specs.Written.{wrote}
use Rattle.sender_record.{specs.Record.is_sender, proofs.Record.no_sender_out}
use Rattle.sender_bytes.specs.Calls.{sender_make, sender_begin, sender_send, sender_hear}

pub sender_make_leaves : (buffer key pair : List ℕ)
    → Leaves (λ o. o.answer) (λ n. outcome n buffer) (sender_make buffer key pair)
unfolding sender_make
sender_make_leaves buffer key pair = settled_leaves _ _ _ (λ o. o.answer) refl (λ n. refl)

module _ (sender : List ℕ) where
  pub sender_begin_leaves : (sound : List ℕ)
      → Leaves (λ o. o.answer) (λ n. outcome n sender) (sender_begin sender sound)
  unfolding sender_begin
  sender_begin_leaves sound = settled_leaves _ _ _ (λ o. o.answer) refl (λ n. refl)

  pub sender_send_leaves : (sound frame : List ℕ) (before : ℕ)
      → Leaves (λ w. w.number) (wrote frame before) (sender_send sender sound frame before)
  unfolding sender_send
  sender_send_leaves sound frame before = settled_leaves _ _ _ (λ w. w.number) refl (λ n. refl)

  pub sender_hear_leaves : (frame : List ℕ) → Leaves (λ o. o.answer) (λ n. outcome n sender) (sender_hear sender frame)
  unfolding sender_hear
  sender_hear_leaves frame = settled_leaves _ _ _ (λ o. o.answer) refl (λ n. refl)

-- ---- bytes that are no record

module _ (sender : List ℕ) (other : is_sender sender ≡ false) where
  pub no_sender_begins : (sound : List ℕ) → outcome out_of_rule sender ≡ sender_begin sender sound
  unfolding sender_begin
  no_sender_begins sound = left_at _ _ _ 0 tt (no_sender_out sender other)

  pub no_sender_sends : (sound frame : List ℕ) (before : ℕ)
      → wrote frame before out_of_rule ≡ sender_send sender sound frame before
  unfolding sender_send
  no_sender_sends sound frame before = left_at _ _ _ 0 tt (no_sender_out sender other)

  pub no_sender_hears : (frame : List ℕ) → outcome out_of_rule sender ≡ sender_hear sender frame
  unfolding sender_hear
  no_sender_hears frame = left_at _ _ _ 0 tt (no_sender_out sender other)
