-- What the public calls' definitions come to: a refused call leaves all as given, a refused making gives only zeros.
use mathlib.Core.{Path.◌≡◌, Path.refl, Path.sym, List.List}
use Prim.Native.Nat.{ℕ}
use lib.ListN.{length}
use Rattle.octets.specs.Stream.{Cipher}
use Rattle.refusals.specs.{Outcome.Outcome, Outcome.outcome, Rules.Leaves}
use Rattle.refusals.proofs.Settled.{done_if, by_settled, settled_leaves}
use Rattle.names.specs.Naming.{key_bytes, pair_bytes, no_key, no_pair}
use Rattle.sender.specs.{declared.Sender.Sender, Answers.Sent}
use Rattle.sender.specs.Sender.{fresh_sender, agreed, refused, making_sender, beginning, sending, hearing}

pub making_leaves : (key pair : List ℕ)
    → Leaves (λ a. a.refusal) (refused (fresh_sender no_key no_pair)) (making_sender key pair)
unfolding making_sender
making_leaves key pair = settled_leaves _ _ _ (λ a. a.refusal) refl (λ n. refl)

-- with names of the right lengths it is made
pub making_done : (key pair : List ℕ) → length key ≡ key_bytes → length pair ≡ pair_bytes
    → making_sender key pair ≡ agreed (fresh_sender key pair)
unfolding making_sender
making_done key pair ten six = sym (done_if _ _ _ (ten, (six, tt)))

pub beginning_leaves : (s : Sender) (sound : List ℕ) → Leaves (λ a. a.refusal) (refused s) (beginning s sound)
unfolding beginning
beginning_leaves s sound = settled_leaves _ _ _ (λ a. a.refusal) refl (λ n. refl)

pub hearing_leaves : (s : Sender) (frame : List ℕ) → Leaves (λ a. a.refusal) (refused s) (hearing s frame)
unfolding hearing
hearing_leaves s frame = settled_leaves _ _ _ (λ a. a.refusal) refl (λ n. refl)

module _ (cipher : Cipher) (s : Sender) (sound frame : List ℕ) where
  pub sending_leaves :
      Leaves (λ o. o.answer.refusal) (λ n. outcome (record { refusal = n; length = 0; sender = s }) frame)
      (sending cipher s sound frame)
  unfolding sending
  sending_leaves = settled_leaves _ _ _ (λ o. o.answer.refusal) refl (λ n. refl)

  -- refused or not, the record doesn't change
  pub sending_keeps : (sending cipher s sound frame).answer.sender ≡ s
  unfolding sending
  sending_keeps = by_settled _ _ _ (λ (o : Outcome Sent ℕ). o.answer.sender ≡ s) (λ _. refl) (λ n _ _. refl)
