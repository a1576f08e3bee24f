-- What is told is told of a record, if each number is the record's.
use mathlib.Core.{Bool.Bool, Bool.cond, List.List, List.[], List.◌∷◌, Path.◌≡◌}
use Prim.Native.Nat.{ℕ}
use lib.ListN.{get_or}
use Rattle.blocks.specs.Blocks.{blocks}
use Rattle.sender.specs.{Rules.sender_in_rule, declared.Sender.Sender}
use Rattle.receiver.specs.{Rules.receiver_in_rule, declared.Receiver.Receiver}
use Rattle.sender_record.specs.Record.{phase_numbers}
use Rattle.link_status.specs.Calls.{known_in, sender_numbers, is_whole, receiver_numbers, telling}

module _ (answer : List ℕ) {rule : Bool} {a b c d e : ℕ} where
  telling_so : (same : Bool) (a' b' c' d' e' : ℕ) → rule ≡ same → a ≡ a' → b ≡ b' → c ≡ c' → d ≡ d' → e ≡ e'
      → telling rule (a ∷ b ∷ c ∷ d ∷ e ∷ []) answer ≡ telling same (a' ∷ b' ∷ c' ∷ d' ∷ e' ∷ []) answer
  telling_so same a' b' c' d' e' r p q s t u = λ i. telling (r i) (p i ∷ q i ∷ s i ∷ t i ∷ u i ∷ []) answer

  pub sender_told : (s : Sender) → rule ≡ sender_in_rule s → a ≡ get_or (phase_numbers s.phase) 0 0 → b ≡ s.session
      → c ≡ s.length
      → d ≡ known_in (blocks s.length) s.phase
      → e ≡ blocks s.length
      → telling rule (a ∷ b ∷ c ∷ d ∷ e ∷ []) answer ≡ telling (sender_in_rule s) (sender_numbers s) answer
  sender_told s = telling_so _ _ _ _ _ _

  pub receiver_told : (r : Receiver) → rule ≡ receiver_in_rule r → a ≡ r.session → b ≡ r.length → c ≡ r.count
      → d ≡ blocks r.length
      → e ≡ cond (is_whole r) 1 0
      → telling rule (a ∷ b ∷ c ∷ d ∷ e ∷ []) answer ≡ telling (receiver_in_rule r) (receiver_numbers r) answer
  receiver_told r = telling_so _ _ _ _ _ _
