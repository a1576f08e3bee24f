-- What a call's outcome is like, rule by rule: whichever rule is the first to be broken, those before it held.
use mathlib.Core.{Path.subst, Bool.cond, List.List, List.[], List.◌∷◌}
use Prim.Native.Nat.{ℕ}
use lib.Dec.{eqb}
use Rattle.refusals.specs.Numbers.{accepted}
use Rattle.refusals.specs.Rules.{Wrong, broken, Right, Fault, ◌says◌, told, first, settled}
use Rattle.refusals.proofs.{Faults.right, Faults.rule_passes, Tests.by_cond}

abbrev ending : {A : Type 0} → A → (ℕ → A) → ℕ → A
ending done left n = cond (eqb n accepted) done (left n)

-- rule by rule: it can't be broken; or either what its number leaves is all right, or it holds; and what is done with
-- all rules kept is all right
pub data Turns {A : Type 0} (P : A → Type 0) (done : A) (left : ℕ → A) : List Fault → Type 0 where
  finally : P done → Turns P done left []
  keeps : {w : Wrong} {n : ℕ} {faults : List Fault} → Right w → Turns P done left faults
      → Turns P done left ((w says n) ∷ faults)
  either : {w : Wrong} {n : ℕ} {faults : List Fault} → P (ending done left n) → (Right w → Turns P done left faults)
      → Turns P done left ((w says n) ∷ faults)

pub by_turns : {A : Type 0} (P : A → Type 0) {done : A} {left : ℕ → A} {faults : List Fault} → Turns P done left faults
    → P (settled faults done left)
unfolding settled first told
by_turns P (finally h) = h
by_turns P {done = done} {left = left} (keeps {w} {n} {faults} kept rest) =
    subst (λ (n : ℕ). P (ending done left n)) (rule_passes (w says n) faults kept) (by_turns P rest)
by_turns P {done = done} {left = left} (either {w} {n} {faults} other rest) =
    by_cond (λ (n : ℕ). P (ending done left n)) (broken w) n (first faults) (λ _. other)
    (λ e. by_turns P (rest (right w e)))
