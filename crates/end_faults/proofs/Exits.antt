-- What a function on a file's rules answers where one is broken: by the exit of a `?`, or with a flaw that lacks nothing.
use mathlib.Core.{List.List, Path.◌≡◌, Path.ap, Path.◌∙◌}
use Rattle.std.specs.Prelude.{ℕ, Result, Ok, Err, IsErrAnd}
use Rattle.refusals.specs.Answers.{number_of, verdict_in, lacking_nothing}
use Rattle.refusals.specs.Rules.{Fault, verdict_of, verdict}
use Rattle.refusals.specs.{declared.Refusal.Refusal, declared.Flaw.Flaw}
use Rattle.refusals.proofs.Faults.{FailsAt, number_at, lacking_at, verdict_at}

-- the rule says that a file has to reach a place, and it breaks off
pub cut_at : (k : ℕ) (faults : List Fault) (r : Result Unit Flaw) {flaw : Flaw} {refusal : Refusal}
    → IsErrAnd r (λ y. y ≡ flaw) → flaw.refusal ≡ refusal → FailsAt k faults → number_of refusal ≡ number_at k faults
    → flaw.lacks ≡ lacking_at k faults
    → verdict_in r ≡ verdict faults
cut_at k faults (Ok a) e is h p q = absurd e
cut_at k faults (Err y) {flaw} e is h p q =
    ap (λ (f : Flaw). verdict_of (number_of f.refusal) f.lacks) e ∙ verdict_at k faults h (ap number_of is ∙ p) q

-- any other rule
pub no_at : (k : ℕ) (faults : List Fault) {flaw : Flaw} {refusal : Refusal} → flaw ≡ lacking_nothing refusal
    → FailsAt k faults → number_of refusal ≡ number_at k faults → 0 ≡ lacking_at k faults
    → verdict_of (number_of flaw.refusal) flaw.lacks ≡ verdict faults
no_at k faults e h p q = ap (λ (f : Flaw). verdict_of (number_of f.refusal) f.lacks) e ∙ verdict_at k faults h p q

-- and by a `?` on one that answers the refusal alone
pub passed_at : (k : ℕ) (faults : List Fault) (r : Result Unit Flaw) (refusal : Refusal)
    → IsErrAnd r (λ y. y ≡ lacking_nothing refusal) → FailsAt k faults → number_of refusal ≡ number_at k faults
    → 0 ≡ lacking_at k faults
    → verdict_in r ≡ verdict faults
passed_at k faults (Ok a) refusal e h p q = absurd e
passed_at k faults (Err y) refusal e h p q = no_at k faults e h p q
