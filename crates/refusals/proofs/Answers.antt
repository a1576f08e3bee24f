-- What an answer that is an Ok or an Err tells its caller. No refusal has the number of a call that isn't refused, and no
-- two have the same: so what a definition says of numbers fixes the answer.
use mathlib.Core.List.{List}
use mathlib.Core.{Path.◌≡◌, Path.refl, Path.sym, Path.ap, Path.◌∙◌, Bool.cond, Logic.◌≢◌}
use Rattle.std.specs.Prelude.{ℕ, Result, Ok, Err}
use lib.Dec.{T, eqb, ltb}
use Rattle.refusals.specs.Numbers.{accepted}
use Rattle.refusals.specs.Rules.{Fault, first, settled}
use Rattle.refusals.specs.Answers.{number_of, number_in, answer, answer_or, verdict_in}
use Rattle.refusals.specs.{declared.Refusal.Refusal, declared.Flaw.Flaw}
use Rattle.refusals.specs.declared.Refusal.TheVariants.{BadKey, BadValue, NotACipher, LongName, BadName, BadKeyCount}
use Rattle.refusals.specs.declared.Refusal.TheVariants.{BadKeyNumber, ManySamples, ManyLoops, BadLoop, MoreBytes}
use Rattle.refusals.specs.declared.Refusal.TheVariants.{NoRoom, NoSession, LongSound, NoTransfer, WrongSound}
use Rattle.refusals.specs.declared.Refusal.TheVariants.{NotAFrame, OtherSession, Impossible, OutOfRule, CutInName}
use Rattle.refusals.specs.declared.Refusal.TheVariants.{CutInKey, CutInSamples, CutInLoops, LowestSample, OddSamples}
use Rattle.refusals.specs.declared.Refusal.TheVariants.{OtherLength, OutsideWindow, WrongTag, BadTagSection}
use Rattle.refusals.proofs.Settled.{answer_number, answer_done}

some : (refusal : Refusal) → T (ltb accepted (number_of refusal))
some BadKey = tt
some BadValue = tt
some NotACipher = tt
some LongName = tt
some BadName = tt
some BadKeyCount = tt
some BadKeyNumber = tt
some ManySamples = tt
some ManyLoops = tt
some BadLoop = tt
some MoreBytes = tt
some NoRoom = tt
some NoSession = tt
some LongSound = tt
some NoTransfer = tt
some WrongSound = tt
some NotAFrame = tt
some OtherSession = tt
some Impossible = tt
some OutOfRule = tt
some CutInName = tt
some CutInKey = tt
some CutInSamples = tt
some CutInLoops = tt
some LowestSample = tt
some OddSamples = tt
some OtherLength = tt
some OutsideWindow = tt
some WrongTag = tt
some BadTagSection = tt

pub never_accepted : (refusal : Refusal) → number_of refusal ≢ accepted
never_accepted refusal e = rw e at (some refusal)

-- the refusal that has a number
abbrev refusal_of : ℕ → Refusal
refusal_of n =
    cond (eqb n (number_of BadKey)) BadKey (
    cond (eqb n (number_of BadValue)) BadValue (
    cond (eqb n (number_of NotACipher)) NotACipher (
    cond (eqb n (number_of LongName)) LongName (
    cond (eqb n (number_of BadName)) BadName (
    cond (eqb n (number_of BadKeyCount)) BadKeyCount (
    cond (eqb n (number_of BadKeyNumber)) BadKeyNumber (
    cond (eqb n (number_of ManySamples)) ManySamples (
    cond (eqb n (number_of ManyLoops)) ManyLoops (
    cond (eqb n (number_of BadLoop)) BadLoop (
    cond (eqb n (number_of MoreBytes)) MoreBytes (
    cond (eqb n (number_of NoRoom)) NoRoom (
    cond (eqb n (number_of NoSession)) NoSession (
    cond (eqb n (number_of LongSound)) LongSound (
    cond (eqb n (number_of NoTransfer)) NoTransfer (
    cond (eqb n (number_of WrongSound)) WrongSound (
    cond (eqb n (number_of NotAFrame)) NotAFrame (
    cond (eqb n (number_of OtherSession)) OtherSession (
    cond (eqb n (number_of Impossible)) Impossible (
    cond (eqb n (number_of OutOfRule)) OutOfRule (
    cond (eqb n (number_of CutInName)) CutInName (
    cond (eqb n (number_of CutInKey)) CutInKey (
    cond (eqb n (number_of CutInSamples)) CutInSamples (
    cond (eqb n (number_of CutInLoops)) CutInLoops (
    cond (eqb n (number_of LowestSample)) LowestSample (
    cond (eqb n (number_of OddSamples)) OddSamples (
    cond (eqb n (number_of OtherLength)) OtherLength (
    cond (eqb n (number_of OutsideWindow)) OutsideWindow (
    cond (eqb n (number_of WrongTag)) WrongTag (BadTagSection)))))))))))))))))))))))))))))

again : (refusal : Refusal) → refusal_of (number_of refusal) ≡ refusal
again BadKey = refl
again BadValue = refl
again NotACipher = refl
again LongName = refl
again BadName = refl
again BadKeyCount = refl
again BadKeyNumber = refl
again ManySamples = refl
again ManyLoops = refl
again BadLoop = refl
again MoreBytes = refl
again NoRoom = refl
again NoSession = refl
again LongSound = refl
again NoTransfer = refl
again WrongSound = refl
again NotAFrame = refl
again OtherSession = refl
again Impossible = refl
again OutOfRule = refl
again CutInName = refl
again CutInKey = refl
again CutInSamples = refl
again CutInLoops = refl
again LowestSample = refl
again OddSamples = refl
again OtherLength = refl
again OutsideWindow = refl
again WrongTag = refl
again BadTagSection = refl

pub one_refusal : (a b : Refusal) → number_of a ≡ number_of b → a ≡ b
one_refusal a b e = sym (again a) ∙ ap refusal_of e ∙ again b

-- a definition of numbers fixes an answer that has nothing but a number
pub one_number : (a b : Result Unit Refusal) → number_in a ≡ number_in b → a ≡ b
one_number (Ok a) (Ok b) e = refl
one_number (Ok a) (Err b) e = absurd (never_accepted b (sym e))
one_number (Err a) (Ok b) e = absurd (never_accepted a e)
one_number (Err a) (Err b) e = ap Err (one_refusal a b e)

-- and one that has a record, whatever a refused call leaves
pub one_answer : {R : Type 0} (left : R) (a b : Result R Refusal) → answer_or left a ≡ answer_or left b → a ≡ b
one_answer left (Ok a) (Ok b) e = ap (λ o. Ok o.next) e
one_answer left (Ok a) (Err b) e = absurd (never_accepted b (sym (ap (λ o. o.refusal) e)))
one_answer left (Err a) (Ok b) e = absurd (never_accepted a (ap (λ o. o.refusal) e))
one_answer left (Err a) (Err b) e = ap Err (one_refusal a b (ap (λ o. o.refusal) e))

-- and one that has a flaw
pub one_flaw : (a b : Result Unit Flaw) → verdict_in a ≡ verdict_in b → a ≡ b
one_flaw (Ok a) (Ok b) e = refl
one_flaw (Ok a) (Err b) e = absurd (never_accepted b.refusal (sym (ap (λ v. v.number) e)))
one_flaw (Err a) (Ok b) e = absurd (never_accepted a.refusal (ap (λ v. v.number) e))
one_flaw (Err a) (Err b) e =
    let same = one_refusal a.refusal b.refusal (ap (λ v. v.number) e) in
    λ i. Err record { refusal = same i; lacks = (e i).lacks }

-- ---- what a caller knows of a call that these rules settle, once it has told an Ok from an Err

-- of a call that makes a record or moves one on
module _ {R : Type 0} (faults : List Fault) (done left : R) {result : Result R Refusal}
    (e : answer_or left result ≡ settled faults (answer accepted done) (λ n. answer n left)) where
  pub ok_first : {next : R} → result ≡ Ok next → accepted ≡ first faults
  ok_first is = ap (λ r. (answer_or left r).refusal) (sym is) ∙ answer_number faults _ _ (λ o. o.refusal) refl (λ n. refl) e

  pub ok_done : {next : R} → result ≡ Ok next → next ≡ done
  ok_done is =
      ap (λ r. (answer_or left r).next) (sym is)
      ∙ ap (λ o. o.next)
      (answer_done faults _ _ (λ o. o.refusal) refl (λ n. refl) e (ap (λ r. (answer_or left r).refusal) is))

  pub err_first : {refusal : Refusal} → result ≡ Err refusal → number_of refusal ≡ first faults
  err_first is = ap (λ r. (answer_or left r).refusal) (sym is) ∙ answer_number faults _ _ (λ o. o.refusal) refl (λ n. refl) e

-- of a call that looks at rules and answers nothing else
module _ (faults : List Fault) {A : Type 0} {result : Result A Refusal} (e : number_in result ≡ first faults) where
  pub kept_first : {a : A} → result ≡ Ok a → accepted ≡ first faults
  kept_first is = ap number_in (sym is) ∙ e

  pub broken_first : {refusal : Refusal} → result ≡ Err refusal → number_of refusal ≡ first faults
  broken_first is = ap number_in (sym is) ∙ e
