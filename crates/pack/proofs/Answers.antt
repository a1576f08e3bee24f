-- What an answer of opening or sealing that is an Ok or an Err tells its caller. What a definition says of numbers fixes
-- the answer.
use mathlib.Core.{List.List, Path.◌≡◌, Path.refl, Path.sym, Path.ap, Path.◌∙◌}
use Rattle.std.specs.Prelude.{ℕ, Result, Ok, Err, IsErrAnd}
use Rattle.refusals.specs.{Numbers.accepted, Answers.number_of, Answers.number_in, declared.Refusal.Refusal, declared.Flaw.Flaw}
use Rattle.refusals.specs.Rules.{Fault, first, settled}
use Rattle.refusals.proofs.{Answers.never_accepted, Answers.one_refusal, Settled.answer_number, Settled.answer_done}
use Rattle.refusals.proofs.Settled.{answer_left}
use Rattle.pack.specs.Answers.{Opened, opening_of, sealed_of}
use Rattle.pack.specs.Calls.{refused_opening}
use Rattle.pack.specs.declared.Opened as code

-- a refused answer is its number, what is missing, and zeros
pub refused_is : (flaw : Flaw) → opening_of (Err flaw) ≡ refused_opening flaw.lacks (number_of flaw.refusal)
refused_is flaw = refl

-- and a `?` passes it on
pub passed_on : (r : Result code.Opened Flaw) (flaw : Flaw) → IsErrAnd r (λ y. y ≡ flaw)
    → opening_of r ≡ opening_of (Err flaw)
passed_on (Ok a) flaw e = absurd e
passed_on (Err y) flaw e = ap (λ (f : Flaw). opening_of (Err f)) e

-- so is a number
pub number_passed : (r : Result Unit Refusal) (refusal : Refusal) → IsErrAnd r (λ y. y ≡ refusal)
    → number_of refusal ≡ number_in r
number_passed (Ok a) refusal e = absurd e
number_passed (Err y) refusal e = ap number_of (sym e)

pub one_opening : (a b : Result code.Opened Flaw) → opening_of a ≡ opening_of b → a ≡ b
one_opening (Ok a) (Ok b) e =
    λ i. Ok record {
      samples = (e i).samples;
      key = (e i).key;
      loops = (e i).loops;
      name_length = (e i).name_length;
      name_at = (e i).name_at;
      value_at = (e i).value_at;
      loops_at = (e i).loops_at;
    }
one_opening (Ok a) (Err b) e = absurd (never_accepted b.refusal (sym (ap (λ o. o.refusal) e)))
one_opening (Err a) (Ok b) e = absurd (never_accepted a.refusal (ap (λ o. o.refusal) e))
one_opening (Err a) (Err b) e =
    let same = one_refusal a.refusal b.refusal (ap (λ o. o.refusal) e) in
    λ i. Err record { refusal = same i; lacks = (e i).lacks }

pub one_sealed : (a b : Result ℕ Refusal) → sealed_of a ≡ sealed_of b → a ≡ b
one_sealed (Ok a) (Ok b) e = ap (λ s. Ok s.length) e
one_sealed (Ok a) (Err b) e = absurd (never_accepted b (sym (ap (λ s. s.refusal) e)))
one_sealed (Err a) (Ok b) e = absurd (never_accepted a (ap (λ s. s.refusal) e))
one_sealed (Err a) (Err b) e = ap Err (one_refusal a b (ap (λ s. s.refusal) e))

-- ---- what a caller knows of an opening that these rules settle, once it has told an Ok from an Err

module _ (faults : List Fault) (done : Opened) (lacks : ℕ) (fine : done.refusal ≡ accepted)
    (result : Result code.Opened Flaw) (e : opening_of result ≡ settled faults done (refused_opening lacks)) where
  number : (opening_of result).refusal ≡ first faults
  number = answer_number faults done (refused_opening lacks) (λ o. o.refusal) fine (λ n. refl) e

  pub ok_first : {opened : code.Opened} → result ≡ Ok opened → accepted ≡ first faults
  ok_first is = ap (λ r. (opening_of r).refusal) (sym is) ∙ number

  pub ok_done : {opened : code.Opened} → result ≡ Ok opened → opening_of (Ok opened) ≡ done
  ok_done is =
      ap opening_of (sym is)
      ∙ answer_done faults done (refused_opening lacks) (λ o. o.refusal) fine (λ n. refl) e
      (ap (λ r. (opening_of r).refusal) is)

  pub err_first : {flaw : Flaw} → result ≡ Err flaw → number_of flaw.refusal ≡ first faults
  err_first is = ap (λ r. (opening_of r).refusal) (sym is) ∙ number

  pub err_lacks : {flaw : Flaw} → result ≡ Err flaw → flaw.lacks ≡ lacks
  err_lacks {flaw} is =
      ap (λ r. (opening_of r).lacks) (sym is)
      ∙ ap (λ o. o.lacks)
      (answer_left faults done (refused_opening lacks) (λ o. o.refusal) fine (λ n. refl) e
      (λ z. never_accepted flaw.refusal (ap (λ r. (opening_of r).refusal) (sym is) ∙ z)))
