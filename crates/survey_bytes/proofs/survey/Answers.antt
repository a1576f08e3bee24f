-- Without a flaw the file is accepted, and then the seven numbers have room or not.
use Rattle.std.proofs.Common.{ℕ, ◌≡◌, List, length, refl, sym, ap, ap₂, ◌∙◌, arith, rules}
use Rattle.octets.specs.Buffers.{placed, put}
use Rattle.octets.proofs.Buffers.{put_placed}
use Rattle.refusals.specs.{Numbers.accepted, Outcome.Outcome, Outcome.outcome, Answers.number_of}
use Rattle.refusals.proofs.Settled.{settled_left, settled_done}
use Rattle.refusals.proofs.Answers.{never_accepted}
use Rattle.pack.specs.Answers.{Opened, opening_of}
use Rattle.std.specs.Prelude.{Ok}
use Rattle.survey_bytes.specs.Calls.{answer_numbers, numbers_room, pack_survey}
use Rattle.pack.proofs.Answers.{number_passed}
use Rattle.survey_bytes.proofs.Surveyed.{refused_first, all_told, short_next, fits_then}
use Rattle.survey_bytes.proofs.survey.Goals as goal

-- a refused call's answer is as it was lent
kept : (before : List ℕ) {after : List ℕ} {n m : ℕ} {o : Outcome ℕ ℕ} → n ≡ m → outcome m before ≡ o → after ≡ before
    → outcome n after ≡ o
kept before p e same = ap₂ (λ (n : ℕ) (l : List ℕ). outcome n l) p same ∙ e

pub returns-in_err-opened : goal.returns-in_err-opened
unfolding pack_survey
returns-in_err-opened c =
    let a = c.args in
    let flaw = c.in_err-opened.field-0.0 in
    kept a.answer.now (sym (number_passed c.from_residual.result _ c.from_residual.ensures.1))
    (settled_left _ _ _ (number_of flaw.refusal) (never_accepted flaw.refusal)
    (refused_first a.file.now numbers_room (length a.answer.now) flaw c.in_err-opened.ensures))
    (search rules)

pub returns-then-answer-lt-NUMBERS : goal.returns-then-answer-lt-NUMBERS
unfolding pack_survey
returns-then-answer-lt-NUMBERS c =
    kept c.args.answer.now refl
    (settled_left _ _ _ _ (omega arith)
    (short_next c.args.file.now _ c.in_ok-opened.ensures numbers_room (length c.args.answer.now) (omega arith)))
    (search rules)

-- and the numbers go to the answer that was lent
put_to : (before numbers : List ℕ) {here after : List ℕ} → after ≡ put here 0 numbers → here ≡ before
    → after ≡ put before 0 numbers
put_to before numbers e same = e ∙ ap (λ (l : List ℕ). put l 0 numbers) same

pub returns : goal.returns
unfolding pack_survey
returns c =
    let a = c.args in
    let o = c.in_ok-opened.opened in
    ap (λ (l : List ℕ). outcome accepted l)
    (put_to a.answer.now (answer_numbers (opening_of (Ok o))) c.tell.ensures (search rules) ∙ put_placed a.answer.now 0 (answer_numbers (opening_of (Ok o))) (omega arith))
    ∙ ap (λ (o : Opened). outcome accepted (placed a.answer.now 0 (answer_numbers o)))
    (all_told a.file.now o c.in_ok-opened.ensures)
    ∙ settled_done _ _ _ (fits_then a.file.now o c.in_ok-opened.ensures numbers_room (length a.answer.now) (omega arith))
