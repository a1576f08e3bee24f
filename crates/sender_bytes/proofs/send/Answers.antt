-- The answer decides whether a length is told.
use mathlib.Core.{Path.◌≡◌, Path.refl, Path.sym, Path.ap, Path.subst, Path.◌∙◌, List.List}
use Rattle.std.proofs.Common.{ℕ}
use Rattle.std.specs.Prelude.{Result}
use Rattle.std.proofs.lemmas.Result.{err_from_is_err_and}
use Rattle.refusals.specs.{Numbers.accepted, Outcome.Outcome, Outcome.outcome, Answers.number_of}
use Rattle.refusals.specs.declared.Refusal.{Refusal}
use Rattle.refusals.proofs.{Answers.never_accepted, Settled.answer_left, Settled.over_refused, Settled.over_done}
use Rattle.trivium.specs.Keystream.{trivium}
use Rattle.record_bytes.specs.Written.{wrote}
use Rattle.sender.specs.{Sender.sending, Answers.Sent, Answers.sent_of, declared.Sender.Sender}
use Rattle.sender_record.specs.Record.{sender_in}
use Rattle.sender_bytes.specs.Calls.{sender_send}
use Rattle.sender_bytes.proofs.send.Goals as goal

-- the sending's answer, for the record that the bytes are
own : (sender sound frame after : List ℕ) {s : Sender} {result r : Result ℕ Refusal} → s ≡ sender_in sender
    → outcome (sent_of s result) after ≡ sending trivium s sound frame → result ≡ r
    → outcome (sent_of (sender_in sender) r) after ≡ sending trivium (sender_in sender) sound frame
own sender sound frame after {s} {result} read e is =
    ap (λ (r : Result ℕ Refusal). outcome (sent_of (sender_in sender) r) after) (sym is)
    ∙ subst (λ (s : Sender). outcome (sent_of s result) after ≡ sending trivium s sound frame) read e

pub returns-in_err-written : goal.returns-in_err-written
unfolding sender_send sending
returns-in_err-written c =
    let a = c.args in
    let p = err_from_is_err_and c.from_residual.result c.from_residual.ensures.1 in
    let no = c.in_err-written.field-0.0 in
    let e = own a.sender.now a.sound.now a.frame.now c.send.new.frame c.sender_in.ensures c.send.ensures c.in_err-written.was in
    rw (p.1, p.2)
    (ap (λ (o : Outcome Sent ℕ). wrote o.buffer a.written.now (number_of no))
    (answer_left _ _ _ (λ o. o.answer.refusal) refl (λ m. refl) e (never_accepted no))
    ∙ over_refused _ _ _ (λ o. o.answer.refusal) refl (λ m. refl) e
    (λ o. wrote o.buffer o.answer.length accepted) (wrote a.frame.now a.written.now) (never_accepted no))

pub returns : goal.returns
unfolding sender_send sending
returns c =
    let a = c.args in
    let e = own a.sender.now a.sound.now a.frame.now c.send.new.frame c.sender_in.ensures c.send.ensures c.in_ok-written.was in
    over_done _ _ _ (λ o. o.answer.refusal) refl (λ m. refl) e
    (λ o. wrote o.buffer o.answer.length accepted) (wrote a.frame.now a.written.now) refl
