-- The maker's answer decides, and then the room.
use mathlib.Core.Path.{refl, sym, ap, ◌∙◌}
use Rattle.std.specs.Prelude.{Result}
use Rattle.std.proofs.lemmas.Result.{err_from_is_err_and}
use Rattle.refusals.specs.declared.Refusal.{Refusal}
use Rattle.refusals.proofs.Answers.{never_accepted}
use Rattle.names.specs.Naming.{no_key, no_pair}
use Rattle.record_bytes.proofs.Making.{made_refused, made_short, made_stored}
use Rattle.sender.specs.{Sender.fresh_sender, Sender.making_sender, Answers.SenderAnswer, Answers.answer_of, declared.Sender.Sender}
use Rattle.sender_record.{specs.Record.sender_bytes, proofs.Record.length_sender}
use Rattle.sender_bytes.specs.Calls.{sender_make}
use Rattle.sender_bytes.proofs.make.Goals as goal

-- refused, there are only zeros to give
abbrev told : Result Sender Refusal → SenderAnswer
told r = answer_of (fresh_sender no_key no_pair) r

pub returns-in_err-made : goal.returns-in_err-made
unfolding sender_make making_sender
returns-in_err-made c =
    let p = err_from_is_err_and c.from_residual.result c.from_residual.ensures.1 in
    rw (p.1, p.2)
    (made_refused _ _ _ (λ a. a.refusal) (λ a. sender_bytes a.sender) _ _ tt refl (λ n. refl)
    (ap told (sym c.in_err-made.was) ∙ c.new.ensures) (never_accepted c.in_err-made.field-0.0))

pub returns-then-sender-lt-SENDER_BYTES : goal.returns-then-sender-lt-SENDER_BYTES
unfolding sender_make making_sender
returns-then-sender-lt-SENDER_BYTES c =
    made_short _ _ _ (λ a. a.refusal) (λ a. sender_bytes a.sender) _ _ tt refl (λ n. refl)
    (ap told (sym c.in_ok-made.was) ∙ c.new.ensures) refl c.if-sender-lt-SENDER_BYTES.true

pub returns : goal.returns
unfolding sender_make making_sender
returns c =
    let p = c.args in
    made_stored _ _ _ (λ a. a.refusal) (λ a. sender_bytes a.sender) _ _ tt refl (λ n. refl)
    (ap told (sym c.in_ok-made.was) ∙ c.new.ensures) refl c.if-sender-lt-SENDER_BYTES.false
    (λ h. length_sender (fresh_sender p.key.now p.pair.now) h.0 h.1.0)
    c.write_sender.ensures
