-- `hear`: the number decides whether the record is written anew and a length is told.
use Rattle.std.proofs.Common.{◌∙◌, ℕ, List, refl, sym, ap, rules}
use Rattle.std.proofs.lemmas.Result.{err_from_is_err_and}
use Rattle.octets.proofs.Buffers.{put_whole}
use Rattle.refusals.specs.{Numbers.accepted, Answers.number_of}
use Rattle.refusals.proofs.{Answers.never_accepted, Faults.first_right}
use Rattle.refusals.proofs.Settled.{answer_number, answer_left, over_refused, over_done}
use Rattle.trivium.specs.Keystream.{trivium}
use Rattle.receiver.specs.{Receiver.Received, Receiver.receiving, declared.Receiver.Receiver}
use Rattle.receiver_bytes.specs.Calls.{Reception, reception, receiver_hear}
use Rattle.receiver_bytes.specs.Record.{receiver_bytes}
use Rattle.receiver_bytes.proofs.Record.{length_receiver, in_rule_size}
use Rattle.receiver_bytes.proofs.hear.Goals as goal

-- what the call tells of the receiver's own outcome
abbrev told : Received → Reception
told o = reception (receiver_bytes o.answer.receiver) o.sound o.reply o.answer.length accepted

pub returns-in_err-answered : goal.returns-in_err-answered
unfolding receiver_hear receiving
returns-in_err-answered c =
    let p = c.args in
    let gone = err_from_is_err_and c.from_residual.result c.from_residual.ensures.1 in
    let own =
    c.in_err-answered.ensures
    ∙ ap (λ (r : Receiver). receiving trivium r p.sound.now p.answer.now p.frame.now) c.receiver_in.ensures in
    let some = never_accepted c.in_err-answered.field-0.0 in
    rw (gone.1, gone.2)
    (ap (λ (o : Received). reception p.receiver.now o.sound o.reply p.written.now
    (number_of c.in_err-answered.field-0.0))
    (answer_left _ _ _ (λ o. o.answer.refusal) refl (λ m. refl) own some)
    ∙ over_refused _ _ _ (λ o. o.answer.refusal) refl (λ m. refl) own told
    (reception p.receiver.now p.sound.now p.answer.now p.written.now) some)

pub returns : goal.returns
unfolding receiver_hear receiving
returns c =
    let p = c.args in
    let a = c.in_ok-answered.answered in
    let own =
    c.in_ok-answered.ensures
    ∙ ap (λ (r : Receiver). receiving trivium r p.sound.now p.answer.now p.frame.now) c.receiver_in.ensures in
    let rule = first_right _ _ tt (sym (answer_number _ _ _ (λ o. o.answer.refusal) refl (λ m. refl) own)) in
    let long = length_receiver a.receiver (search rules) (search rules) ∙ sym (in_rule_size p.receiver.now rule) in
    ap (λ (l : List ℕ). reception l c.hear.new.sound c.hear.new.answer a.length accepted)
    (c.write_receiver.ensures ∙ put_whole p.receiver.now (receiver_bytes a.receiver) long)
    ∙ over_done _ _ _ (λ o. o.answer.refusal) refl (λ m. refl) own told
    (reception p.receiver.now p.sound.now p.answer.now p.written.now) refl
