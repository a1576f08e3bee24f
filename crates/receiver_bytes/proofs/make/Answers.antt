-- `make`: the maker's number decides, and then the room.
use Rattle.std.proofs.Common.{refl, arith}
use Rattle.std.proofs.lemmas.Result.{err_from_is_err_and}
use Rattle.refusals.proofs.Answers.{never_accepted}
use Rattle.record_bytes.proofs.Making.{made_refused, made_stored}
use Rattle.receiver.specs.Receiver.{fresh_receiver, making_receiver}
use Rattle.receiver_bytes.specs.{Calls.receiver_make, Record.receiver_bytes}
use Rattle.receiver_bytes.proofs.Record.{length_receiver}
use Rattle.receiver_bytes.proofs.make.Goals as goal

pub returns-in_err-made : goal.returns-in_err-made
unfolding receiver_make making_receiver
returns-in_err-made c =
    let gone = err_from_is_err_and c.from_residual.result c.from_residual.ensures.1 in
    rw (gone.1, gone.2)
    (made_refused _ _ _ (λ a. a.refusal) (λ a. receiver_bytes a.receiver) _ _ tt refl (λ n. refl)
    c.in_err-made.ensures (never_accepted _))

pub returns : goal.returns
unfolding receiver_make making_receiver
returns c =
    let p = c.args in
    made_stored _ _ _ (λ a. a.refusal) (λ a. receiver_bytes a.receiver) _ _ tt refl (λ n. refl)
    c.in_ok-made.ensures refl (omega arith)
    (λ h. length_receiver (fresh_receiver p.key.now p.pair.now) h.0 h.1.0)
    c.write_receiver.ensures
