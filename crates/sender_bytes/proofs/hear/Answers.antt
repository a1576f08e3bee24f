-- The answer decides whether the record is written anew.
use mathlib.Core.Path.{◌≡◌, refl}
use Rattle.std.proofs.Common.{Ok, Err, rules}
use Rattle.std.proofs.lemmas.Result.{err_from_is_err_and}
use Rattle.sender.specs.{Sender.hearing, declared.Sender.Sender}
use Rattle.sender_bytes.specs.Calls.{sender_hear}
use Rattle.sender_bytes.proofs.Anew.{as_it_was, anew}
use Rattle.sender_bytes.proofs.hear.Goals as goal

pub returns-in_err-informed : goal.returns-in_err-informed
unfolding sender_hear hearing
returns-in_err-informed c =
    let p = err_from_is_err_and c.from_residual.result c.from_residual.ensures.1 in
    let refused : c.hear.result ≡ Err c.in_err-informed.field-0.0 = cc c.in_err-informed.was in
    rw (p.1, p.2)
    (as_it_was c.args.sender.now (λ (s : Sender). hearing s c.args.frame.now) _ _ refl c.sender_in.ensures c.hear.ensures
    refused)

pub returns : goal.returns
unfolding sender_hear hearing
returns c =
    let agreed : c.hear.result ≡ Ok c.in_ok-informed.informed = cc c.in_ok-informed.was in
    anew c.args.sender.now (λ (s : Sender). hearing s c.args.frame.now) _ _ refl c.sender_in.ensures c.hear.ensures
    tt (λ h. h.0) agreed (search rules) (search rules) c.write_sender.ensures
