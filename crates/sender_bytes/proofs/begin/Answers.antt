-- The answer decides whether the record is written anew.
use mathlib.Core.Path.{◌≡◌, refl}
use Rattle.std.proofs.Common.{Ok, Err, rules}
use Rattle.std.proofs.lemmas.Result.{err_from_is_err_and}
use Rattle.sender.specs.{Sender.beginning, declared.Sender.Sender}
use Rattle.sender_bytes.specs.Calls.{sender_begin}
use Rattle.sender_bytes.proofs.Anew.{as_it_was, anew}
use Rattle.sender_bytes.proofs.begin.Goals as goal

pub returns-in_err-begun : goal.returns-in_err-begun
unfolding sender_begin beginning
returns-in_err-begun c =
    let p = err_from_is_err_and c.from_residual.result c.from_residual.ensures.1 in
    let refused : c.begin.result ≡ Err c.in_err-begun.field-0.0 = cc c.in_err-begun.was in
    rw (p.1, p.2)
    (as_it_was c.args.sender.now (λ (s : Sender). beginning s c.args.sound.now) _ _ refl c.sender_in.ensures c.begin.ensures
    refused)

pub returns : goal.returns
unfolding sender_begin beginning
returns c =
    let agreed : c.begin.result ≡ Ok c.in_ok-begun.begun = cc c.in_ok-begun.was in
    anew c.args.sender.now (λ (s : Sender). beginning s c.args.sound.now) _ _ refl c.sender_in.ensures c.begin.ensures
    tt (λ h. h.0) agreed (search rules) (search rules) c.write_sender.ensures
