-- The maker's number decides, and then the room.
use Rattle.std.proofs.Common.{arith, refl}
use Rattle.std.proofs.lemmas.Result.{err_from_is_err_and}
use Rattle.refusals.proofs.Answers.{never_accepted}
use Rattle.record_bytes.proofs.Making.{made_refused, made_short, made_stored}
use Rattle.enocoro.specs.Calls.{making_cipher}
use Rattle.enocoro_bytes.specs.{Calls.enocoro_make, Record.enocoro_bytes}
use Rattle.enocoro_bytes.proofs.Record.{length_cipher}
use Rattle.enocoro_bytes.proofs.make.Goals as goal

pub returns-in_err-registers : goal.returns-in_err-registers
unfolding enocoro_make making_cipher
returns-in_err-registers c =
    let p = err_from_is_err_and c.from_residual.result c.from_residual.ensures.1 in
    rw (p.1, p.2)
    (made_refused _ _ _ (λ a. a.refusal) (λ a. enocoro_bytes a.next) _ _ tt refl (λ n. refl)
    c.in_err-registers.ensures (never_accepted _))

pub returns-then-cipher-lt-CIPHER_BYTES : goal.returns-then-cipher-lt-CIPHER_BYTES
unfolding enocoro_make making_cipher
returns-then-cipher-lt-CIPHER_BYTES c =
    made_short _ _ _ (λ a. a.refusal) (λ a. enocoro_bytes a.next) _ _ tt refl (λ n. refl) c.in_ok-registers.ensures refl
    (omega arith)

pub returns : goal.returns
unfolding enocoro_make making_cipher
returns c =
    made_stored _ _ _ (λ a. a.refusal) (λ a. enocoro_bytes a.next) _ _ tt refl (λ n. refl) c.in_ok-registers.ensures refl
    (omega arith) (λ _. length_cipher _) c.write_cipher.ensures
