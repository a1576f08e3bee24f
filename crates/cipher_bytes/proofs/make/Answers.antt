-- The maker's number decides, and then the room.
use Rattle.std.proofs.Common.{refl}
use Rattle.std.proofs.lemmas.Result.{err_from_is_err_and}
use Rattle.refusals.proofs.Answers.{never_accepted}
use Rattle.record_bytes.proofs.Making.{made_refused, made_short, made_stored}
use Rattle.trivium.specs.Calls.{making_cipher}
use Rattle.cipher_bytes.specs.{Calls.cipher_make, Record.cipher_bytes}
use Rattle.cipher_bytes.proofs.Record.{length_cipher, cipher_written}
use Rattle.cipher_bytes.proofs.make.Goals as goal

pub returns-in_err-registers : goal.returns-in_err-registers
unfolding cipher_make making_cipher
returns-in_err-registers c =
    let no = err_from_is_err_and c.from_residual.result c.from_residual.ensures.1 in
    rw (no.1, no.2)
    (made_refused _ _ _ (λ a. a.refusal) (λ a. cipher_bytes a.next) _ _ tt refl (λ n. refl) c.in_err-registers.ensures
    (never_accepted c.in_err-registers.field-0.0))

pub returns-then-cipher-lt-CIPHER_BYTES : goal.returns-then-cipher-lt-CIPHER_BYTES
unfolding cipher_make making_cipher
returns-then-cipher-lt-CIPHER_BYTES c =
    made_short _ _ _ (λ a. a.refusal) (λ a. cipher_bytes a.next) _ _ tt refl (λ n. refl) c.in_ok-registers.ensures refl
    c.if-cipher-lt-CIPHER_BYTES.true

pub returns : goal.returns
unfolding cipher_make making_cipher
returns c =
    made_stored _ _ _ (λ a. a.refusal) (λ a. cipher_bytes a.next) _ _ tt refl (λ n. refl) c.in_ok-registers.ensures refl
    c.if-cipher-lt-CIPHER_BYTES.false (λ _. length_cipher _)
    (cipher_written _ _ refl c.write_six_words.ensures)
