-- The maker's number decides, and then the room.
use Rattle.std.proofs.Common.{refl, arith}
use Rattle.std.proofs.lemmas.Result.{err_from_is_err_and}
use Rattle.refusals.proofs.Answers.{never_accepted}
use Rattle.record_bytes.proofs.Making.{made_refused, made_short, made_stored}
use Rattle.triad.specs.Calls.{making_cipher}
use Rattle.triad_bytes.specs.{Calls.triad_make, Record.triad_bytes}
use Rattle.triad_bytes.proofs.Record.{length_triad, triad_written}
use Rattle.triad_bytes.proofs.make.Goals as goal

pub returns-in_err-made : goal.returns-in_err-made
unfolding triad_make making_cipher
returns-in_err-made c =
    let no = err_from_is_err_and c.from_residual.result c.from_residual.ensures.1 in
    rw (no.1, no.2)
    (made_refused _ _ _ (λ a. a.refusal) (λ a. triad_bytes a.next) _ _ tt refl (λ n. refl) c.in_err-made.ensures
    (never_accepted c.in_err-made.field-0.0))

pub returns-then-cipher-lt-CIPHER_BYTES : goal.returns-then-cipher-lt-CIPHER_BYTES
unfolding triad_make making_cipher
returns-then-cipher-lt-CIPHER_BYTES c =
    made_short _ _ _ (λ a. a.refusal) (λ a. triad_bytes a.next) _ _ tt refl (λ n. refl) c.in_ok-made.ensures refl
    (omega arith)

pub returns : goal.returns
unfolding triad_make making_cipher
returns c =
    made_stored _ _ _ (λ a. a.refusal) (λ a. triad_bytes a.next) _ _ tt refl (λ n. refl) c.in_ok-made.ensures refl
    (omega arith) (λ _. length_triad _)
    (triad_written _ _ refl c.write_six_words.ensures)
