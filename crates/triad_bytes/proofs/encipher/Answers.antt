-- The length decides, and then the cipher's number.
use Rattle.std.proofs.Common.{refl, arith}
use Rattle.std.proofs.lemmas.Result.{err_from_is_err_and}
use Rattle.refusals.specs.Answers.{answer}
use Rattle.refusals.proofs.{Answers.never_accepted, Settled.left_at}
use Rattle.triad.specs.Calls.{skipping, ahead}
use Rattle.record_bytes.proofs.Ciphers.{kept_refused, kept_done}
use Rattle.triad_bytes.specs.{Calls.triad_encipher, Record.triad_size, Record.triad_bytes, Record.triad_in}
use Rattle.triad_bytes.proofs.Record.{length_triad, triad_read, triad_written}
use Rattle.triad_bytes.proofs.encipher.Goals as goal

pub returns-then-cipher-ne-CIPHER_BYTES : goal.returns-then-cipher-ne-CIPHER_BYTES
unfolding triad_encipher
returns-then-cipher-ne-CIPHER_BYTES c = left_at _ _ _ 0 tt (omega arith)

pub returns-in_err-next : goal.returns-in_err-next
unfolding triad_encipher
returns-in_err-next c =
    let no = err_from_is_err_and c.from_residual.result c.from_residual.ensures.1 in
    rw (no.1, no.2)
    (kept_refused triad_size triad_in triad_bytes ahead skipping answer (λ a. a.refusal) (λ a. a.next) (λ n r. refl)
    (λ n r. refl) c.args.cipher.now c.args.input.now c.args.output.now c.in_err-next.ensures
    (triad_read c.args.cipher.now c.six_words_in.ensures refl)
    (omega arith) (never_accepted c.in_err-next.field-0.0))

pub returns : goal.returns
unfolding triad_encipher
returns c =
    kept_done triad_size triad_in triad_bytes ahead skipping answer (λ a. a.refusal) (λ a. a.next) (λ n r. refl)
    (λ n r. refl) c.args.cipher.now c.args.input.now c.args.output.now c.in_ok-next.ensures
    (triad_read c.args.cipher.now c.six_words_in.ensures refl)
    (omega arith) length_triad refl
    (triad_written _ _ refl c.write_six_words.ensures)
