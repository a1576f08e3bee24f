-- The length decides, then the cipher's number.
use Rattle.std.proofs.Common.{arith, refl}
use Rattle.std.proofs.lemmas.Result.{err_from_is_err_and}
use Rattle.refusals.specs.Answers.{answer}
use Rattle.refusals.proofs.{Answers.never_accepted, Settled.left_at}
use Rattle.enocoro.specs.Calls.{skipping, ahead}
use Rattle.record_bytes.proofs.Ciphers.{kept_refused, kept_done}
use Rattle.enocoro_bytes.specs.{Calls.enocoro_encipher, Record.enocoro_size, Record.enocoro_bytes, Record.enocoro_in}
use Rattle.enocoro_bytes.proofs.Record.{length_cipher}
use Rattle.enocoro_bytes.proofs.encipher.Goals as goal

pub returns-then-cipher-ne-CIPHER_BYTES : goal.returns-then-cipher-ne-CIPHER_BYTES
unfolding enocoro_encipher
returns-then-cipher-ne-CIPHER_BYTES c = left_at _ _ _ 0 tt (omega arith)

pub returns-in_err-next : goal.returns-in_err-next
unfolding enocoro_encipher
returns-in_err-next c =
    let p = err_from_is_err_and c.from_residual.result c.from_residual.ensures.1 in
    rw (p.1, p.2)
    (kept_refused enocoro_size enocoro_in enocoro_bytes ahead skipping answer (λ a. a.refusal) (λ a. a.next) (λ n r. refl)
    (λ n r. refl) c.args.cipher.now c.args.input.now c.args.output.now c.in_err-next.ensures c.cipher_in.ensures
    (omega arith) (never_accepted _))

pub returns : goal.returns
unfolding enocoro_encipher
returns c =
    kept_done enocoro_size enocoro_in enocoro_bytes ahead skipping answer (λ a. a.refusal) (λ a. a.next) (λ n r. refl)
    (λ n r. refl) c.args.cipher.now c.args.input.now c.args.output.now c.in_ok-next.ensures c.cipher_in.ensures
    (omega arith) length_cipher refl c.write_cipher.ensures
