-- Without room it does nothing; with it the numbers make the row.
use Rattle.std.proofs.Common.{arith, refl, ◌∙◌, length-set}
use Rattle.octets.proofs.{Buffers.put_none, Rows.length_row, Rows.row_written}
use Rattle.record_bytes.proofs.Fields.{then_written}
use Rattle.enocoro_bytes.specs.Record.{enocoro_widths, enocoro_numbers, enocoro_bytes}
use Rattle.enocoro_bytes.proofs.Record.{byte_stored}
use Rattle.enocoro_bytes.proofs.write_cipher.Goals as goal

pub returns-then-d-lt-CIPHER_BYTES : goal.returns-then-d-lt-CIPHER_BYTES
unfolding enocoro_bytes
returns-then-d-lt-CIPHER_BYTES c =
    put_none c.args.d.now 0 (enocoro_bytes c.args.cipher)
    (rw (length_row enocoro_widths (enocoro_numbers c.args.cipher)) (omega arith))

pub returns : goal.returns
unfolding enocoro_bytes
returns c =
    let r = c.args.cipher in
    then_written 26 8 r.b3 c.write_word-4.ensures
    (then_written 18 8 r.b2 c.write_word-3.ensures
    (then_written 10 8 r.b1 c.write_word-2.ensures
    (then_written 2 8 r.b0 c.write_word.ensures
    (byte_stored 1 r.a1 (byte_stored 0 r.a0 refl (omega arith) (omega arith) (omega arith) (omega arith))
    (omega arith) (omega arith) (omega arith) (simp length-set (omega arith)))
    (omega arith) (omega arith) (omega arith))
    (omega arith) (omega arith) (omega arith))
    (omega arith) (omega arith) (omega arith))
    (omega arith) (omega arith) (omega arith)
    ∙ row_written c.args.d.now enocoro_widths (enocoro_numbers r) 0 (omega arith)
