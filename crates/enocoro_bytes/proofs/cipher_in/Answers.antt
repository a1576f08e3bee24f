-- Number by number, and eight bytes fill no more than a word.
use Rattle.std.proofs.Common.{◌≡◌, ℕ, arith}
use Rattle.octets.specs.Digits.{number_at, word}
use Rattle.octets.proofs.Numbers.{number_read}
use Rattle.record_bytes.proofs.Fields.{byte_there}
use Rattle.enocoro_bytes.proofs.Record.{cipher_read}
use Rattle.enocoro_bytes.proofs.cipher_in.Goals as goal

pub returns : goal.returns
returns c =
    let bytes = c.args.bytes.now in
    let read : (at : ℕ) → word (number_at bytes at 8) ≡ number_at bytes at 8 =
    λ at. number_read bytes at 8 (λ i. omega (arith, c.type_inv.bytes i)) (omega arith) in
    cipher_read bytes (byte_there bytes 0 (omega arith) (omega arith)) (byte_there bytes 1 (omega arith) (omega arith))
    (omega (arith, c.number_at.ensures, read 2)) (omega (arith, c.number_at-2.ensures, read 10))
    (omega (arith, c.number_at-3.ensures, read 18)) (omega (arith, c.number_at-4.ensures, read 26))
