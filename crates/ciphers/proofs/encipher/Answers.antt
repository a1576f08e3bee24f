-- `ciphers::encipher`, whatever the cipher: without room the first rule is broken, and with room what was copied to the
-- front is enciphered there.
use Rattle.std.proofs.Common.{◌-◌, length, arith}
use Rattle.refusals.specs.Answers.{answer}
use Rattle.refusals.proofs.Settled.{left_at}
use Rattle.ciphers.proofs.Enciphering.{in_front}
use Rattle.ciphers.proofs.encipher.Goals as goal

pub returns-then-output-n : goal.returns-then-output-n
returns-then-output-n g c = left_at _ _ _ 0 tt (omega arith)

pub returns : goal.returns
returns g c =
    in_front answer g.C.StreamCipher.ahead g.C.StreamCipher.moved c.args.cipher c.args.input.now c.args.output.now _
    (length c.args.input.now - 0) c.copy.ensures (omega arith) (omega arith) c.cover.ensures
