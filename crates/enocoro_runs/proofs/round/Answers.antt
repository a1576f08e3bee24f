-- To cover one byte is one round, and its byte is a1 before that.
use Rattle.std.proofs.Common.{arith, refl}
use Rattle.enocoro.proofs.Stretches.{gone_over, one_round}
use Rattle.enocoro_runs.proofs.round.Goals as goal

pub returns : goal.returns
returns c =
    one_round c.args.registers (omega arith) refl (gone_over c.args.registers _ {n = 1} c.cover.ensures refl) refl
