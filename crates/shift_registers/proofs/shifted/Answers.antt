-- Two shifts take bits of both words.
use native.Mathlib.Omega.{arith}
use Prim.Native.Nat.{◌-◌}
use Rattle.octets.proofs.Shifts.{both_words}
use Rattle.shift_registers.proofs.shifted.Goals as goal

pub returns : goal.returns
returns c = both_words c.args.upper c.args.lower c.args.n (64 - c.args.n) (omega arith) (omega arith)
