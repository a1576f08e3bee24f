-- A remainder of an upper word is what its register has there.
use Prim.Native.Nat.{◌^◌, ◌<◌}
use native.Mathlib.Omega.{arith}
use Rattle.shift_registers.proofs.Words.{upper_kept, lower_kept}
use Rattle.trivium.specs.{Calls.stopping, Record.state, Record.packed}
use Rattle.trivium.proofs.Running.stop.Goals as goal

pub returns : goal.returns
unfolding stopping state packed
returns c =
    let w = c.args.self.registers.words in
    let a0 : w.a0 < 2 ^ 64 = omega arith in
    let b0 : w.b0 < 2 ^ 64 = omega arith in
    let c0 : w.c0 < 2 ^ 64 = omega arith in
    λ i.
    record {
      words =
          record {
            a1 = upper_kept 29 w.a1 w.a0 a0 i;
            a0 = lower_kept 29 w.a1 w.a0 a0 i;
            b1 = upper_kept 20 w.b1 w.b0 b0 i;
            b0 = lower_kept 20 w.b1 w.b0 b0 i;
            c1 = upper_kept 47 w.c1 w.c0 c0 i;
            c0 = lower_kept 47 w.c1 w.c0 c0 i;
          };
    }
