-- An older word moved down and up again keeps what its register has there.
use native.Mathlib.Omega.{arith}
use Prim.Native.Nat.{◌^◌, ◌<◌}
use Rattle.triad.specs.Record.{state, packed}
use Rattle.triad.proofs.Steps.{older_kept, newer_kept}
use Rattle.triad.proofs.Registers.cleared.Goals as goal

pub returns : goal.returns
unfolding state packed
returns c =
    let w = c.args.self.words in
    let a1 : w.a1 < 2 ^ 64 = omega arith in
    let a0 : w.a0 < 2 ^ 64 = omega arith in
    let b1 : w.b1 < 2 ^ 64 = omega arith in
    let b0 : w.b0 < 2 ^ 64 = omega arith in
    let c1 : w.c1 < 2 ^ 64 = omega arith in
    let c0 : w.c0 < 2 ^ 64 = omega arith in
    λ i.
    record {
      words =
          record {
            a1 = older_kept 16 48 w.a1 w.a0 (omega arith) a1 i;
            a0 = newer_kept 16 w.a1 w.a0 a0 i;
            b1 = older_kept 24 40 w.b1 w.b0 (omega arith) b1 i;
            b0 = newer_kept 24 w.b1 w.b0 b0 i;
            c1 = older_kept 24 40 w.c1 w.c0 (omega arith) c1 i;
            c0 = newer_kept 24 w.c1 w.c0 c0 i;
          };
    }
