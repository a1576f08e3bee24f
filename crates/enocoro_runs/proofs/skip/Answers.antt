use Rattle.std.proofs.Common.{◌*◌, ◌%◌, arith, refl, sym, length-take}
use Rattle.enocoro.proofs.{States.skip_none, Stretches.gone_over, Stretches.gone_on}
use Rattle.enocoro_runs.proofs.skip.Goals as goal

pub loop-init : goal.loop-init
loop-init c = record {
  long = refl;
  gone =
      skip_none c.args.registers
      (record {
        a0 = omega arith;
        a1 = omega arith;
        b0 = omega arith;
        b1 = omega arith;
        b2 = omega arith;
        b3 = omega arith;
      });
}

pub loop-preserved : goal.loop-preserved
loop-preserved c = record {
  long = omega arith;
  gone =
      gone_on c.args.registers c.loop.moved (256 * c.loop.counter) 256 c.loop.invariant.gone
      (gone_over c.loop.moved c.loop.unread c.cover-moved.ensures (sym c.loop.invariant.long)) (omega arith);
}

pub returns : goal.returns
returns c =
    gone_on c.args.registers c.loop.moved (256 * c.loop.counter) (c.args.bytes % 256) c.loop.invariant.gone
    (gone_over c.loop.moved _ c.cover.ensures (simp length-take (omega arith))) (omega arith)
