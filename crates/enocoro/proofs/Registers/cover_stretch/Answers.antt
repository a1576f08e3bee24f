use Rattle.std.proofs.Common.{arith, refl, sym, ◌∙◌}
use Rattle.octets.proofs.Streams.{one_covered}
use Rattle.enocoro.specs.{Calls.ahead, Record.state}
use Rattle.enocoro.proofs.{States.rounds_none, Stretches.stretch_done, Windows.byte_there, Windows.round_there}
use Rattle.enocoro.proofs.Registers.cover_stretch.Goals as goal

pub loop-i-init : goal.loop-i-init
loop-i-init c = record { here = rw c.pair-a.ensures (c.window-w.ensures ∙ sym (rounds_none (state c.args.self))); covered = refl }

pub loop-i-preserved : goal.loop-i-preserved
loop-i-preserved c =
    let l = c.loop-i in
    let s = state c.args.self in
    let byte = byte_there s l.i _ _ _ _ l.invariant.here in
    record {
      here = round_there s l.i _ _ _ _ _ _ l.invariant.here c.slide-a.ensures (omega arith) (omega arith);
      covered =
          one_covered (ahead c.args.self) c.args.bytes.now l.i l.invariant.covered (omega arith) (omega arith)
          (omega (arith, byte));
    }

pub returns : goal.returns
returns c =
    let l = c.loop-i in
    stretch_done c.args.self c.args.bytes.now _ _ _ refl l.invariant.here c.taken.ensures (omega arith) (omega arith)
    l.invariant.covered
