use Rattle.std.proofs.Common.{◌≡◌, ◌-◌, arith, sym, ap, ◌∙◌}
use Rattle.enocoro.specs.{Calls.warming, Record.packed, State.warm_up, Window.windowed}
use Rattle.enocoro.proofs.{States.blanks_none, Windows.blank_there}
use Rattle.enocoro.proofs.Registers.warmed_up.Goals as goal

pub loop-round-preserved : goal.loop-round-preserved
loop-round-preserved c =
    let l = c.loop-round in
    record {
      long = c.slide-a.array_long;
      owed =
          blank_there l.w _ (256 - l.round) (287 - l.round) l.a.a0 l.a.a1 _ _ (warm_up - l.round) l.counter (omega arith)
          c.slide-a.ensures (omega arith) (omega arith) (omega arith) (omega arith) (omega arith) (omega arith)
          (omega arith) c.twice-counter.ensures
          ∙ l.invariant.owed;
    }

pub returns : goal.returns
unfolding warming
returns c =
    let l = c.loop-round in
    let place : 160 ≡ 256 - l.round = omega arith in
    c.taken.ensures ∙ ap (λ at. packed (windowed l.w at l.a.a0 l.a.a1)) place
    ∙ ap packed (sym (blanks_none (warm_up - l.round) l.counter _ (omega arith)) ∙ l.invariant.owed)
