-- At each turn, the rounds still to come lead to what is owed.
use Rattle.std.proofs.Common.{◌≡◌, ◌-◌, length}
use Rattle.enocoro.specs.{Record.state, State.blanks, State.warm_up, Window.windowed}
use Rattle.enocoro.proofs.Registers.warmed_up.Given as goal

abbrev pub invariant-loop-round : goal.invariant-loop-round
invariant-loop-round l =
    record {
      long : length l.w ≡ 288;
      owed :
          blanks (warm_up - l.round) l.counter (windowed l.w (256 - l.round) l.a.a0 l.a.a1)
          ≡ blanks warm_up 1 (state l.fn.self);
    }
