-- After i turns the first i bytes are enciphered, those ahead are as they were, and the window, from i places earlier on,
-- holds the state after i rounds.
use Rattle.std.proofs.Common.{◌≡◌, ◌-◌}
use lib.Seq.{paste}
use Rattle.octets.specs.Stream.{enciphered}
use Rattle.enocoro.specs.{Calls.ahead, Record.state, State.rounds, Window.windowed}
use Rattle.enocoro.proofs.Registers.cover_stretch.Given as goal

abbrev pub invariant-loop-i : goal.invariant-loop-i
invariant-loop-i l =
    record {
      here : windowed l.w (256 - l.i) l.a.a0 l.a.a1 ≡ rounds l.i (state l.fn.self);
      covered : l.bytes ≡ paste l.initial.bytes 0 (enciphered (ahead l.fn.self) l.initial.bytes) l.i;
    }
