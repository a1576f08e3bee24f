-- The words that come in are the newer ones of 64 updates.
use Rattle.triad_taps.specs.Words.{newest}
use Rattle.triad.specs.{Calls.running, Calls.striding, Record.state, Record.packed}
use Rattle.triad.proofs.Registers.run.Goals as goal

pub returns : goal.returns
unfolding running striding state packed newest
returns c =
    let w = c.args.self.words in
    let new = c.stride-new.ensures in
    λ i.
    record {
      word = (new i).z;
      next =
          record {
            words = record { a1 = w.a0; a0 = (new i).a; b1 = w.b0; b0 = (new i).b; c1 = w.c0; c0 = (new i).c };
          };
    }
