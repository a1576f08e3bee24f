-- The newest words are new, and the upper ones are what was newest.
use Rattle.taps.specs.Words.{newest}
use Rattle.trivium.specs.{Calls.running, Record.state}
use Rattle.trivium.proofs.Running.stride.Goals as goal

pub returns : goal.returns
unfolding running newest state
returns c =
    let w = c.args.self.registers.words in
    let new = c.stride-new.ensures in
    λ i.
    record {
      word = (new i).z;
      next =
          record {
            registers =
                record {
                  words =
                      record {
                        a1 = w.a0;
                        a0 = (new i).a;
                        b1 = w.b0;
                        b0 = (new i).b;
                        c1 = w.c0;
                        c0 = (new i).c;
                      };
                };
          };
    }
