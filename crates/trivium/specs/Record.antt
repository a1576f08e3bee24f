-- The cipher record and the registers that it stands for: two words a register, the upper first.
use Rattle.std.specs.Prelude.{◌/◌, ◌%◌, ◌^◌, ◌<◌}
use Rattle.taps.specs.{Registers.State, Words.of_words}
use Rattle.trivium.specs.declared.Registers.{Registers}

-- spare bits of the record are ignored
unfoldable pub state : Registers → State
state r = of_words r.words

-- the record of a state, with every spare bit zero
unfoldable pub packed : State → Registers
packed s =
    record {
      words =
          record {
            a1 = s.a / 2 ^ 64;
            a0 = s.a % 2 ^ 64;
            b1 = s.b / 2 ^ 64;
            b0 = s.b % 2 ^ 64;
            c1 = s.c / 2 ^ 64;
            c0 = s.c % 2 ^ 64;
          };
    }

-- every spare bit is zero
pub record Clean (r : Registers) : Type 0 where
  pub a : r.words.a1 < 2 ^ 29
  pub b : r.words.b1 < 2 ^ 20
  pub c : r.words.c1 < 2 ^ 47
