-- The cipher record and the registers that it stands for: two words a register, each turned, the older first.
use Rattle.std.specs.Prelude.{◌/◌, ◌%◌, ◌^◌, ◌≡◌}
use Rattle.octets.specs.LowFirst.{turned}
use Rattle.shift_registers.specs.Registers.{State}
use Rattle.triad_taps.specs.Words.{of_words}
use Rattle.triad.specs.declared.Registers.{Registers}

-- spare bits of the record are ignored
unfoldable pub state : Registers → State
state r = of_words r.words

-- the record of a state, with every spare bit zero
unfoldable pub packed : State → Registers
packed s =
    record {
      words =
          record {
            a1 = turned (s.a / 2 ^ 64);
            a0 = turned (s.a % 2 ^ 64);
            b1 = turned (s.b / 2 ^ 64);
            b0 = turned (s.b % 2 ^ 64);
            c1 = turned (s.c / 2 ^ 64);
            c0 = turned (s.c % 2 ^ 64);
          };
    }

-- every spare bit is zero: 48 of a's older word, and 40 of those of b and c
pub record Clean (r : Registers) : Type 0 where
  pub a : r.words.a1 % 2 ^ 48 ≡ 0
  pub b : r.words.b1 % 2 ^ 40 ≡ 0
  pub c : r.words.c1 % 2 ^ 40 ≡ 0
