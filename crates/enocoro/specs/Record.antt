-- The cipher record and the state that it stands for: eight bytes b a word, the first of them as the most significant.
-- Every record stands for a state, and there are no spare bits.
use Rattle.std.specs.Prelude.{◌%◌, ◌++◌}
use Rattle.octets.specs.{Digits.digits, Digits.number_at}
use Rattle.enocoro.specs.{State.State, declared.Registers.Registers}

unfoldable pub state : Registers → State
state r =
    record {
      a0 = r.a0 % 256;
      a1 = r.a1 % 256;
      b = digits 256 8 r.b0 ++ digits 256 8 r.b1 ++ digits 256 8 r.b2 ++ digits 256 8 r.b3;
    }

-- the record of a state
unfoldable pub packed : State → Registers
packed s =
    record {
      a0 = s.a0;
      a1 = s.a1;
      b0 = number_at s.b 0 8;
      b1 = number_at s.b 8 8;
      b2 = number_at s.b 16 8;
      b3 = number_at s.b 24 8;
    }
