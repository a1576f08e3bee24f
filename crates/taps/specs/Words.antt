-- Registers in words of 64 bits, and what steps make of them.
use Rattle.std.specs.Prelude.{ℕ, ◌%◌, ◌^◌}
use Rattle.octets.specs.Digits.{number}
use Rattle.shift_registers.specs.declared.{Newest.Newest, SixWords.SixWords}
pub use Rattle.shift_registers.specs.Words.{joined, shifted}
use Rattle.taps.specs.{Keystream.bits, Registers.State, Registers.steps}

-- the registers that six words stand for
abbrev pub of_words : SixWords → State
of_words w = record { a = joined 93 w.a1 w.a0; b = joined 84 w.b1 w.b0; c = joined 111 w.c1 w.c0 }

-- what n steps put out, the first bit as the most significant, and the 64 newest bits that each register then has
unfoldable pub newest : ℕ → State → Newest
newest n s =
    record {
      z = number 2 (bits n s);
      a = (steps n s).a % 2 ^ 64;
      b = (steps n s).b % 2 ^ 64;
      c = (steps n s).c % 2 ^ 64;
    }
