-- TRIAD's registers in words of 64 bits. Each word stands turned, its newest bit as the most significant: so what comes
-- out first is the least significant bit, as the cipher counts the bits of a byte.
use Rattle.std.specs.Prelude.{ℕ, ◌%◌, ◌^◌, List}
use Rattle.octets.specs.LowFirst.{number_up, turned}
use Rattle.shift_registers.specs.{Registers.State, Words.joined, declared.Newest.Newest, declared.SixWords.SixWords}
use Rattle.triad_taps.specs.Update.{updates, outputs}

-- the registers in six words, the older of each first; a register's spare bits are the lowest of its older word
abbrev pub of_words : SixWords → State
of_words w =
    record {
      a = joined 80 (turned w.a1) (turned w.a0);
      b = joined 88 (turned w.b1) (turned w.b0);
      c = joined 88 (turned w.c1) (turned w.c0);
    }

-- what updates put out, the first bit as the least significant, and the 64 newest bits that each register then has
unfoldable pub newest : List ℕ → State → Newest
newest message s =
    record {
      z = number_up (outputs message s);
      a = turned ((updates message s).a % 2 ^ 64);
      b = turned ((updates message s).b % 2 ^ 64);
      c = turned ((updates message s).c % 2 ^ 64);
    }
