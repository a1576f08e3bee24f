-- Registers in words of 64 bits, and what steps make of them.
use Rattle.std.specs.Prelude.{ℕ, ◌+◌, ◌-◌, ◌*◌, ◌/◌, ◌%◌, ◌^◌, List}
use Rattle.octets.specs.Digits.{number}
use Rattle.shift_registers.specs.{Registers.State, Steps.Mover, Steps.steps_by, Steps.bits_by}
use Rattle.shift_registers.specs.declared.Newest.{Newest}

-- a register of w bits in two words: the bits from w on are spare, and ignored
abbrev pub joined : ℕ → ℕ → ℕ → ℕ
joined w upper lower = (upper * 2 ^ 64 + lower) % 2 ^ w

-- 64 bits of two words, from the one that has n before it; the last 64 from n = 64 on
abbrev pub shifted : ℕ → ℕ → ℕ → ℕ
shifted upper lower n = (upper * 2 ^ 64 + lower) / 2 ^ (64 - n) % 2 ^ 64

-- what steps put out, the first bit as the most significant, and the 64 newest bits that each register then has
unfoldable pub newest_by : Mover → List ℕ → State → Newest
newest_by m taken s =
    record {
      z = number 2 (bits_by m taken s);
      a = (steps_by m taken s).a % 2 ^ 64;
      b = (steps_by m taken s).b % 2 ^ 64;
      c = (steps_by m taken s).c % 2 ^ 64;
    }
