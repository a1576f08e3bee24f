-- Words that look random: each is the one before it, mixed with itself three times.
use Rattle.std.specs.Prelude.{ℕ, ◌*◌, ◌/◌, ◌%◌, ◌^◌}
use Rattle.std.specs.Int.Bits.{bit_xor}

-- a word's exclusive or with itself moved up by n bits, and with itself moved down
abbrev pub mixed_up : ℕ → ℕ → ℕ
mixed_up n x = bit_xor x (x * 2 ^ n % 2 ^ 64)

abbrev pub mixed_down : ℕ → ℕ → ℕ
mixed_down n x = bit_xor x (x / 2 ^ n)

-- Marsaglia's three moves: up by 13, down by 7, up by 17
abbrev pub shuffling : ℕ → ℕ
shuffling x = mixed_up 17 (mixed_down 7 (mixed_up 13 x))
