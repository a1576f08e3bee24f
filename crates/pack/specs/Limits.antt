-- The limits of a pack's counts and numbers, each in one place.
use Rattle.std.specs.Prelude.{ℕ}

-- the longest name
abbrev pub most_name : ℕ
most_name = 32

-- the highest key number: a ring has four keys
abbrev pub last_key : ℕ
last_key = 3

abbrev pub most_samples : ℕ
most_samples = 16384

-- the highest sample; the lowest is its opposite
abbrev pub highest_sample : ℕ
highest_sample = 32767

abbrev pub most_loops : ℕ
most_loops = 8

-- the longest file, which is under TRIAD and has every count at its limit
abbrev pub longest_file : ℕ
longest_file = 32893
