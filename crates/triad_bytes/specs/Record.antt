-- TRIAD's record as bytes: six words, of each register the older first, and in each word the newest bit as the most
-- significant.
use Rattle.std.specs.Prelude.{ℕ, List}
use Rattle.shift_registers.specs.declared.SixWords.{SixWords}
use Rattle.record_bytes.specs.SixWords.{six_bytes, six_in}
use Rattle.triad.specs.declared.Registers.{Registers}

abbrev pub triad_size : ℕ
triad_size = 48

abbrev pub six_of : Registers → SixWords
six_of r = r.words

unfoldable pub triad_bytes : Registers → List ℕ
triad_bytes r = six_bytes (six_of r)

-- what is read back
abbrev pub registers_of : SixWords → Registers
registers_of w = record { words = w }

unfoldable pub triad_in : List ℕ → Registers
triad_in bytes = registers_of (six_in bytes)
