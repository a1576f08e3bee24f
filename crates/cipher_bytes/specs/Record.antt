-- A cipher as bytes: each register in 16 of them as one number, its newest bit the lowest.
use Rattle.std.specs.Prelude.{ℕ, List}
use Rattle.shift_registers.specs.declared.SixWords.{SixWords}
use Rattle.record_bytes.specs.SixWords.{six_bytes, six_in}
use Rattle.trivium.specs.declared.Registers.{Registers}

abbrev pub cipher_size : ℕ
cipher_size = 48

-- six words of 64 bits: of each register the upper word, then its 64 newest bits
abbrev pub six_of : Registers → SixWords
six_of r = r.words

unfoldable pub cipher_bytes : Registers → List ℕ
cipher_bytes r = six_bytes (six_of r)

-- what is read back
abbrev pub registers_of : SixWords → Registers
registers_of w = record { words = w }

unfoldable pub cipher_in : List ℕ → Registers
cipher_in bytes = registers_of (six_in bytes)
