-- A sound is cut in blocks of 64 bytes; the last may be shorter.
use Rattle.std.specs.Prelude.{ℕ, ◌+◌, ◌-◌, ◌*◌, ◌/◌, min, List}
use Rattle.octets.specs.Buffers.{slice}

-- the most bytes of a sound
abbrev pub longest : ℕ
longest = 32768

-- the bytes of a block
abbrev pub whole : ℕ
whole = 64

-- how many blocks a sound of this length has: length / 64, rounded up
abbrev pub blocks : ℕ → ℕ
blocks length = (length + 63) / whole

-- where block k begins
abbrev pub place : ℕ → ℕ
place k = whole * k

-- how many bytes block k of a sound of this length has
abbrev pub size : ℕ → ℕ → ℕ
size length k = min whole (length - place k)

-- block k of a sound
abbrev pub block_of : List ℕ → ℕ → List ℕ
block_of sound k = slice sound (place k) whole
