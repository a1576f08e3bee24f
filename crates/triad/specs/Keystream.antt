-- TRIAD-SC's keystream: Algorithm 4. Bits of a byte go with the least significant first.
use Rattle.std.specs.Prelude.{ℕ, ◌*◌, List}
use Rattle.octets.specs.{LowFirst.number_up, Stream.Keystream}
use Rattle.shift_registers.specs.Registers.{State}
use Rattle.triad.specs.State.{loaded, triad_p, updates, outputs, zeros}

-- byte number n of the keystream that begins at s is made of the bits 8n to 8n + 7
unfoldable pub keystream : State → Keystream
keystream s n = number_up (outputs (zeros 8) (updates (zeros (8 * n)) s))

-- the state at which the keystream of a key and a nonce begins
abbrev pub started : List ℕ → List ℕ → State
started key nonce = triad_p (loaded key nonce)
