-- Trivium's keystream: bits in the order of 6.3.1, and bytes by the byte rule.
use Rattle.std.specs.Prelude.{ℕ, zero, suc, ◌*◌, List, [], ◌∷◌}
use Rattle.octets.specs.{Digits.byte_of, Stream.Keystream, Stream.Cipher, Stream.untagged}
use Rattle.taps.specs.Registers.{State, output_bit, next, steps, started}

-- the next n keystream bits, each read before its step
unfoldable pub bits : ℕ → State → List ℕ
bits zero s = []
bits (suc n) s = output_bit s ∷ bits n (next s)

-- byte number n of the keystream that begins at s is made of the bits 8n to 8n + 7
unfoldable pub keystream : State → Keystream
keystream s n = byte_of (bits 8 (steps (8 * n) s))

-- the keystream of a key and an initial value, of ten bytes each
abbrev pub trivium : Cipher
trivium = untagged 10 10 (λ key iv. keystream (started key iv))
