-- Enocoro-128v2's keystream, a byte a round.
use Rattle.octets.specs.Stream.{Keystream, Cipher, untagged}
use Rattle.enocoro.specs.State.{State, rounds, started}

-- 6.1.4: byte number n is a1 before round n
unfoldable pub keystream : State → Keystream
keystream s n = (rounds n s).a1

-- the keystream of a key of 16 bytes and an initial value of eight
abbrev pub enocoro : Cipher
enocoro = untagged 16 8 (λ key iv. keystream (started key iv))
