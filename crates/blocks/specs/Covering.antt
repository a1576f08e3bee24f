-- A sound under its session's keystream, whatever the cipher: one stream from block 0.
use Rattle.std.specs.Prelude.{ℕ, List, ◌++◌}
use Rattle.octets.specs.{Digits.digits, Stream.Cipher, Stream.from, Stream.enciphered}
use Rattle.blocks.specs.Blocks.{place}

-- the initial value of a session: the pair name, then the session
unfoldable pub initial : List ℕ → ℕ → List ℕ
initial pair session = pair ++ digits 256 4 session

-- block k, there and back again
unfoldable pub covered : Cipher → List ℕ → List ℕ → ℕ → ℕ → List ℕ → List ℕ
covered cipher key pair session k run = enciphered (from (place k) (cipher.stream key (initial pair session))) run
