-- The cipher's calls on a record that the caller keeps as bytes: the number, and what everything lent holds afterwards.
use Rattle.std.specs.Prelude.{ℕ, List}
use Rattle.refusals.specs.Outcome.{Outcome}
use Rattle.ciphers.specs.Calls.{make_faults}
use Rattle.trivium.specs.{Calls.skipping, Calls.ahead, Keystream.trivium, Record.packed, Registers.started}
use Rattle.record_bytes.specs.{Making.made_of, Ciphers.Ciphered, Ciphers.kept_enciphering}
use Rattle.cipher_bytes.specs.Record.{cipher_size, cipher_bytes, cipher_in}

-- making: the cipher's own refusals, then room for the record, which goes to the buffer's front
unfoldable pub cipher_make : List ℕ → List ℕ → List ℕ → Outcome ℕ ℕ
cipher_make buffer key value =
    made_of (make_faults trivium key value) cipher_size (cipher_bytes (packed (started key value))) buffer

unfoldable pub cipher_encipher : List ℕ → List ℕ → List ℕ → Ciphered
cipher_encipher = kept_enciphering cipher_size cipher_in cipher_bytes ahead skipping
