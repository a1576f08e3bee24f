-- Enocoro's calls on a record that the caller keeps as bytes: the number, and what everything lent holds afterwards.
use Rattle.std.specs.Prelude.{ℕ, List}
use Rattle.refusals.specs.Outcome.{Outcome}
use Rattle.ciphers.specs.Calls.{make_faults}
use Rattle.enocoro.specs.{Calls.skipping, Calls.ahead, Keystream.enocoro, Record.packed, State.started}
use Rattle.record_bytes.specs.{Making.made_of, Ciphers.Ciphered, Ciphers.kept_enciphering}
use Rattle.enocoro_bytes.specs.Record.{enocoro_size, enocoro_bytes, enocoro_in}

-- making: the cipher's own refusals, then room for the record, which goes to the buffer's front
unfoldable pub enocoro_make : List ℕ → List ℕ → List ℕ → Outcome ℕ ℕ
enocoro_make buffer key value =
    made_of (make_faults enocoro key value) enocoro_size (enocoro_bytes (packed (started key value))) buffer

unfoldable pub enocoro_encipher : List ℕ → List ℕ → List ℕ → Ciphered
enocoro_encipher = kept_enciphering enocoro_size enocoro_in enocoro_bytes ahead skipping
