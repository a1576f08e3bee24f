-- TRIAD's calls on a record that the caller keeps as bytes, and its tag: the number, and what everything lent holds
-- afterwards.
use Rattle.std.specs.Prelude.{ℕ, List}
use Rattle.refusals.specs.Outcome.{Outcome}
use Rattle.ciphers.specs.Calls.{make_faults}
use Rattle.triad.specs.{Calls.skipping, Calls.ahead, Keystream.started, Record.packed, Tag.triad_mac, Tag.triad}
use Rattle.record_bytes.specs.{Making.made_of, Ciphers.Ciphered, Ciphers.kept_enciphering}
use Rattle.triad_bytes.specs.Record.{triad_size, triad_bytes, triad_in}

-- making: the cipher's own refusals, then room for the record, which goes to the buffer's front
unfoldable pub triad_make : List ℕ → List ℕ → List ℕ → Outcome ℕ ℕ
triad_make buffer key value =
    made_of (make_faults triad key value) triad_size (triad_bytes (packed (started key value))) buffer

unfoldable pub triad_encipher : List ℕ → List ℕ → List ℕ → Ciphered
triad_encipher = kept_enciphering triad_size triad_in triad_bytes ahead skipping

-- the tag of associated data and a message, to the front of a buffer that has room for it
abbrev pub tag_size : ℕ
tag_size = 8

unfoldable pub triad_tag : List ℕ → List ℕ → List ℕ → List ℕ → List ℕ → Outcome ℕ ℕ
triad_tag key nonce associated message buffer =
    made_of (make_faults triad key nonce) tag_size (triad_mac key nonce associated message) buffer
