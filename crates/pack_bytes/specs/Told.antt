-- What survey and loops tell of a file is what opening tells of it.
use Rattle.std.specs.Prelude.{ℕ}
use mathlib.Core.{List.List, Path.◌≡◌}
use lib.{IntN.ℤ, ListN.length, ListN.take}
use Rattle.refusals.specs.{Numbers.accepted, Outcome.outcome}
use Rattle.pack.specs.{Ciphers.cipher_in, Ciphers.ring_in, Cuts.CutsLack, Places.parts_of}
use Rattle.rings.specs.Ring.{rings_of, keys_bytes}
use Rattle.survey_bytes.specs.Calls.{pack_survey, pack_lacks, pack_loops}
use Rattle.pack_bytes.specs.Calls.{pack_open}

pub record ToldAlike (file keys : List ℕ) : Type 0 where
  -- a file that was opened is surveyed with the same seven numbers
  pub numbers : (samples : List ℤ) (answer : List ℕ) → let o = pack_open file keys samples answer in
      o.number ≡ accepted → pack_survey file answer ≡ outcome accepted o.answer
  -- and its loops are those of its parts, as sealing takes them
  pub loops : (run : List ℕ) (before : ℕ) → let told = pack_loops file run before in
      told.number ≡ accepted → take told.count told.buffer ≡ (parts_of (cipher_in file) (ring_in
      (rings_of keys) file) file).loops
  -- a file lacks bytes where it is surveyed with 30 to 33, or opened so with keys of 168 bytes, and with no other
  -- number but 45
  pub cut : (answer : List ℕ) → CutsLack (pack_survey file answer).answer (pack_lacks file)
  pub cut_opening : (samples : List ℤ) (answer : List ℕ) → length keys ≡ keys_bytes
      → CutsLack (pack_open file keys samples answer).number (pack_lacks file)
