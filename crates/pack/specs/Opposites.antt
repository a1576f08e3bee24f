-- For the output stage, which negates samples: each that opening writes has an opposite.
use Rattle.std.specs.Prelude.{ℕ, ◌<◌}
use mathlib.Core.{List.List, Logic.◌≢◌, Path.◌≡◌}
use lib.{IntN.ℤ, IntN.pos, IntN.negsuc, IntN.neg_ℤ, ListN.get_or, Signed.mag}
use Rattle.octets.specs.Stream.{Cipher}
use Rattle.refusals.specs.Numbers.{accepted}
use Rattle.pack.specs.Calls.{opening_pack}

-- number i of what an accepted opening has written; `pick` and `ring` are the cipher and the ring that each file is
-- opened under
pub record Opposites (pick : List ℕ → Cipher) (ring : List ℕ → List (List ℕ)) : Type 0 where
  -- it is not -32768
  pub raised : (file : List ℕ) (sound : List ℤ) (i : ℕ) → let o = opening_pack (pick file) (ring file) file sound in
      o.answer.refusal ≡ accepted → i < o.answer.samples → get_or o.buffer i (pos 0) ≢ negsuc 32767
  -- so its opposite has 16 bits too
  pub opposite : (file : List ℕ) (sound : List ℤ) (i : ℕ) → let o = opening_pack (pick file) (ring file) file sound in
      o.answer.refusal ≡ accepted → i < o.answer.samples → mag (neg_ℤ (get_or o.buffer i (pos 0))) < 32768
