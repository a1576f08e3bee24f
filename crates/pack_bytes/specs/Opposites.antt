-- For an output stage that negates what the C call for opening has written.
use Rattle.std.specs.Prelude.{ℕ, ◌<◌}
use mathlib.Core.{List.List, Path.◌≡◌}
use lib.{IntN.ℤ, IntN.pos, IntN.neg_ℤ, ListN.get_or, Signed.mag}
use Rattle.refusals.specs.Numbers.{accepted}
use Rattle.pack_bytes.specs.Calls.{pack_open}

-- every sample that is counted, by the first number of the answer, has an opposite of 16 bits
abbrev pub PackOpposites : List ℕ → List ℕ → Type 0
PackOpposites file keys =
    (samples : List ℤ) (answer : List ℕ) (i : ℕ) → let o = pack_open file keys samples answer in
    o.number ≡ accepted → i < get_or o.answer 0 0 → mag (neg_ℤ (get_or o.written i (pos 0))) < 32768
