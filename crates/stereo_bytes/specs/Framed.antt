-- What the C call for frames does, by what the C call for samples does with as much room.
use Rattle.std.specs.Prelude.{ℕ, ◌%◌}
use mathlib.Core.{List.List, Path.◌≡◌}
use lib.{IntN.ℤ, Ieee.Float, ListN.length, ListN.get_or, ListN.take}
use Rattle.octets.specs.Buffers.{placed}
use Rattle.refusals.specs.Numbers.{accepted}
use Rattle.stereo.specs.Frames.{floats_of}
use Rattle.pack_bytes.specs.Calls.{pack_opened, pack_open}
use Rattle.stereo_bytes.specs.Calls.{pack_open_stereo}

-- it writes the frames of the samples that are counted, by the first number of the answer, and the same answer
abbrev pub PackFramed : List ℕ → List ℕ → Type 0
PackFramed file keys =
    (samples : List ℤ) (floats : List Float) (answer : List ℕ) → length samples ≡ length floats
    → let o = pack_open file keys samples answer in
    let count = get_or o.answer 0 0 in
    o.number ≡ accepted → count % 2 ≡ 0
    → pack_open_stereo file keys floats answer
    ≡ pack_opened (placed floats 0 (floats_of (take count o.written))) o.answer accepted
