-- When the instrument may take the buffer: while the receiver's status says whole, the buffer begins with the sound.
use Rattle.std.specs.Prelude.{ℕ, get_or, take}
use mathlib.Core.{List.List, Path.◌≡◌}
use Rattle.refusals.specs.Numbers.{accepted}
use Rattle.receiver_bytes.specs.Record.{receiver_in}
use Rattle.link.specs.World.{World}
use Rattle.link_status.specs.Calls.{receiver_status}

-- at this moment, whatever bytes the record is kept as, and whatever run the numbers are written to
abbrev pub WholeHeld : World → Type 0
WholeHeld w =
    (bytes answer : List ℕ)
    → let told = receiver_status bytes answer in
    receiver_in bytes ≡ w.receiver
    → told.answer ≡ accepted
    → get_or told.buffer 4 0 ≡ 1
    → take (get_or told.buffer 1 0) w.buffer ≡ w.sound (get_or told.buffer 0 0)
