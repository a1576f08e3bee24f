-- Opening as frames of floats, with the rings of keys lent as one run of bytes.
use Rattle.std.specs.Prelude.{ℕ, List}
use lib.{Ieee.Float, ListN.length}
use Rattle.octets.specs.Buffers.{placed}
use Rattle.stereo.specs.Frames.{floats_of}
use Rattle.pack.specs.{Calls.accepted_opening, Ciphers.cipher_in, Ciphers.ring_in, Places.parts_of}
use Rattle.rings.specs.Ring.{rings_of}
use Rattle.stereo_opener.specs.Calls.{stereo_faults}
use Rattle.pack_bytes.specs.Calls.{PackOpened, bytes_opening}

unfoldable pub pack_open_stereo : List ℕ → List ℕ → List Float → List ℕ → PackOpened Float
pack_open_stereo file keys floats answer =
    let cipher = cipher_in file in
    let ring = ring_in (rings_of keys) file in
    bytes_opening keys (stereo_faults cipher ring file (length floats)) (accepted_opening cipher file)
    (placed floats 0 (floats_of (parts_of cipher ring file).samples)) floats answer
