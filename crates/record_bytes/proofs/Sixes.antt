-- The bytes of six words read back are the words, and 48 bytes, read and written, are the same bytes: both by the laws
-- of rows.
use mathlib.Core.{Path.◌≡◌, Path.sym, Path.ap, Path.◌∙◌, List.List}
use Prim.Native.Nat.{ℕ, ◌<◌, ◌≤◌}
use native.Mathlib.Omega.{arith}
use lib.{ListN.length, Seq.take_all}
use Rattle.octets.specs.{Buffers.put, Rows.numbers_at, Rows.Fits}
use Rattle.octets.proofs.{Buffers.put_none, Numbers.Below, Rows.length_row, Rows.numbers_row, Rows.row_back}
use Rattle.refusals.proofs.Settled.{done_if}
use Rattle.shift_registers.specs.declared.SixWords.{SixWords}
use Rattle.record_bytes.specs.SixWords.{six_widths, six_size, six_numbers, six_bytes, six_of, six_in}

pub length_six : (w : SixWords) → length (six_bytes w) ≡ six_size
unfolding six_bytes
length_six w = length_row six_widths (six_numbers w)

-- without room for them nothing is written
pub six_none : (d : List ℕ) (w : SixWords) → length d < six_size → d ≡ put d 0 (six_bytes w)
six_none d w short = put_none d 0 (six_bytes w) (omega (arith, length_six w))

-- where there are enough bytes, the words are read
pub six_read : (bytes : List ℕ) → six_size ≤ length bytes → six_of (numbers_at six_widths bytes 0) ≡ six_in bytes
unfolding six_in
six_read bytes room = done_if _ _ _ (room, tt)

pub six_back : (w : SixWords) → Fits six_widths (six_numbers w) → six_in (six_bytes w) ≡ w
unfolding six_bytes
six_back w fits =
    sym (six_read (six_bytes w) (omega (arith, length_six w))) ∙ ap six_of (numbers_row six_widths (six_numbers w) fits)

pub six_again : (bytes : List ℕ) → Below 256 bytes → length bytes ≡ six_size → six_bytes (six_in bytes) ≡ bytes
unfolding six_bytes numbers_at
six_again bytes b long =
    ap six_bytes (sym (six_read bytes (omega arith)))
    ∙ row_back six_widths bytes 0 (omega arith) b
    ∙ take_all six_size bytes (omega arith)
