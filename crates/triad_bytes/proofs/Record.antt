-- A cipher's bytes read back are the cipher, and 48 bytes, read and written, are the same bytes: both are so of six
-- words.
use mathlib.Core.{Path.◌≡◌, Path.ap, Path.◌∙◌, List.List}
use Prim.Native.Nat.{ℕ}
use lib.ListN.{length}
use Rattle.octets.specs.{Buffers.put, Rows.Fits}
use Rattle.octets.proofs.Numbers.{Below}
use Rattle.record_bytes.specs.SixWords.{six_widths, six_numbers, six_bytes, six_in}
use Rattle.shift_registers.specs.declared.SixWords.{SixWords}
use Rattle.record_bytes.proofs.Sixes.{length_six, six_back, six_again}
use Rattle.triad.specs.declared.Registers.{Registers}
use Rattle.triad_bytes.specs.Record.{triad_size, six_of, triad_bytes, registers_of, triad_in}

pub length_triad : (r : Registers) → length (triad_bytes r) ≡ triad_size
unfolding triad_bytes
length_triad r = length_six (six_of r)

pub triad_back : (r : Registers) → Fits six_widths (six_numbers (six_of r)) → triad_in (triad_bytes r) ≡ r
unfolding triad_in triad_bytes
triad_back r fits = ap registers_of (six_back (six_of r) fits)

pub triad_again : (bytes : List ℕ) → Below 256 bytes → length bytes ≡ triad_size → triad_bytes (triad_in bytes) ≡ bytes
unfolding triad_in triad_bytes
triad_again = six_again

-- so the calls on six words do for a cipher
pub triad_read : (bytes : List ℕ) {w : SixWords} {r : Registers} → w ≡ six_in bytes → r ≡ registers_of w
    → r ≡ triad_in bytes
unfolding triad_in
triad_read bytes read made = made ∙ ap registers_of read

pub triad_written : (r : Registers) (d : List ℕ) {after : List ℕ} {w : SixWords} → w ≡ six_of r
    → after ≡ put d 0 (six_bytes w)
    → after ≡ put d 0 (triad_bytes r)
unfolding triad_bytes
triad_written r d made written = written ∙ ap (λ (w : SixWords). put d 0 (six_bytes w)) made
