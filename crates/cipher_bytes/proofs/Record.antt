-- A cipher's bytes read back are the cipher, and 48 bytes, read and written, are the same bytes: both are so of six
-- words.
use mathlib.Core.{Path.◌≡◌, Path.ap, Path.◌∙◌, List.List}
use Prim.Native.Nat.{ℕ}
use lib.ListN.{length}
use Rattle.octets.specs.{Buffers.put, Rows.Fits}
use Rattle.octets.proofs.Numbers.{Below}
use Rattle.record_bytes.specs.SixWords.{six_widths, six_numbers, six_bytes, six_in}
use Rattle.shift_registers.specs.declared.SixWords.{SixWords}
use Rattle.record_bytes.proofs.Sixes.{length_six, six_back, six_again}
use Rattle.trivium.specs.declared.Registers.{Registers}
use Rattle.cipher_bytes.specs.Record.{cipher_size, six_of, cipher_bytes, registers_of, cipher_in}

pub length_cipher : (r : Registers) → length (cipher_bytes r) ≡ cipher_size
unfolding cipher_bytes
length_cipher r = length_six (six_of r)

pub cipher_back : (r : Registers) → Fits six_widths (six_numbers (six_of r)) → cipher_in (cipher_bytes r) ≡ r
unfolding cipher_in cipher_bytes
cipher_back r fits = ap registers_of (six_back (six_of r) fits)

pub cipher_again : (bytes : List ℕ) → Below 256 bytes → length bytes ≡ cipher_size → cipher_bytes (cipher_in bytes) ≡ bytes
unfolding cipher_in cipher_bytes
cipher_again = six_again

-- so the calls on six words do for a cipher
pub cipher_read : (bytes : List ℕ) {w : SixWords} {r : Registers} → w ≡ six_in bytes → r ≡ registers_of w
    → r ≡ cipher_in bytes
unfolding cipher_in
cipher_read bytes read made = made ∙ ap registers_of read

pub cipher_written : (r : Registers) (d : List ℕ) {after : List ℕ} {w : SixWords} → w ≡ six_of r
    → after ≡ put d 0 (six_bytes w)
    → after ≡ put d 0 (cipher_bytes r)
unfolding cipher_bytes
cipher_written r d made written = written ∙ ap (λ (w : SixWords). put d 0 (six_bytes w)) made
