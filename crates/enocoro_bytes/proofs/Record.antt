-- A cipher's bytes read back are the cipher, and 34 bytes, read and written, are the same bytes: both by the laws of
-- rows.
use mathlib.Core.{Path.◌≡◌, Path.sym, Path.ap, Path.◌∙◌, List.List, List.[], List.◌∷◌}
use Prim.Native.Nat.{ℕ, ◌+◌, ◌/◌, ◌%◌, ◌^◌, ◌<◌, ◌≤◌}
use native.Mathlib.Omega.{arith}
use lib.{ListN.length, ListN.set, Seq.take_all}
use Rattle.octets.specs.{Buffers.placed, Buffers.put, Digits.digits, Digits.number_at, Rows.numbers_at, Rows.Fits}
use Rattle.octets.proofs.{Buffers.put_placed, Buffers.placed_stores, Numbers.Below, Rows.length_row, Rows.numbers_row, Rows.row_back}
use Rattle.enocoro.specs.declared.Registers.{Registers}
use Rattle.enocoro_bytes.specs.Record.{enocoro_widths, enocoro_size, enocoro_numbers, enocoro_bytes, registers_of}
use Rattle.enocoro_bytes.specs.Record.{enocoro_in}

pub length_cipher : (r : Registers) → length (enocoro_bytes r) ≡ enocoro_size
unfolding enocoro_bytes
length_cipher r = length_row enocoro_widths (enocoro_numbers r)

pub cipher_back : (r : Registers) → Fits enocoro_widths (enocoro_numbers r) → enocoro_in (enocoro_bytes r) ≡ r
unfolding enocoro_in enocoro_bytes
cipher_back r fits = ap registers_of (numbers_row enocoro_widths (enocoro_numbers r) fits)

pub cipher_again : (bytes : List ℕ) → Below 256 bytes → length bytes ≡ enocoro_size
    → enocoro_bytes (enocoro_in bytes) ≡ bytes
unfolding enocoro_in enocoro_bytes numbers_at
cipher_again bytes b long = row_back enocoro_widths bytes 0 (omega arith) b ∙ take_all enocoro_size bytes (omega arith)

-- the record of numbers that were read
pub cipher_read : (bytes : List ℕ) {a0 a1 b0 b1 b2 b3 : ℕ} → a0 ≡ number_at bytes 0 1 → a1 ≡ number_at bytes 1 1
    → b0 ≡ number_at bytes 2 8 → b1 ≡ number_at bytes 10 8 → b2 ≡ number_at bytes 18 8 → b3 ≡ number_at bytes 26 8
    → record { a0 = a0; a1 = a1; b0 = b0; b1 = b1; b2 = b2; b3 = b3 } ≡ enocoro_in bytes
unfolding enocoro_in numbers_at
cipher_read bytes p0 p1 q0 q1 q2 q3 =
    λ i. record { a0 = p0 i; a1 = p1 i; b0 = q0 i; b1 = q1 i; b2 = q2 i; b3 = q3 i }

-- a byte that is stored is a number of one byte
pub byte_stored : (at x : ℕ) {d e : List ℕ} {place y : ℕ} → e ≡ d → place ≡ at → y ≡ x → x < 256 → at + 1 ≤ length e
    → set e place y ≡ put d at (digits 256 1 x)
unfolding digits
byte_stored at x {d} {e} before there same small room =
    let alone : x ≡ x / 256 ^ 0 % 256 = omega arith in
    (λ i. set e (there i) (same i)) ∙ placed_stores e at x [] room ∙ ap (λ y. placed e at (y ∷ [])) alone
    ∙ sym (put_placed e at (x / 256 ^ 0 % 256 ∷ []) room)
    ∙ ap (λ l. put l at (x / 256 ^ 0 % 256 ∷ [])) before
