-- A refused call leaves all that it was lent as it was; and a stream taken in two calls is the stream taken in one: the
-- bytes that the first call leaves stand for the registers that it stopped at, and what holds of any cipher does the
-- rest.
use mathlib.Core.{Path.◌≡◌, Path.refl, List.List}
use Prim.Native.Nat.{ℕ, ◌*◌}
use native.Mathlib.{Nat.mod-lt, Nat.lt_of_lt_of_le, Omega.arith}
use lib.Pow.{shr_lt}
use Rattle.octets.specs.Rows.{Fits}
use Rattle.refusals.specs.{Outcome.outcome, Rules.Leaves}
use Rattle.refusals.proofs.Settled.{settled_leaves}
use Rattle.trivium.specs.{Calls.skipping, Calls.ahead, Record.state, Record.packed, Registers.State, Registers.steps}
use Rattle.trivium.specs.{declared.Registers.Registers}
use Rattle.trivium.proofs.Steps.{Held, held_state, held_steps, skip_add}
use Rattle.trivium.proofs.Theorems.{goes_on}
use Rattle.record_bytes.specs.{Ciphers.ciphered, Ciphers.KeptInTwo, SixWords.six_widths, SixWords.six_numbers}
use Rattle.record_bytes.proofs.Ciphers.{kept_leaves, kept_in_two}
use Rattle.cipher_bytes.specs.{Calls.cipher_make, Calls.cipher_encipher}
use Rattle.cipher_bytes.specs.Record.{cipher_size, six_of, cipher_bytes, cipher_in}
use Rattle.cipher_bytes.proofs.Record.{length_cipher, cipher_back}

pub cipher_make_leaves : (buffer key value : List ℕ)
    → Leaves (λ o. o.answer) (λ n. outcome n buffer) (cipher_make buffer key value)
unfolding cipher_make
cipher_make_leaves buffer key value = settled_leaves _ _ _ (λ o. o.answer) refl (λ n. refl)

pub cipher_encipher_leaves : (cipher input output : List ℕ)
    → Leaves (λ o. o.number) (ciphered cipher output) (cipher_encipher cipher input output)
unfolding cipher_encipher
cipher_encipher_leaves = kept_leaves cipher_size cipher_in cipher_bytes ahead skipping

-- the registers that a call leaves fit their words, so they are read back
packed_fits : (s : State) → Held s → Fits six_widths (six_numbers (six_of (packed s)))
unfolding packed
packed_fits s h = (
  lt_of_lt_of_le (shr_lt 29 64 h.a) (omega arith),
  (
    mod-lt s.a (omega arith),
    (
      lt_of_lt_of_le (shr_lt 20 64 h.b) (omega arith),
      (
        mod-lt s.b (omega arith),
        (
          lt_of_lt_of_le (shr_lt 47 64 h.c) (omega arith),
          (
            mod-lt s.c (omega arith),
            tt,
          ),
        ),
      ),
    ),
  ),
)

skipped_back : (r : Registers) (n : ℕ) → cipher_in (cipher_bytes (skipping r n)) ≡ skipping r n
unfolding skipping
skipped_back r n =
    let s : State =
    steps (8 * n) (state r) in cipher_back (packed s) (packed_fits s (held_steps (8 * n) (state r) (held_state r)))

pub cipher_cut : KeptInTwo cipher_size cipher_encipher
unfolding cipher_encipher
cipher_cut = kept_in_two cipher_size cipher_in cipher_bytes ahead skipping length_cipher skipped_back skip_add goes_on
