-- A refused call leaves all that it was lent as it was; and a stream taken in two calls is the stream taken in one: the
-- bytes that the first call leaves stand for the registers that it stopped at, and what holds of any cipher does the
-- rest.
use mathlib.Core.{Path.◌≡◌, Path.refl, Path.sym, Path.ap, Path.◌∙◌, List.List}
use Prim.Native.Nat.{ℕ}
use Rattle.octets.specs.{Rows.Fits, Stream.from}
use Rattle.octets.proofs.Numbers.{number_at_below}
use Rattle.refusals.specs.{Outcome.outcome, Rules.Leaves}
use Rattle.refusals.proofs.Settled.{settled_leaves}
use Rattle.enocoro.specs.{Calls.skipping, Calls.ahead, Keystream.keystream, Record.state, Record.packed}
use Rattle.enocoro.specs.{State.State, State.rounds, declared.Registers.Registers}
use Rattle.enocoro.proofs.States.{Bytes, bytes_state, bytes_rounds, state_skip, skip_add, keystream_from}
use Rattle.record_bytes.specs.Ciphers.{ciphered, KeptInTwo}
use Rattle.record_bytes.proofs.Ciphers.{kept_leaves, kept_in_two}
use Rattle.enocoro_bytes.specs.{Calls.enocoro_make, Calls.enocoro_encipher}
use Rattle.enocoro_bytes.specs.Record.{enocoro_widths, enocoro_size, enocoro_numbers, enocoro_bytes, enocoro_in}
use Rattle.enocoro_bytes.proofs.Record.{length_cipher, cipher_back}

pub enocoro_make_leaves : (buffer key value : List ℕ)
    → Leaves (λ o. o.answer) (λ n. outcome n buffer) (enocoro_make buffer key value)
unfolding enocoro_make
enocoro_make_leaves buffer key value = settled_leaves _ _ _ (λ o. o.answer) refl (λ n. refl)

pub enocoro_encipher_leaves : (cipher input output : List ℕ)
    → Leaves (λ o. o.number) (ciphered cipher output) (enocoro_encipher cipher input output)
unfolding enocoro_encipher
enocoro_encipher_leaves = kept_leaves enocoro_size enocoro_in enocoro_bytes ahead skipping

-- the registers that a call leaves fit their words, so they are read back
packed_fits : (s : State) → Bytes s → Fits enocoro_widths (enocoro_numbers (packed s))
unfolding packed
packed_fits s h = (
  h.small.a0,
  (
    h.small.a1,
    (
      number_at_below s.b 0 8 h.below,
      (
        number_at_below s.b 8 8 h.below,
        (
          number_at_below s.b 16 8 h.below,
          (
            number_at_below s.b 24 8 h.below,
            tt,
          ),
        ),
      ),
    ),
  ),
)

skipped_back : (r : Registers) (n : ℕ) → enocoro_in (enocoro_bytes (skipping r n)) ≡ skipping r n
unfolding skipping
skipped_back r n =
    let s : State =
    rounds n (state r) in cipher_back (packed s) (packed_fits s (bytes_rounds n (state r) (bytes_state r)))

-- and their keystream goes on from there
goes_on : (r : Registers) (n : ℕ) → ahead (skipping r n) ≡ from n (ahead r)
goes_on r n = ap keystream (state_skip r n) ∙ sym (keystream_from n (state r))

pub enocoro_cut : KeptInTwo enocoro_size enocoro_encipher
unfolding enocoro_encipher
enocoro_cut =
    kept_in_two enocoro_size enocoro_in enocoro_bytes ahead skipping length_cipher skipped_back skip_add goes_on
