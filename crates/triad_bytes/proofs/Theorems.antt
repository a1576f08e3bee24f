-- A refused call leaves all that it was lent as it was; and a stream taken in two calls is the stream taken in one: the
-- bytes that the first call leaves stand for the registers that it stopped at, and what holds of any cipher does the
-- rest.
use mathlib.Core.{Path.◌≡◌, Path.refl, List.List}
use Prim.Native.Nat.{ℕ, ◌/◌, ◌%◌, ◌^◌}
use Rattle.octets.specs.Rows.{Fits}
use Rattle.refusals.specs.{Outcome.outcome, Rules.Leaves}
use Rattle.refusals.proofs.Settled.{settled_leaves}
use Rattle.octets.proofs.LowFirst.{turned_below}
use Rattle.shift_registers.specs.Registers.{State}
use Rattle.triad.specs.{Calls.skipping, Calls.ahead, Record.packed, declared.Registers.Registers}
use Rattle.triad.proofs.{Steps.skip_add, Theorems.goes_on}
use Rattle.record_bytes.specs.{Ciphers.ciphered, Ciphers.KeptInTwo, SixWords.six_widths, SixWords.six_numbers}
use Rattle.record_bytes.proofs.Ciphers.{kept_leaves, kept_in_two}
use Rattle.triad_bytes.specs.{Calls.triad_make, Calls.triad_encipher, Calls.triad_tag}
use Rattle.triad_bytes.specs.Record.{triad_size, six_of, triad_bytes, triad_in}
use Rattle.triad_bytes.proofs.Record.{length_triad, triad_back}

pub triad_make_leaves : (buffer key value : List ℕ)
    → Leaves (λ o. o.answer) (λ n. outcome n buffer) (triad_make buffer key value)
unfolding triad_make
triad_make_leaves buffer key value = settled_leaves _ _ _ (λ o. o.answer) refl (λ n. refl)

pub triad_tag_leaves : (key nonce associated message buffer : List ℕ)
    → Leaves (λ o. o.answer) (λ n. outcome n buffer) (triad_tag key nonce associated message buffer)
unfolding triad_tag
triad_tag_leaves key nonce associated message buffer = settled_leaves _ _ _ (λ o. o.answer) refl (λ n. refl)

pub triad_encipher_leaves : (cipher input output : List ℕ)
    → Leaves (λ o. o.number) (ciphered cipher output) (triad_encipher cipher input output)
unfolding triad_encipher
triad_encipher_leaves = kept_leaves triad_size triad_in triad_bytes ahead skipping

-- the registers that a call leaves fit their words, so they are read back
packed_fits : (s : State) → Fits six_widths (six_numbers (six_of (packed s)))
unfolding packed
packed_fits s = (
  turned_below (s.a / 2 ^ 64),
  (
    turned_below (s.a % 2 ^ 64),
    (
      turned_below (s.b / 2 ^ 64),
      (turned_below (s.b % 2 ^ 64), (turned_below (s.c / 2 ^ 64), (turned_below (s.c % 2 ^ 64), tt))),
    ),
  ),
)

skipped_back : (r : Registers) (n : ℕ) → triad_in (triad_bytes (skipping r n)) ≡ skipping r n
unfolding skipping
skipped_back r n = triad_back _ (packed_fits _)

pub triad_cut : KeptInTwo triad_size triad_encipher
unfolding triad_encipher
triad_cut = kept_in_two triad_size triad_in triad_bytes ahead skipping length_triad skipped_back skip_add goes_on
