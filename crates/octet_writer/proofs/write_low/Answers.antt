-- `octet_writer::write_low` meets its contract: what is copied are the word's digits in the other order. Which number's
-- bytes the code copies is given apart.
use Rattle.std.proofs.Common.{◌≡◌, ℕ, List, sym, ap, ◌∙◌, arith}
use Rattle.std.specs.Int.{to_le_bytes, w64}
use Rattle.octets.specs.{Buffers.put, Digits.digits}
use Rattle.samples.specs.Words.{swapped}
use Rattle.samples.proofs.Reversed.{low_bytes, swapped_digits}
use Rattle.octet_writer.proofs.write_low.Goals as goal

low_first : (word given : ℕ) {bytes : List ℕ} → bytes ≡ to_le_bytes w64 given → given ≡ word
    → bytes ≡ digits 256 8 (swapped word)
low_first word given made same = made ∙ ap (to_le_bytes w64) same ∙ low_bytes word ∙ sym (swapped_digits word)

pub returns : goal.returns
returns c =
    c.copy.ensures
    ∙ ap (put c.args.d.now c.args.at) (low_first c.args.word _ c.to_le_bytes.ensures (omega arith))
