-- `octet_writer::write_word` meets its contract: what is copied are the word's digits. Which number's bytes the code copies
-- is given apart.
use Rattle.std.proofs.Common.{◌≡◌, ℕ, List, ap, ◌∙◌, arith}
use Rattle.std.specs.Int.{to_be_bytes, w64}
use Rattle.octets.specs.{Buffers.put, Digits.digits}
use Rattle.octets.proofs.Numbers.{bytes_of_word}
use Rattle.octet_writer.proofs.write_word.Goals as goal

high_first : (word given : ℕ) {bytes : List ℕ} → bytes ≡ to_be_bytes w64 given → given ≡ word → bytes ≡ digits 256 8 word
high_first word given made same = made ∙ ap (to_be_bytes w64) same ∙ bytes_of_word word

pub returns : goal.returns
returns c =
    c.copy.ensures
    ∙ ap (put c.args.d.now c.args.at) (high_first c.args.word _ c.to_be_bytes.ensures (omega arith))
