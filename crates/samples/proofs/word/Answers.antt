-- `samples::word` meets its contract: two bytes make the number that is read, and none is below the lowest sample.
use Rattle.std.proofs.Common.{arith, ◌≡◌, ℕ, ◌+◌, ◌*◌, [], ◌∷◌, ap, ◌∙◌, ℤ, negsuc}
use Rattle.std.proofs.lemmas.Int.{to_z-of_z}
use Rattle.std.specs.Int.{int_max, w16}
use Rattle.octets.specs.Digits.{number, number_after}
use Rattle.samples.specs.Words.{sample_of, signed}
use Rattle.samples.proofs.Words.{raised}
use Rattle.samples.proofs.word.Goals as goal

two_bytes : (upper lower : ℕ) → upper * 256 + lower ≡ number 256 (upper ∷ lower ∷ [])
unfolding number_after
two_bytes upper lower = omega arith

pub returns : goal.returns
returns c =
    let read = c.signed in
    let n : ℕ = c.args.upper * 256 + c.args.lower in
    to_z-of_z w16 c.max.result (record { sfits = c.max.type_inv })
    ∙ c.max.ensures.value
    ∙ ap (λ (z : ℤ). int_max z (negsuc 32766))
    (to_z-of_z w16 read.result (record { sfits = read.type_inv }) ∙ read.ensures ∙ ap signed c.from_be_bytes.ensures)
    ∙ raised n
    ∙ ap sample_of (two_bytes c.args.upper c.args.lower)
