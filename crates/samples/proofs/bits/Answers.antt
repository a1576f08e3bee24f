-- `samples::bits` meets its contract: the library's word for the 16 bits.
use Rattle.std.proofs.Common.{ap, ◌∙◌, arith}
use Rattle.std.proofs.lemmas.{Bool.Decides.nat_tests, Int.ints, Int.to_z-of_z}
use Rattle.std.specs.Int.{cast_unsigned, w16}
use Rattle.samples.proofs.Words.{as_unsigned}
use Rattle.samples.proofs.bits.Goals as goal

pub returns : goal.returns
returns c =
    let same =
    c.cast_unsigned.ensures
    ∙ ap (cast_unsigned w16) (to_z-of_z w16 c.args.sample c.ranges.sample) ∙ as_unsigned c.args.sample in
    grind (arith, ints, nat_tests)
