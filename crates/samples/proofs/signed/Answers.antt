-- `samples::signed` meets its contract: the library's word for the number.
use Rattle.std.proofs.Common.{◌∙◌, arith}
use Rattle.std.proofs.lemmas.{Bool.Decides.nat_tests, Int.ints}
use Rattle.samples.proofs.Words.{as_signed}
use Rattle.samples.proofs.signed.Goals as goal

pub returns : goal.returns
returns c =
    let same = c.cast_signed.ensures ∙ as_signed c.args.n in
    grind (arith, ints, nat_tests)
