-- The words that the code makes are those of the loaded registers.
use native.Mathlib.Omega.{arith}
use mathlib.Core.Path.{◌∙◌}
use Rattle.triad.specs.Record.{state}
use Rattle.triad.proofs.Loading.{loaded_words, printed}
use Rattle.triad.proofs.load.Goals as goal

pub returns : goal.returns
unfolding state
returns c =
    loaded_words c.args.key.now c.args.nonce.now (omega arith) (omega arith)
    (λ i. omega (arith, c.type_inv.key i)) (λ i. omega (arith, c.type_inv.nonce i))
    (c.from_be_bytes.ensures ∙ printed _ _ _ _ _ _ _ _) (c.from_be_bytes-2.ensures ∙ printed _ _ _ _ _ _ _ _)
    (c.from_be_bytes-3.ensures ∙ printed _ _ _ _ _ _ _ _) c.eight_from.ensures
    (c.from_be_bytes-4.ensures ∙ printed _ _ _ _ _ _ _ _) c.eight_from-2.ensures
