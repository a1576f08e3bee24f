-- The two lengths decide, and what is loaded is permuted.
use mathlib.Core.Path.{ap, ◌∙◌}
use Rattle.refusals.specs.{Numbers.accepted, Answers.answer}
use Rattle.refusals.proofs.Settled.{done_if, left_at}
use Rattle.triad.specs.{Record.packed, State.permuted}
use Rattle.triad.proofs.Registers.made.Goals as goal

pub returns-then-key-ne-KEY_BYTES : goal.returns-then-key-ne-KEY_BYTES
returns-then-key-ne-KEY_BYTES c = left_at _ _ _ 0 tt c.if-key-ne-KEY_BYTES.true

pub returns-then-nonce-ne-VALUE_BYTES : goal.returns-then-nonce-ne-VALUE_BYTES
returns-then-nonce-ne-VALUE_BYTES c =
    left_at _ _ _ 1 tt (c.if-key-ne-KEY_BYTES.false, c.if-nonce-ne-VALUE_BYTES.true)

pub returns : goal.returns
returns c =
    let there = c.permuted.ensures ∙ ap (permuted c.args.first) c.load.ensures in
    ap (answer accepted) (c.cleared.ensures ∙ ap packed there)
    ∙ done_if _ _ _ (c.if-key-ne-KEY_BYTES.false, (c.if-nonce-ne-VALUE_BYTES.false, tt))
