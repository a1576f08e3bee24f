-- Its two calls say it.
use mathlib.Core.Path.{ap, ◌∙◌}
use Rattle.triad.specs.{Calls.striding, Record.packed}
use Rattle.triad.proofs.Steps.{ran_word, ran_state}
use Rattle.triad.proofs.Registers.stride.Goals as goal

pub returns : goal.returns
unfolding striding
returns c =
    let p = c.args in
    λ i.
    record {
      word = ran_word p.self p.message c.run-ran.ensures i;
      next = (c.cleared.ensures ∙ ap packed (ran_state p.self p.message c.run-ran.ensures)) i;
    }
