-- The two lengths decide.
use mathlib.Core.{Path.◌∙◌}
use Rattle.refusals.proofs.Settled.{done_if, left_at}
use Rattle.names.specs.Naming.{named}
use Rattle.names.proofs.check_names.Goals as goal

pub returns-in_default : goal.returns-in_default
unfolding named
returns-in_default c = left_at _ _ _ 0 tt c.in_default.ensures.1

pub returns-in_default-try_into : goal.returns-in_default-try_into
unfolding named
returns-in_default-try_into c = left_at _ _ _ 1 tt (c.in-Ok.ensures.1.long, c.in_default-try_into.ensures.1)

pub returns : goal.returns
unfolding named
returns c =
    let key = c.in-Ok.ensures.1 in
    let pair = c.in-Ok-try_into.ensures.1 in
    (λ i. record { refusal = 0; key = key.same i; pair = pair.same i })
    ∙ done_if _ _ _ (key.long, (pair.long, tt))
