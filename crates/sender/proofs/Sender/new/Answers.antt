-- The names' rules are the maker's, and what they settle is carried over.
use mathlib.Core.Path.{ap, ◌∙◌}
use Rattle.std.proofs.lemmas.Result.{err_from_is_err_and}
use Rattle.refusals.proofs.Settled.{settled_map}
use Rattle.names.specs.Naming.{Named, named}
use Rattle.sender.specs.Answers.{SenderAnswer}
use Rattle.sender.specs.Sender.{fresh_sender, making_sender}
use Rattle.sender.proofs.Sender.new.Goals as goal

-- what is made of names, refused or not
abbrev made : Named → SenderAnswer
made n = record { refusal = n.refusal; sender = fresh_sender n.key n.pair }

pub returns-in_err-key : goal.returns-in_err-key
unfolding making_sender named
returns-in_err-key c =
    let p = err_from_is_err_and c.from_residual.result c.from_residual.ensures.1 in
    rw (p.1, p.2) (ap made c.in_err-key.ensures ∙ settled_map made _ _ _)

pub returns : goal.returns
unfolding making_sender named
returns c = ap made c.in_ok-key.ensures ∙ settled_map made _ _ _
