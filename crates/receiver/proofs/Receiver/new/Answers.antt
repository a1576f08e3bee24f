-- `new`: the names' rules are the maker's, and what they settle is carried over.
use Rattle.std.proofs.Common.{◌∙◌, ap}
use Rattle.std.proofs.lemmas.Result.{err_from_is_err_and}
use Rattle.refusals.proofs.Settled.{settled_map}
use Rattle.names.specs.Naming.{Named, named}
use Rattle.receiver.specs.Receiver.{fresh_receiver, ReceiverMade, made, making_receiver}
use Rattle.receiver.proofs.Receiver.new.Goals as goal

-- what is made of names, refused or not
abbrev of_names : Named → ReceiverMade
of_names n = made (fresh_receiver n.key n.pair) n.refusal

pub returns-in_err-key : goal.returns-in_err-key
unfolding making_receiver named
returns-in_err-key c =
    let p = err_from_is_err_and c.from_residual.result c.from_residual.ensures.1 in
    rw (p.1, p.2) (ap of_names c.in_err-key.ensures ∙ settled_map of_names _ _ _)

pub returns : goal.returns
unfolding making_receiver named
returns c = ap of_names c.in_ok-key.ensures ∙ settled_map of_names _ _ _
