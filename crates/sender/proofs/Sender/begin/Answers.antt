-- The tests come in the definition's order.
use mathlib.Core.Path.{◌≡◌, sym, ◌∙◌}
use Rattle.std.proofs.Common.{length, arith}
use Rattle.std.proofs.lemmas.Result.{err_from_is_err_and}
use Rattle.refusals.proofs.Settled.{done_if, left_at}
use Rattle.refusals.specs.declared.Refusal.TheVariants.{NoSession}
use Rattle.sender.specs.declared.Phase.TheVariants.{Opening}
use Rattle.sender.specs.Sender.{agreed, beginning}
use Rattle.sender.proofs.Sender.begin.Goals as goal

pub returns-then-not-in_rule : goal.returns-then-not-in_rule
unfolding beginning
returns-then-not-in_rule c = left_at _ _ _ 0 tt (sym c.if-not-in_rule.ensures)

pub returns-then-sound-gt-MOST_BYTES : goal.returns-then-sound-gt-MOST_BYTES
unfolding beginning
returns-then-sound-gt-MOST_BYTES c = left_at _ _ _ 1 tt (sym c.if-not-in_rule.ensures, omega arith)

pub returns-in_err-session : goal.returns-in_err-session
unfolding beginning
returns-in_err-session c =
    let p = err_from_is_err_and c.from_residual.result c.from_residual.ensures.1 in
    let none = c.in_err-session.ensures.ok_part in
    let last = rw none at c.checked_add.ensures in
    let said = rw none at c.in_err-session.ensures.value in
    let this : c.in_err-session.field-0.0 ≡ NoSession = cc in
    rw (p.1, p.2, this) (left_at _ _ _ 2 tt (sym c.if-not-in_rule.ensures, (omega arith, omega arith)))

pub returns : goal.returns
unfolding beginning
returns c =
    let s = c.args.self in
    let next = rw c.in_ok-session.ensures.ok_part at c.checked_add.ensures in
    (λ i. agreed (record
    { key = s.key; pair = s.pair; session = next.1 i; length = length c.args.sound.now; phase = Opening }))
    ∙ done_if _ _ _ (sym c.if-not-in_rule.ensures, (omega arith, (omega arith, tt)))
