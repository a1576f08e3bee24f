-- The length's test and the phase's, phase by phase.
use mathlib.Core.{Path.◌≡◌, Path.◌∙◌, Logic.inl, Logic.inr, Bool.Bool}
use Rattle.std.proofs.Common.{◌≤◌, arith}
use Rattle.std.proofs.lemmas.Bool.Decides.{nat_tests}
use Rattle.std.proofs.lemmas.Grind.{common_steps}
use Rattle.blocks.specs.Blocks.{longest}
use Rattle.sender.specs.{declared.Phase.Phase, declared.Sender.Sender}
use borrow.Author.Tests.{lt-leb, le-leb}
use Rattle.sender.specs.Rules.{phase_in_rule, sender_in_rule}
use Rattle.sender.proofs.Senders.{phase_rule}
use Rattle.sender.proofs.Sender.in_rule.Goals as goal

-- what tells the phase's rule tells the record's
told_rule : (s : Sender) {phase : Phase} {test : Bool} → s.phase ≡ phase → s.length ≤ longest
    → test ≡ phase_in_rule s.session s.length phase → test ≡ sender_in_rule s
told_rule s e short told = told ∙ phase_rule s e short

pub returns-in-Idle : goal.returns-in-Idle
unfolding phase_in_rule
returns-in-Idle c = phase_rule c.args.self c.in-Idle.is c.if-self-le-MOST_BYTES.true

pub returns-then-begun : goal.returns-then-begun
unfolding phase_in_rule
returns-then-begun c =
    let e = phase_rule c.args.self c.in-Sending.is c.if-self-le-MOST_BYTES.true in
    rw (← e, le-leb 1 c.args.self.session (omega arith), c.from.ensures, c.block_count.ensures)

pub returns-else-begun : goal.returns-else-begun
unfolding phase_in_rule
returns-else-begun c =
    let none = lt-leb 1 c.args.self.session (omega arith) in
    none ∙ (rw none at (phase_rule c.args.self c.in-Sending.is c.if-self-le-MOST_BYTES.true))

pub returns-in-Opening : goal.returns-in-Opening
unfolding phase_in_rule
returns-in-Opening c =
    let s = c.args.self in
    let short = c.if-self-le-MOST_BYTES.true in
    elim c.in-Opening.is [
      | inl e ↦ told_rule s e short (grind (arith, nat_tests, common_steps))
      | inr more ↦ elim more [
        | inl e ↦ told_rule s e short (grind (arith, nat_tests, common_steps))
        | inr why ↦ told_rule s why.1 short (grind (arith, nat_tests, common_steps))
      ]
    ]

pub returns-else-self-le-MOST_BYTES : goal.returns-else-self-le-MOST_BYTES
unfolding sender_in_rule
returns-else-self-le-MOST_BYTES c = rw (lt-leb c.args.self.length 32768 c.if-self-le-MOST_BYTES.false)
