-- What was told is what was heard, and the tests come in the definition's order.
use mathlib.Core.{Path.◌≡◌, Path.refl, Path.sym, Path.ap, Logic.inl, Logic.inr}
use Rattle.std.proofs.Common.{arith}
use Rattle.std.proofs.lemmas.Result.{err_from_is_err_and}
use borrow.Author.Tests.{lt-ltb, le-ltb}
use Rattle.refusals.specs.declared.Refusal.TheVariants.{NotAFrame}
use Rattle.refusals.proofs.Settled.{left_at}
use Rattle.blocks.specs.Blocks.{blocks}
use Rattle.sender.specs.Sender.{in_phase, news_count, hearing}
use Rattle.sender.proofs.Senders.{news_some, news_none}
use Rattle.sender.proofs.Hearing.{no_frame, other_frame, unanswered, wrong_answer, right_answer}
use Rattle.sender.proofs.Sender.hear.Goals as goal
use Rattle.sender.proofs.Sender.hear.Goals.{then-count-block_count, else-count-block_count}

pub returns-then-not-in_rule : goal.returns-then-not-in_rule
unfolding hearing
returns-then-not-in_rule c = left_at _ _ _ 0 tt (sym c.if-not-in_rule.ensures)

pub returns-in_err-session : goal.returns-in_err-session
returns-in_err-session c =
    let p = err_from_is_err_and c.from_residual.result c.from_residual.ensures.1 in
    let none = c.in_err-session.ensures.ok_part in
    let said = rw none at c.in_err-session.ensures.value in
    let this : c.in_err-session.field-0.0 ≡ NotAFrame = cc in
    rw (p.1, p.2, this) (no_frame c.args.self c.args.frame.now c.if-not-in_rule.ensures c.read.ensures none)

-- ---- Holds

pub returns-in_err-answered-in-Holds : goal.returns-in_err-answered-in-Holds
returns-in_err-answered-in-Holds c =
    let p =
    err_from_is_err_and c.from_residual-in_err-answered-in-Holds.result
    c.from_residual-in_err-answered-in-Holds.ensures.1 in
    rw (p.1, p.2)
    (unanswered c.args.self c.args.frame.now c.if-not-in_rule.ensures c.read.ensures c.in_ok-session.ensures.ok_part
    c.in-Holds.is refl c.answered.ensures c.in_err-answered-in-Holds.was)

pub returns-then-new_count-count : goal.returns-then-new_count-count
returns-then-new_count-count c =
    wrong_answer c.args.self c.args.frame.now c.if-not-in_rule.ensures c.read.ensures c.in_ok-session.ensures.ok_part
    c.in-Holds.is refl c.answered.ensures c.in_ok-answered-in-Holds.was
    (λ count. omega arith)

pub returns-then-count-new_count : goal.returns-then-count-new_count
returns-then-count-new_count c =
    right_answer c.args.self c.args.frame.now c.if-not-in_rule.ensures c.read.ensures c.in_ok-session.ensures.ok_part
    c.in-Holds.is refl c.answered.ensures c.in_ok-answered-in-Holds.was
    (λ count. (omega arith, rw (lt-ltb c.in-Holds.held (news_count c.args.self.phase) (omega arith))))

pub returns-after-count-block_count : goal.returns-after-count-block_count
returns-after-count-block_count c =
    let s = c.args.self in
    let held = c.in-Holds.held in
    right_answer s c.args.frame.now c.if-not-in_rule.ensures c.read.ensures c.in_ok-session.ensures.ok_part
    c.in-Holds.is refl c.answered.ensures c.in_ok-answered-in-Holds.was
    (λ count. (
      omega arith,
      rw (le-ltb held (news_count s.phase) (omega arith))
          (elim c.if-count-block_count.branch [
            | then-count-block_count w ↦ rw (lt-ltb held (blocks s.length) (omega arith)) (ap (in_phase s) w.phase-is)
            | else-count-block_count w ↦ rw (le-ltb held (blocks s.length) (omega arith)) (ap (in_phase s) w.phase-is)
          ]),
    ))

-- ---- Too long

pub returns-in_err-answered-in-TooLong : goal.returns-in_err-answered-in-TooLong
returns-in_err-answered-in-TooLong c =
    let p =
    err_from_is_err_and c.from_residual-in_err-answered-in-TooLong.result
    c.from_residual-in_err-answered-in-TooLong.ensures.1 in
    rw (p.1, p.2)
    (unanswered c.args.self c.args.frame.now c.if-not-in_rule.ensures c.read.ensures c.in_ok-session.ensures.ok_part
    c.in-TooLong.is refl c.answered-in-TooLong.ensures c.in_err-answered-in-TooLong.was)

pub returns-then-is_some : goal.returns-then-is_some
returns-then-is_some c =
    let some = news_some c.in_ok-answered-in-TooLong.field-0 c.if-is_some.ensures in
    wrong_answer c.args.self c.args.frame.now c.if-not-in_rule.ensures c.read.ensures c.in_ok-session.ensures.ok_part
    c.in-TooLong.is refl c.answered-in-TooLong.ensures c.in_ok-answered-in-TooLong.was
    (λ count. omega arith)

pub returns-else-is_some : goal.returns-else-is_some
returns-else-is_some c =
    let none = news_none c.in_ok-answered-in-TooLong.field-0 c.if-is_some.ensures in
    right_answer c.args.self c.args.frame.now c.if-not-in_rule.ensures c.read.ensures c.in_ok-session.ensures.ok_part
    c.in-TooLong.is refl c.answered-in-TooLong.ensures c.in_ok-answered-in-TooLong.was
    (λ count. (omega arith, refl))

-- ---- frames for the other end

pub returns-in-Opening : goal.returns-in-Opening
returns-in-Opening c =
    elim c.in-Opening.is [
      | inl w ↦
          other_frame c.args.self c.args.frame.now c.if-not-in_rule.ensures c.read.ensures c.in_ok-session.ensures.ok_part
          w.2 refl
      | inr w ↦
          other_frame c.args.self c.args.frame.now c.if-not-in_rule.ensures c.read.ensures c.in_ok-session.ensures.ok_part
          w.3 refl
    ]
