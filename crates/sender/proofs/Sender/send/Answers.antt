-- Refused it does nothing; or else what is due is written.
use mathlib.Core.Path.{sym, ap, ◌∙◌}
use Rattle.std.proofs.Common.{ℕ, arith}
use Rattle.std.proofs.lemmas.Result.{err_from_is_err_and}
use Rattle.octets.specs.Buffers.{put}
use Rattle.refusals.specs.Outcome.{outcome}
use Rattle.refusals.proofs.Settled.{left_at}
use Rattle.trivium.specs.Keystream.{trivium}
use Rattle.sender.specs.Answers.{Sent}
use Rattle.sender.specs.Sender.{sending}
use Rattle.frames.proofs.FramesWritten.{with_number, short}
use Rattle.sender.proofs.Senders.{phase_of, none_under_way, one_under_way, length_due, due_opening, due_block, sent_so}
use Rattle.sender.proofs.Sender.send.Goals as goal

pub returns-then-not-in_rule : goal.returns-then-not-in_rule
unfolding sending
returns-then-not-in_rule c = left_at _ _ _ 0 tt (sym c.if-not-in_rule.ensures)

pub returns-in_err-known : goal.returns-in_err-known
unfolding sending
returns-in_err-known c =
    let s = c.args.self in
    let p = err_from_is_err_and c.from_residual.result c.from_residual.ensures.1 in
    let none = none_under_way s.phase (sym c.known.ensures ∙ c.in_err-known.was) in
    rw (p.1, p.2)
    (ap (λ (number : ℕ). outcome {A = Sent} (record { refusal = number; length = 0; sender = s }) c.args.frame.now) none.1
    ∙ left_at _ _ _ 1 tt (sym c.if-not-in_rule.ensures, none.0))

pub returns-then-sound-self : goal.returns-then-sound-self
unfolding sending
returns-then-sound-self c =
    let one = one_under_way c.args.self.phase (sym c.known.ensures ∙ c.in_ok-known.was) in
    left_at _ _ _ 2 tt (sym c.if-not-in_rule.ensures, (one.0, c.if-sound-self.true))

pub returns-then-frame-due : goal.returns-then-frame-due
unfolding sending
returns-then-frame-due c =
    let s = c.args.self in
    let one = one_under_way s.phase (sym c.known.ensures ∙ c.in_ok-known.was) in
    let long = length_due trivium s c.args.sound.now c.in_ok-known.known one.1.0 c.if-sound-self.false in
    left_at _ _ _ 3 tt (sym c.if-not-in_rule.ensures, (one.0, (c.if-sound-self.false, omega arith)))

pub returns-in-None : goal.returns-in-None
returns-in-None c =
    let s = c.args.self in
    let one = one_under_way s.phase (sym c.known.ensures ∙ c.in_ok-known.was) in
    let opening = one.1.0 ∙ ap phase_of c.in-None.is in
    let long = length_due trivium s c.args.sound.now c.in_ok-known.known one.1.0 c.if-sound-self.false in
    sent_so trivium s c.args.sound.now c.args.frame.now
    (sym c.if-not-in_rule.ensures, (one.0, (c.if-sound-self.false, (omega arith, tt))))
    (c.due-due.ensures ∙ long)
    (with_number (λ (n : ℕ). put c.args.frame.now 0 (short 1 s.session 4 n)) s.length c.write_short.ensures c.from-length.ensures
    ∙ ap (put c.args.frame.now 0) (due_opening trivium s c.args.sound.now opening))

pub returns-in-Some : goal.returns-in-Some
returns-in-Some c =
    let s = c.args.self in
    let one = one_under_way s.phase (sym c.known.ensures ∙ c.in_ok-known.was) in
    let sending = one.1.0 ∙ ap phase_of c.in-Some.is in
    let long = length_due trivium s c.args.sound.now c.in_ok-known.known one.1.0 c.if-sound-self.false in
    sent_so trivium s c.args.sound.now c.args.frame.now
    (sym c.if-not-in_rule.ensures, (one.0, (c.if-sound-self.false, (omega arith, tt))))
    (c.due-due.ensures ∙ long)
    (c.write_block.ensures ∙ ap (put c.args.frame.now 0) (due_block trivium s c.args.sound.now sending))
