-- `hear`: refused it does nothing; or else what was heard says what is written, to the answer and, if a block is in
-- turn, to the sound.
use Rattle.std.proofs.Common.{◌≡◌, ◌∙◌, ℕ, ◌+◌, List, Some, refl, sym, ap, drop, length, arith, rules}
use Rattle.std.proofs.lemmas.Result.{err_from_is_err_and}
use Rattle.refusals.proofs.{Answers.never_accepted, Faults.refused_at}
use Rattle.trivium.specs.Keystream.{trivium}
use Rattle.frames.specs.Frames.{opening, block, it, no_frame, heard}
use Rattle.frames.specs.{Told.told, Told.heard_as}
use Rattle.frames.specs.declared.Told.TheVariants as the_told
use Rattle.frames.proofs.FramesRead.{told_back}
use Rattle.receiver.specs.Receiver.{taking, still_held, on_frame}
use Rattle.receiver.proofs.Receivers.{count_below, frame_refuses, of_heard, heard_right}
use Rattle.receiver.proofs.Receivers.{on_repeat, on_long, on_new, on_turn, on_other, refused_so_lem, held_so}
use Rattle.receiver.proofs.Receivers.{on_foreign, too_long_so, short_so}
use Rattle.receiver.proofs.Receiver.hear.Goals as goal
use Rattle.receiver.proofs.Receiver.hear.Goals.{in_default-told-via-in-Opening+else-session-self}
use Rattle.receiver.proofs.Receiver.hear.Goals.{in_default-told-via-in-Block+else-k-self}
use Rattle.receiver.proofs.Receiver.hear.Goals.{in_default-told-via-in_default-told}

pub returns-then-not-in_rule : goal.returns-then-not-in_rule
returns-then-not-in_rule c =
    refused_so_lem trivium c.args.self c.args.sound.now c.args.answer.now c.args.frame.now _ refl _ (omega arith)
    (refused_at 0 _ (sym c.in_rule.ensures ∙ c.if-not-in_rule.true))

pub returns-in_err-frame_fault : goal.returns-in_err-frame_fault
returns-in_err-frame_fault c =
    let p = c.args in
    let gone = err_from_is_err_and c.from_residual.result c.from_residual.ensures.1 in
    rw (gone.1, gone.2)
    (refused_so_lem trivium p.self p.sound.now p.answer.now p.frame.now _ refl _ (never_accepted _)
    (frame_refuses _ _ _ _ (sym c.in_rule.ensures ∙ c.if-not-in_rule.false) (never_accepted _)
    (of_heard p.frame.now p.self (length p.sound.now) c.in-Some.ensures c.in_err-frame_fault.ensures refl)))

pub returns-then-answer-lt-ANSWER_ROOM : goal.returns-then-answer-lt-ANSWER_ROOM
returns-then-answer-lt-ANSWER_ROOM c = search (rules, short_so)

pub returns-in_default : goal.returns-in_default
returns-in_default c =
    let p = c.args in
    let e : heard p.frame.now ≡ no_frame = told_back p.frame.now c.in_default.ensures in
    refused_so_lem trivium p.self p.sound.now p.answer.now p.frame.now _ e _ (omega arith)
    (frame_refuses p.self (length p.sound.now) (length p.answer.now) no_frame
    (sym c.in_rule.ensures ∙ c.if-not-in_rule.false) (omega arith) (refused_at 0 _ refl))

pub returns-then-sound-length : goal.returns-then-sound-length
returns-then-sound-length c =
    let p = c.args in
    let i = c.in-Opening in
    let read : Some (the_told.Opening i.session i.length) ≡ told (heard p.frame.now) =
    ap Some (sym i.is) ∙ c.in-Some.ensures in
    let e : heard p.frame.now ≡ it (opening i.session i.length) = told_back p.frame.now read in
    let right =
    heard_right p.frame.now p.self (length p.sound.now) (length p.answer.now) e
    (sym c.in_rule.ensures ∙ c.if-not-in_rule.false) c.in-Some.ensures c.in_ok-frame_fault.ensures (omega arith) in
    too_long_so trivium p.self p.sound.now p.answer.now p.frame.now _ e i.session right
    (on_long trivium p.self p.sound.now i.session i.length (λ e. omega arith) (omega arith))
    c.write_short.ensures

pub overflow_add-taken : goal.overflow_add-taken
overflow_add-taken c = omega (arith, count_below c.args.self (sym c.in_rule.ensures ∙ c.if-not-in_rule.false))

pub returns-else-sound-length : goal.returns-else-sound-length
returns-else-sound-length c =
    let p = c.args in
    let i = c.in-Opening in
    let read : Some (the_told.Opening i.session i.length) ≡ told (heard p.frame.now) =
    ap Some (sym i.is) ∙ c.in-Some.ensures in
    let e : heard p.frame.now ≡ it (opening i.session i.length) = told_back p.frame.now read in
    let right =
    heard_right p.frame.now p.self (length p.sound.now) (length p.answer.now) e
    (sym c.in_rule.ensures ∙ c.if-not-in_rule.false) c.in-Some.ensures c.in_ok-frame_fault.ensures (omega arith) in
    held_so trivium p.self p.sound.now p.answer.now p.frame.now _ e (taking p.self i.session i.length 0) right
    (on_new trivium p.self p.sound.now i.session i.length (λ e. omega arith) (omega arith))
    c.holds.ensures

pub returns-in-Block : goal.returns-in-Block
returns-in-Block c =
    let p = c.args in
    let i = c.in-Block in
    let run : List ℕ = drop 8 p.frame.now in
    let read : Some (the_told.Block i.field-0 i.k i.field-2) ≡ told (heard p.frame.now) =
    ap Some (sym i.is) ∙ c.in-Some.ensures in
    let e : heard p.frame.now ≡ it (block i.field-0 i.k run) = told_back p.frame.now read in
    let right =
    heard_right p.frame.now p.self (length p.sound.now) (length p.answer.now) e
    (sym c.in_rule.ensures ∙ c.if-not-in_rule.false) c.in-Some.ensures c.in_ok-frame_fault.ensures (omega arith) in
    held_so trivium p.self p.sound.now p.answer.now p.frame.now _ e
    (taking p.self p.self.session p.self.length (i.k + 1)) right
    (on_turn trivium p.self p.sound.now i.k run (omega arith) c.take.ensures (omega arith))
    c.holds-in-Block.ensures

pub returns-in_default-told : goal.returns-in_default-told
returns-in_default-told c =
    let p = c.args in
    let run : List ℕ = drop 8 p.frame.now in
    let t = c.in-Some.told in
    let e : heard p.frame.now ≡ heard_as run (Some t) = told_back p.frame.now c.in-Some.ensures in
    let right =
    heard_right p.frame.now p.self (length p.sound.now) (length p.answer.now) e
    (sym c.in_rule.ensures ∙ c.if-not-in_rule.false) c.in-Some.ensures c.in_ok-frame_fault.ensures (omega arith) in
    let same : on_frame trivium p.self p.sound.now (heard_as run (Some t)) ≡ still_held p.self p.sound.now =
    elim c.in_default-told.branch [
      | in_default-told-via-in-Opening+else-session-self w ↦
          rw w.in-Opening.is (on_repeat trivium p.self p.sound.now _ _ (omega arith))
      | in_default-told-via-in-Block+else-k-self w ↦
          rw w.in-Block.is (on_other trivium p.self p.sound.now _ _ (λ e. omega arith))
      | in_default-told-via-in_default-told w ↦
          on_foreign trivium p.self p.sound.now run t w.in_default-told.not-Opening w.in_default-told.not-Block
    ] in
    held_so trivium p.self p.sound.now p.answer.now p.frame.now _ e p.self right same c.holds-in_default-told.ensures
