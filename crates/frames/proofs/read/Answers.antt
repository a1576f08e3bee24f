-- What is asked of the numbers that are read leaves one row of the table, or none.
use mathlib.Core.{Path.ap, Path.ap₂, Path.◌∙◌}
use Rattle.std.proofs.Common.{ℕ, Some, arith}
use Rattle.frames.specs.declared.Told.TheVariants as the_told
use Rattle.frames.proofs.FramesRead.{byte, first_byte, no_first_byte}
use Rattle.frames.proofs.FramesRead.{tells_opening, tells_block, tells_holds, tells_too_long, tells_nothing}
use Rattle.frames.proofs.read.Goals as goal

pub returns-then-size-lt5 : goal.returns-then-size-lt5
returns-then-size-lt5 c = tells_nothing _ (omega arith)

pub returns-then-session-eq0 : goal.returns-then-session-eq0
returns-then-session-eq0 c = tells_nothing _ (omega arith)

pub returns-in_err-of : goal.returns-in_err-of
returns-in_err-of c =
    let first = no_first_byte c.args.message.now (omega arith) c.of.ensures c.in_err-of.was in
    c.from_residual.ensures ∙ tells_nothing _ (omega arith)

pub returns-then-sound-le-MOST_BYTES : goal.returns-then-sound-le-MOST_BYTES
returns-then-sound-le-MOST_BYTES c =
    let first = first_byte c.args.message.now (omega arith) c.of.ensures c.in_ok-of.was c.in-Opening.is in
    ap₂ (λ (session sound : ℕ). Some (the_told.Opening session sound))
    c.four_at-session.ensures c.four_at-sound.ensures
    ∙ tells_opening _ (omega arith)

pub returns-else-sound-le-MOST_BYTES : goal.returns-else-sound-le-MOST_BYTES
returns-else-sound-le-MOST_BYTES c =
    let first = first_byte c.args.message.now (omega arith) c.of.ensures c.in_ok-of.was c.in-Opening.is in
    tells_nothing _ (omega arith)

pub returns-then-count-le-BLOCK_BYTES : goal.returns-then-count-le-BLOCK_BYTES
returns-then-count-le-BLOCK_BYTES c =
    let first = first_byte c.args.message.now (omega arith) c.of.ensures c.in_ok-of.was c.in-Block.is in
    let count = byte c.args.message.now 7 (omega arith) in
    (λ i. Some (the_told.Block (c.four_at-session.ensures i) (c.two_at.ensures i) (count i)))
    ∙ tells_block _ (omega arith)

pub returns-else-size-count : goal.returns-else-size-count
returns-else-size-count c =
    let first = first_byte c.args.message.now (omega arith) c.of.ensures c.in_ok-of.was c.in-Block.is in
    let count = byte c.args.message.now 7 (omega arith) in
    tells_nothing _ (omega arith)

pub returns-in-Holds : goal.returns-in-Holds
returns-in-Holds c =
    let first = first_byte c.args.message.now (omega arith) c.of.ensures c.in_ok-of.was c.in-Holds.is in
    ap₂ (λ (session held : ℕ). Some (the_told.Holds session held)) c.four_at-session.ensures c.two_at-in-Holds.ensures
    ∙ tells_holds _ (omega arith)

pub returns-in-TooLong : goal.returns-in-TooLong
returns-in-TooLong c =
    let first = first_byte c.args.message.now (omega arith) c.of.ensures c.in_ok-of.was c.in-TooLong.is in
    ap (λ (session : ℕ). Some (the_told.TooLong session)) c.four_at-session.ensures ∙ tells_too_long _ (omega arith)

pub returns-in_default : goal.returns-in_default
returns-in_default c =
    let first = first_byte c.args.message.now (omega arith) c.of.ensures c.in_ok-of.was c.in-Opening.is in
    tells_nothing _ (omega arith)

pub returns-in_default-2 : goal.returns-in_default-2
returns-in_default-2 c =
    let first = first_byte c.args.message.now (omega arith) c.of.ensures c.in_ok-of.was c.in-Block.is in
    tells_nothing _ (omega arith)

pub returns-in_default-3 : goal.returns-in_default-3
returns-in_default-3 c =
    let first = first_byte c.args.message.now (omega arith) c.of.ensures c.in_ok-of.was c.in-Holds.is in
    tells_nothing _ (omega arith)

pub returns-in_default-4 : goal.returns-in_default-4
returns-in_default-4 c =
    let first = first_byte c.args.message.now (omega arith) c.of.ensures c.in_ok-of.was c.in-TooLong.is in
    tells_nothing _ (omega arith)
