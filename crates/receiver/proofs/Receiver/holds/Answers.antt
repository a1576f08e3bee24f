-- `holds`: what is written is the frame's row.
use Rattle.std.proofs.Common.{◌∙◌, ℕ, List, ap, arith}
use Rattle.octets.specs.Buffers.{put}
use Rattle.refusals.specs.Outcome.{outcome}
use Rattle.frames.proofs.FramesWritten.{with_number, short, short_holds}
use Rattle.receiver.specs.Receiver.{answered}
use Rattle.receiver.proofs.Receiver.holds.Goals as goal

pub returns : goal.returns
returns c =
    let r = c.args.self in
    ap (outcome (answered r 7))
    (with_number (λ (held : ℕ). put c.args.answer.now 0 (short 3 r.session 2 held)) r.count c.write_short.ensures
    (omega arith)
    ∙ ap (λ (frame : List ℕ). put c.args.answer.now 0 frame) (short_holds r.session r.count))
