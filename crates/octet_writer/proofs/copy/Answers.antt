-- `octet_writer::copy` meets its contract: byte after byte, in its place.
use Rattle.std.proofs.Common.{arith, ℕ, ◌+◌, List, get_or, ap, ◌∙◌}
use lib.ListN.{set}
use Rattle.octets.proofs.Buffers.{put_none, paste_more, paste_all}
use Rattle.octet_writer.proofs.copy.Goals as goal
use Rattle.octet_writer.proofs.copy.Goals.{else-at-d-via-then-at-d+else-run-d, else-at-d-via-else-at-d}

pub loop-i-preserved : goal.loop-i-preserved
loop-i-preserved c =
    let at : ℕ = c.args.at in
    let run : List ℕ = c.args.run.now in
    let i : ℕ = c.loop-i.i in
    ap (λ (d : List ℕ). set d (at + i) (get_or run i 0)) c.loop-i.invariant
    ∙ paste_more c.args.d.now at run i 0 (omega arith) (omega arith)

pub returns-after-loop-i : goal.returns-after-loop-i
returns-after-loop-i c =
    c.loop-i.invariant ∙ paste_all c.args.d.now c.args.at c.args.run.now c.loop-i.i (omega arith) (omega arith)

pub returns-else-at-d : goal.returns-else-at-d
returns-else-at-d c =
    elim c.else-at-d.branch [
      | else-at-d-via-then-at-d+else-run-d w ↦ put_none c.args.d.now c.args.at c.args.run.now (omega arith)
      | else-at-d-via-else-at-d w ↦ put_none c.args.d.now c.args.at c.args.run.now (omega arith)
    ]
