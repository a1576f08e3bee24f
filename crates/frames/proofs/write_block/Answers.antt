-- Without room nothing is written; with it count and bytes go behind the block's number.
use mathlib.Core.{Path.◌≡◌, Path.sym, Path.ap, Path.◌∙◌, List.List}
use Rattle.std.proofs.Common.{ℕ, ◌+◌, ◌<◌, length, arith}
use Rattle.octets.specs.{Buffers.put, Digits.digits}
use Rattle.octets.proofs.Buffers.{put_none, put_placed}
use Rattle.trivium.specs.Keystream.{trivium}
use Rattle.blocks.specs.Covering.{covered}
use Rattle.blocks.proofs.Covering.{length_covered}
use Rattle.frames.specs.Frames.{block, bytes}
use Rattle.frames.proofs.FramesWritten.{short, length_short, length_block, block_written}
use Rattle.frames.proofs.write_block.Goals as goal
use Rattle.frames.proofs.write_block.Goals.{then-frame-lt8-via-then-frame-lt8, then-frame-lt8-via-else-frame-lt8+then-frame-n}

-- the frame of a run, covered
module _ (key pair : List ℕ) (session k : ℕ) where
  abbrev frame_of : List ℕ → List ℕ
  frame_of run = bytes (block session k (covered trivium key pair session k run))

  framed : (d : List ℕ) {run same : List ℕ} → run ≡ same → put d 0 (frame_of run) ≡ put d 0 (frame_of same)
  framed d e = ap (λ (run : List ℕ). put d 0 (frame_of run)) e

  no_room : (d : List ℕ) {run same : List ℕ} → run ≡ same → length d < 8 + length run → d ≡ put d 0 (frame_of same)
  no_room d {run} e few =
      let same = length_covered trivium key pair session k run in
      let long = length_block session k (covered trivium key pair session k run) in
      put_none d 0 (frame_of run) (omega arith) ∙ framed d e

pub returns-then-frame-lt8 : goal.returns-then-frame-lt8
returns-then-frame-lt8 c =
    let p = c.args in
    let none : length p.frame.now < 8 + length c.slice-run.result.now =
    elim c.then-frame-lt8.branch [
      | then-frame-lt8-via-then-frame-lt8 w ↦ omega arith
      | then-frame-lt8-via-else-frame-lt8+then-frame-n w ↦ omega arith
    ] in
    no_room p.key.now p.pair.now p.session p.k p.frame.now c.slice-run.ensures none

pub returns : goal.returns
returns c =
    let p = c.args in
    let d : List ℕ = p.frame.now in
    let R : List ℕ = c.slice-run.result.now in
    let run : List ℕ = covered trivium p.key.now p.pair.now p.session p.k R in
    let same = length_covered trivium p.key.now p.pair.now p.session p.k R in
    let head = length_short 2 p.session 2 p.k in
    let long = length_block p.session p.k run in
    let front = c.write_short.ensures ∙ put_placed d 0 (short 2 p.session 2 p.k) (omega arith) in
    c.cover.ensures
    ∙ ap (λ (e : List ℕ). put e 8 run)
    (c.write_number.ensures ∙ (λ j. put (front j) 7 (digits 256 1 (sym same j))))
    ∙ block_written d p.session p.k run (omega arith)
    ∙ sym (put_placed d 0 (bytes (block p.session p.k run)) (omega arith))
    ∙ framed p.key.now p.pair.now p.session p.k d c.slice-run.ensures
