-- Without room it does nothing; with it, what the cipher writes to the front of the part from `at` on stands at `at` in
-- the buffer.
use Rattle.std.proofs.Common.{Ok, List, ℕ, length, take, drop, ◌++◌, ◌+◌, ◌-◌, ◌≤◌, sym, ap, ◌∙◌, length-take, length-drop, arith}
use Rattle.octets.specs.{Buffers.slice, Buffers.placed, Stream.Keystream, Stream.enciphered}
use Rattle.octets.proofs.Buffers.{put_placed, put_none, placed_part}
use Rattle.refusals.specs.{Answers.Answer, Outcome.Outcome}
use Rattle.refusals.proofs.Answers.{one_answer}
use Rattle.trivium.specs.{Keystream.trivium, declared.Registers.Registers}
use Rattle.trivium.proofs.Theorems.{enciphers}
use Rattle.blocks.specs.Covering.{covered}
use Rattle.blocks.proofs.Covering.{length_covered}
use Rattle.blocks.proofs.cover.Goals as goal
use Rattle.blocks.proofs.cover.Goals.{then-buffer-at-via-then-buffer-at, then-buffer-at-via-else-buffer-at+then-buffer-at-2}

pub returns-then-buffer-at : goal.returns-then-buffer-at
returns-then-buffer-at c =
    let p = c.args in
    let long = length_covered trivium p.key.now p.pair.now p.session p.k p.run.now in
    elim c.then-buffer-at.branch [
      | then-buffer-at-via-then-buffer-at w ↦ put_none _ _ _ (omega arith)
      | then-buffer-at-via-else-buffer-at+then-buffer-at-2 w ↦ put_none _ _ _ (omega arith)
    ]

pub unwrap-requires : goal.unwrap-requires
unwrap-requires c =
    let r = c.cipher.result in
    let d = c.args.buffer.now in
    let part = slice d c.args.at (length d - c.args.at) in
    let done =
    c.encipher.ensures ∙ enciphers r c.args.run.now part (simp (length-take, length-drop) (omega arith)) in
    rw (one_answer r c.encipher.result (Ok _) (ap (λ (o : Outcome (Answer Registers) ℕ). o.answer) done))

pub returns : goal.returns
unfolding covered
returns c =
    let r = c.cipher.result in
    let p = c.args in
    let d : List ℕ = p.buffer.now in
    let run : List ℕ = p.run.now in
    let all : List ℕ = covered trivium p.key.now p.pair.now p.session p.k run in
    let part : List ℕ = slice d p.at (length d - p.at) in
    let long = length_covered trivium p.key.now p.pair.now p.session p.k run in
    let room : p.at + length all ≤ length d = omega arith in
    ap (λ (l : List ℕ). take p.at d ++ (l ++ drop (length d - p.at) (drop p.at d)))
    (ap (λ (o : Outcome (Answer Registers) ℕ). o.buffer)
    (c.encipher.ensures ∙ enciphers r run part (simp (length-take, length-drop) (omega arith)))
    ∙ ap (λ (k : Keystream). placed part 0 (enciphered k run)) c.cipher.ensures)
    ∙ placed_part d p.at all room
    ∙ sym (put_placed d p.at all room)
