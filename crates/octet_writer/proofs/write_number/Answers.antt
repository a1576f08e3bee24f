-- `octet_writer::write_number` meets its contract: the loop writes the number's bytes, as many as it says.
use Rattle.std.proofs.Common.{arith, ◌≡◌, ℕ, ◌+◌, ◌<◌, List, length, sym, ◌∙◌}
use lib.ListN.{set}
use Rattle.octets.specs.{Buffers.put, Digits.digits}
use Rattle.octets.proofs.Numbers.{digit_at, length_digits}
use Rattle.octets.proofs.Buffers.{put_none, paste_more, paste_all}
use Rattle.octet_writer.proofs.write_number.Goals as goal
use Rattle.octet_writer.proofs.write_number.Goals.{else-at-d-via-then-at-d+else-n-d, else-at-d-via-else-at-d}

pub loop-i-preserved : goal.loop-i-preserved
loop-i-preserved c =
    let n : ℕ = c.args.n in
    let i : ℕ = c.loop-i.i in
    let run : List ℕ = digits 256 n c.args.value in
    let digit = c.byte_above.ensures ∙ sym (digit_at 256 n c.args.value i (omega arith)) in
    (λ j. set (c.loop-i.invariant j) (c.args.at + i) (digit j))
    ∙ paste_more c.args.d.now c.args.at run i 0 (omega arith) (omega (arith, length_digits 256 n c.args.value))

pub returns-after-loop-i : goal.returns-after-loop-i
returns-after-loop-i c =
    let run : List ℕ = digits 256 c.args.n c.args.value in
    let last : c.loop-i.i ≡ length run = omega (arith, length_digits 256 c.args.n c.args.value) in
    c.loop-i.invariant ∙ paste_all c.args.d.now c.args.at run c.loop-i.i last (omega arith)

no_room : (d : List ℕ) (at n value : ℕ) → length d < at + n → d ≡ put d at (digits 256 n value)
no_room d at n value short = put_none d at (digits 256 n value) (rw length_digits short)

pub returns-else-at-d : goal.returns-else-at-d
returns-else-at-d c =
    let p = c.args in
    elim c.else-at-d.branch [
      | else-at-d-via-then-at-d+else-n-d w ↦ no_room p.d.now p.at p.n p.value (omega arith)
      | else-at-d-via-else-at-d w ↦ no_room p.d.now p.at p.n p.value (omega arith)
    ]
