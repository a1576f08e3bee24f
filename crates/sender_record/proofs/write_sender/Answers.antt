-- Without room nothing is written; with it the phase goes right behind the front.
use mathlib.Core.{Path.◌≡◌, Path.sym, Path.ap, Path.◌∙◌, List.List, List.[], List.◌∷◌}
use Rattle.std.proofs.Common.{ℕ, length, arith, rules}
use Rattle.octets.specs.{Buffers.put, Digits.digits, Rows.row}
use Rattle.octets.proofs.Buffers.{put_placed, put_none, goes_on, length_put}
use Rattle.octets.proofs.Rows.{length_row, row_written}
use Rattle.record_bytes.specs.Front.{front_bytes}
use Rattle.record_bytes.proofs.Fronts.{length_front}
use Rattle.sender_record.specs.Record.{phase_numbers, phase_widths, front_of, sender_bytes}
use Rattle.sender_record.proofs.Record.{length_sender}
use Rattle.sender_record.proofs.write_sender.Goals as goal

pub returns-then-d-lt-SENDER_BYTES : goal.returns-then-d-lt-SENDER_BYTES
returns-then-d-lt-SENDER_BYTES c =
    let s = c.args.sender in
    put_none c.args.d.now 0 (sender_bytes s)
    (rw (length_sender s (search rules) (search rules)) (omega arith))

pub returns : goal.returns
unfolding sender_bytes
returns c =
    let d : List ℕ = c.args.d.now in
    let s = c.args.sender in
    let long = length_front (front_of s) (search rules) (search rules) in
    let rest : List ℕ = row phase_widths (phase_numbers s.phase) in
    let after : List ℕ = c.write_front.new.d in
    let same : length after ≡ length d = ap length c.write_front.ensures ∙ length_put d 0 (front_bytes (front_of s)) in
    let n = c.phase_numbers-number in
    c.write_number-2.ensures
    ∙ (λ i. put (c.write_number.ensures i) 25 (digits 256 2 (c.from-2.ensures i)))
    ∙ ap (λ (x : ℕ). put (put after 24 (digits 256 1 x)) 25 (digits 256 2 n.result.1)) c.from.ensures
    ∙ row_written after phase_widths (n.result.0 ∷ n.result.1 ∷ []) 24 (omega arith)
    ∙ ap (λ (l : List ℕ). put after 24 (row phase_widths l)) n.ensures
    ∙ goes_on d 0 (front_bytes (front_of s)) rest
    (c.write_front.ensures ∙ put_placed d 0 (front_bytes (front_of s)) (omega arith))
    (omega arith) (omega (arith, length_row phase_widths (phase_numbers s.phase)))
    ∙ sym (put_placed d 0 (sender_bytes s) (rw (length_sender s (search rules) (search rules)) (omega arith)))
