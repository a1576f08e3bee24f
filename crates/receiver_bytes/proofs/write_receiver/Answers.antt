-- `write_receiver`: without room it does nothing; with it the count goes right behind the front.
use Rattle.std.proofs.Common.{◌≡◌, ◌∙◌, ℕ, List, [], ◌∷◌, sym, ap, length, arith, rules}
use Rattle.octets.specs.{Buffers.put, Digits.digits, Rows.row}
use Rattle.octets.proofs.Buffers.{put_placed, put_none, goes_on, length_put}
use Rattle.octets.proofs.Rows.{length_row, row_written}
use Rattle.names.specs.Naming.{key_bytes, pair_bytes}
use Rattle.record_bytes.specs.Front.{front_bytes}
use Rattle.record_bytes.proofs.Fronts.{length_front}
use Rattle.receiver_bytes.specs.Record.{front_of, count_widths, receiver_bytes}
use Rattle.receiver_bytes.proofs.Record.{length_receiver}
use Rattle.receiver_bytes.proofs.write_receiver.Goals as goal

pub returns-then-d-lt-RECEIVER_BYTES : goal.returns-then-d-lt-RECEIVER_BYTES
returns-then-d-lt-RECEIVER_BYTES c =
    let r = c.args.receiver in
    put_none c.args.d.now 0 (receiver_bytes r) (rw (length_receiver r (search rules) (search rules)) (omega arith))

pub returns : goal.returns
unfolding receiver_bytes
returns c =
    let d : List ℕ = c.args.d.now in
    let r = c.args.receiver in
    let key : length r.key ≡ key_bytes = search rules in
    let pair : length r.pair ≡ pair_bytes = search rules in
    let front : List ℕ = front_bytes (front_of r) in
    let rest : List ℕ = row count_widths (r.count ∷ []) in
    let long = length_front (front_of r) key pair in
    let after : List ℕ = c.write_front.new.d in
    let same : length after ≡ length d = ap length c.write_front.ensures ∙ length_put d 0 front in
    c.write_number.ensures
    ∙ ap (λ (count : ℕ). put after 24 (digits 256 2 count)) c.from.ensures
    ∙ row_written after count_widths (r.count ∷ []) 24 (omega arith)
    ∙ goes_on d 0 front rest (c.write_front.ensures ∙ put_placed d 0 front (omega arith))
    (omega arith) (omega (arith, length_row count_widths (r.count ∷ [])))
    ∙ sym (put_placed d 0 (receiver_bytes r) (rw (length_receiver r key pair) (omega arith)))
