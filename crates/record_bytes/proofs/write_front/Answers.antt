-- `write_front`: without room it does nothing; with it each field goes right behind the one before.
use Rattle.std.proofs.Common.{◌≡◌, ◌∙◌, ℕ, List, ◌++◌, ap, sym, length, length-append, arith, rules}
use Rattle.octets.specs.{Buffers.placed, Buffers.put, Digits.digits, Rows.row}
use Rattle.octets.proofs.Buffers.{put_placed, put_none, goes_on, length_placed}
use Rattle.octets.proofs.Rows.{length_row, row_written}
use Rattle.names.specs.Naming.{key_bytes, pair_bytes}
use Rattle.record_bytes.specs.Front.{front_widths, front_numbers, front_bytes}
use Rattle.record_bytes.proofs.Fronts.{length_front}
use Rattle.record_bytes.proofs.write_front.Goals as goal

pub returns-then-d-lt-FRONT_BYTES : goal.returns-then-d-lt-FRONT_BYTES
returns-then-d-lt-FRONT_BYTES c =
    let f = c.args.front in
    put_none c.args.d.now 0 (front_bytes f) (rw (length_front f (search rules) (search rules)) (omega arith))

pub returns : goal.returns
unfolding front_bytes
returns c =
    let d : List ℕ = c.args.d.now in
    let f = c.args.front in
    let key : length f.key ≡ key_bytes = search rules in
    let pair : length f.pair ≡ pair_bytes = search rules in
    let names : c.copy-2.new.d ≡ placed d 0 (f.key ++ f.pair) =
    c.copy-2.ensures
    ∙ goes_on d 0 f.key f.pair (c.copy.ensures ∙ put_placed d 0 f.key (omega arith)) (omega arith)
    (omega arith) in
    let room : length c.copy-2.new.d ≡ length d =
    ap length names ∙ length_placed d 0 (f.key ++ f.pair) (rw length-append (omega arith)) in
    c.write_number-2.ensures
    ∙ ap (λ (l : List ℕ). put l 20 (digits 256 4 f.length)) c.write_number.ensures
    ∙ row_written c.copy-2.new.d front_widths (front_numbers f) 16 (omega arith)
    ∙ goes_on d 0 (f.key ++ f.pair) (row front_widths (front_numbers f)) names (rw length-append (omega arith))
    (omega (arith, length_row front_widths (front_numbers f)))
    ∙ sym (put_placed d 0 (front_bytes f) (rw (length_front f key pair) (omega arith)))
