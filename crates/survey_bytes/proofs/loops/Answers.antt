-- Without a flaw the file is accepted, and then its loops have room or not; they are read where they stand.
use Rattle.std.proofs.Common.{ℕ, ◌*◌, List, length, sym, ap, ap₂, ◌∙◌, arith}
use Rattle.octets.specs.{Buffers.put, Rows.numbers_at}
use Rattle.octets.proofs.{Buffers.put_placed, Rows.many_read}
use Rattle.refusals.specs.{Numbers.accepted, Answers.number_of}
use Rattle.refusals.proofs.Settled.{settled_left, settled_done}
use Rattle.refusals.proofs.Answers.{never_accepted}
use Rattle.pack.specs.{Answers.Opened, Ciphers.cipher_in, Layout.fours, Places.loops_place}
use Rattle.record_bytes.specs.Written.{wrote}
use Rattle.survey_bytes.specs.Calls.{loop_numbers, pack_loops}
use Rattle.pack.proofs.Answers.{number_passed}
use Rattle.survey_bytes.proofs.Surveyed.{refused_first, all_told, loops_there, short_next, fits_then}
use Rattle.survey_bytes.proofs.loops.Goals as goal

pub returns-in_err-told : goal.returns-in_err-told
unfolding pack_loops
returns-in_err-told c =
    let a = c.args in
    let flaw = c.in_err-told.field-0.0 in
    ap (wrote a.loops.now a.written.now) (sym (number_passed c.from_residual.result _ c.from_residual.ensures.1))
    ∙ settled_left _ _ _ (number_of flaw.refusal) (never_accepted flaw.refusal)
    (refused_first a.file.now (loop_numbers a.file.now) (length a.loops.now) flaw c.in_err-told.ensures)

pub overflow_mul-count : goal.overflow_mul-count
overflow_mul-count c =
    let f = c.args.file.now in
    let k = ap (λ (o : Opened). o.loops) (all_told f _ c.in_ok-told.ensures) in
    omega (arith, loops_there f _ c.in_ok-told.ensures)

pub returns-then-loops-count : goal.returns-then-loops-count
unfolding pack_loops
returns-then-loops-count c =
    let f = c.args.file.now in
    let k = ap (λ (o : Opened). o.loops) (all_told f _ c.in_ok-told.ensures) in
    settled_left _ _ _ _ (omega arith)
    (short_next f _ c.in_ok-told.ensures (loop_numbers f) (length c.args.loops.now) (omega arith))

pub read_numbers-requires : goal.read_numbers-requires
read_numbers-requires c =
    let f = c.args.file.now in
    let all = all_told f _ c.in_ok-told.ensures in
    let k = ap (λ (o : Opened). o.loops) all in
    let at = ap (λ (o : Opened). o.loops_at) all in
    omega (arith, loops_there f _ c.in_ok-told.ensures)

pub returns : goal.returns
unfolding pack_loops
returns c =
    let a = c.args in
    let file : List ℕ = a.file.now in
    let all = all_told file _ c.in_ok-told.ensures in
    let k = ap (λ (o : Opened). o.loops) all in
    let at = ap (λ (o : Opened). o.loops_at) all in
    let n : ℕ = loop_numbers file in
    let size = many_read 4 n file (loops_place (cipher_in file) file) in
    ap₂ (λ (l : List ℕ) (n : ℕ). wrote l n accepted)
    (c.read_numbers.ensures
    ∙ (λ i. put a.loops.now 0 (numbers_at (fours (2 * k i)) file (at i)))
    ∙ put_placed a.loops.now 0 (numbers_at (fours n) file (loops_place (cipher_in file) file)) (omega arith))
    (ap (λ (n : ℕ). 2 * n) k)
    ∙ settled_done _ _ _ (fits_then file _ c.in_ok-told.ensures n (length a.loops.now) (omega arith))
