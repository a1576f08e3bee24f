-- What was told to one who has keys decides, then the room, and the samples are read under the cipher and the key that the
-- pack names.
use mathlib.Core.{Path.sym, Path.ap, Path.◌∙◌, List.List}
use Rattle.std.proofs.Common.{arith}
use Rattle.std.specs.Prelude.{Ok, Err}
use lib.{IntN.ℤ, ListN.length}
use Rattle.octets.specs.{Buffers.placed, Stream.Keystream}
use Rattle.refusals.specs.{Numbers.no_room, Outcome.Outcome, Outcome.outcome, declared.Flaw.Flaw}
use Rattle.refusals.proofs.{Faults.refused_at, Settled.done_if}
use Rattle.chunks.specs.Ahead.{reading_on}
use Rattle.pack.specs.Answers.{Opened, opening_of}
use Rattle.pack.specs.{Calls.opening_pack, Ciphers.cipher_in, Faults.room_faults, Faults.open_faults, Places.sample_count}
use Rattle.pack.proofs.Answers.{passed_on}
use Rattle.opener.proofs.Told.{flaw_passed, refused_later, none_broken, known}
use Rattle.opener.proofs.open.Goals as goal

pub returns-in_err-opened : goal.returns-in_err-opened
unfolding opening_pack open_faults
returns-in_err-opened c =
    let a = c.args in
    ap (λ (o : Opened). outcome o a.output.now) (passed_on c.from_residual.result _ c.from_residual.ensures.1)
    ∙ flaw_passed a.rings a.file.now _ c.in_err-opened.ensures _ _ a.output.now

pub returns-then-output-opened : goal.returns-then-output-opened
unfolding opening_pack open_faults
returns-then-output-opened c =
    let a = c.args in
    let f = a.file.now in
    let told = c.in_ok-opened.ensures in
    ap (λ (w : Flaw). outcome (opening_of (Err w)) a.output.now) c.into.ensures
    ∙ refused_later a.rings f _ told (room_faults (sample_count (cipher_in f) f) (length a.output.now)) _ a.output.now no_room
    (omega arith) (refused_at 0 _ (omega (arith, (known a.rings f _ told).samples)))

pub returns : goal.returns
unfolding opening_pack open_faults reading_on
returns c =
    let a = c.args in
    let f = a.file.now in
    let told = c.in_ok-opened.ensures in
    let k = known a.rings f _ told in
    let read = ap (λ (o : Outcome Keystream ℤ). o.buffer)
    (c.read_samples.ensures ∙ sym (done_if _ _ _ (omega (arith, c.body-cipher.ensures.0), tt))) in
    ap (λ (l : List ℤ). outcome (opening_of (Ok c.in_ok-opened.opened)) l) (read ∙ ap (placed a.output.now 0) c.body-cipher.ensures.1)
    ∙ none_broken a.rings f _ told (room_faults (sample_count (cipher_in f) f) (length a.output.now)) _ a.output.now
    (omega (arith, k.samples), tt)
