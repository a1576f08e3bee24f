-- What was told to one who has keys decides, then the rules of the frames, and they are read under the cipher and the key
-- that the pack names.
use mathlib.Core.{Path.sym, Path.ap, Path.◌∙◌, List.List}
use Prim.Native.Nat.{ℕ}
use Rattle.std.proofs.Common.{◌≡◌, arith, rules}
use Rattle.std.specs.Prelude.{Ok}
use lib.{IntN.ℤ, Ieee.Float, ListN.length}
use Rattle.octets.specs.Buffers.{placed}
use Rattle.refusals.specs.{Outcome.outcome, Answers.number_of, Rules.Verdict}
use Rattle.refusals.proofs.{Answers.never_accepted, Settled.done_if, Settled.settled_left}
use Rattle.stereo.specs.Frames.{floats_of}
use Rattle.stereo_bodies.specs.Reading.{frames_faults, reading_frames}
use Rattle.pack.specs.Answers.{Opened, opening_of}
use Rattle.pack.specs.{Calls.refused_opening, Ciphers.cipher_in, Places.sample_count}
use Rattle.pack.proofs.Answers.{passed_on}
use Rattle.opener.proofs.Told.{none_broken, known}
use Rattle.stereo_opener.specs.Calls.{stereo_faults, opening_stereo}
use Rattle.stereo_opener.proofs.Order.{counted_told, verdict_told, lacks_told, decides, unbroken, opens}
use Rattle.stereo_opener.proofs.open.Goals as goal

pub returns-in_err-frames_fault : goal.returns-in_err-frames_fault
unfolding opening_stereo
returns-in_err-frames_fault c =
    let a = c.args in
    let f = a.file.now in
    let told = c.inspect-told.result in
    let verdict = verdict_told told c.and.ensures in
    let counted : c.map_or-samples.result ≡ (opening_of told).samples = search (rules, counted_told) in
    let lacks = lacks_told a.rings f (length a.output.now) told c.inspect-told.ensures in
    let flaw = c.in_err-frames_fault.field-0.0 in
    let found = c.in_err-frames_fault.ensures in
    ap (λ (o : Opened). outcome o a.output.now) (passed_on c.from_residual.result flaw c.from_residual.ensures.1)
    ∙ ap (λ (n : ℕ). outcome (refused_opening n (number_of flaw.refusal)) a.output.now)
    (omega (arith, found.lacks, ap (λ (v : Verdict). v.lacks) verdict, lacks))
    ∙ settled_left _ _ _ (number_of flaw.refusal) (never_accepted flaw.refusal)
    (decides a.rings f (length a.output.now) told c.inspect-told.ensures found.order
    (omega (arith, ap (λ (v : Verdict). v.number) verdict)) (omega arith))

pub unwrap-opened-requires : goal.unwrap-opened-requires
unwrap-opened-requires c =
    let a = c.args in
    let told = c.inspect-told.result in
    let counted : c.map_or-samples.result ≡ (opening_of told).samples = search (rules, counted_told) in
    opens a.rings a.file.now (length a.output.now) told c.inspect-told.ensures
    (decides a.rings a.file.now (length a.output.now) told c.inspect-told.ensures c.in_ok-frames_fault.ensures.order
    (omega (arith, ap (λ (v : Verdict). v.number) (verdict_told told c.and.ensures))) (omega arith))

pub body-cipher-requires : goal.body-cipher-requires
body-cipher-requires c = ap opening_of (sym c.unwrap-opened.ensures) ∙ c.inspect-told.ensures

pub returns : goal.returns
unfolding opening_stereo stereo_faults reading_frames
returns c =
    let a = c.args in
    let f = a.file.now in
    let told = c.inspect-told.result in
    let counted : c.map_or-samples.result ≡ (opening_of told).samples = search (rules, counted_told) in
    let opened = c.unwrap-opened.result in
    let e = ap opening_of (sym c.unwrap-opened.ensures) ∙ c.inspect-told.ensures in
    let samples = (known a.rings f opened e).samples in
    let long = c.body-cipher.ensures.0 in
    let rules = (unbroken a.rings f (length a.output.now) told c.inspect-told.ensures
    (decides a.rings f (length a.output.now) told c.inspect-told.ensures c.in_ok-frames_fault.ensures.order
    (omega (arith, ap (λ (v : Verdict). v.number) (verdict_told told c.and.ensures))) (omega arith))).1 in
    let read = c.read_frames.ensures
    ∙ sym (done_if _ _ _ (omega (arith, long, samples, rules), (omega (arith, long, samples, rules), tt))) in
    ap (λ (l : List Float). outcome (opening_of (Ok opened)) l)
    (read ∙ ap (λ (sound : List ℤ). placed a.output.now 0 (floats_of sound)) c.body-cipher.ensures.1)
    ∙ none_broken a.rings f opened e (frames_faults (sample_count (cipher_in f) f) (length a.output.now)) _ a.output.now rules
