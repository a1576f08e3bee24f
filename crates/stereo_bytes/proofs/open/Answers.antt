-- The keys' length decides, then the file, then whether its frames are whole, then the two rooms.
use mathlib.Core.{Path.refl, Path.sym, Path.ap, Path.◌∙◌, List.List, Logic.inl}
use Prim.Native.Nat.{ℕ}
use Rattle.std.proofs.Common.{◌≡◌, arith, rules}
use lib.{Dec.T, Ieee.Float, ListN.length}
use Rattle.refusals.specs.{Rules.Fault, Rules.Verdict, Answers.number_of}
use Rattle.refusals.proofs.{Answers.never_accepted, Faults.numbered, Settled.left_at}
use Rattle.pack.specs.{Answers.opening_of, Calls.accepted_opening, Calls.inspecting_file}
use Rattle.pack.specs.{Ciphers.cipher_in, Ciphers.ring_in, declared.Rings.Rings}
use Rattle.pack.proofs.{Answers.number_passed}
use Rattle.rings.specs.Ring.{rings_of}
use Rattle.rings.proofs.Lent.{are_keys, no_keys}
use Rattle.stereo_opener.specs.Calls.{stereo_faults, opening_stereo, opening_stereo_file}
use Rattle.stereo_opener.proofs.Order.{numbered_stereo, counted_told, verdict_told, decides}
use Rattle.pack_bytes.specs.Calls.{pack_opened}
use Rattle.pack_bytes.proofs.Opening.{refused_by, no_answer, refused_so_lem, opened_so}
use Rattle.stereo_bytes.specs.Calls.{pack_open_stereo}
use Rattle.stereo_bytes.proofs.open.Goals as goal

-- the opener's rules: the file's own, and those of its frames
module _ (file keys : List ℕ) (frames : List Float) where
  abbrev opens : List Fault
  opens = stereo_faults (cipher_in file) (ring_in (rings_of keys) file) file (length frames)

  numbers : T (numbered opens)
  numbers = numbered_stereo (cipher_in file) (ring_in (rings_of keys) file) file (length frames)

pub returns-in_err-rings : goal.returns-in_err-rings
unfolding pack_open_stereo
returns-in_err-rings c =
    let a = c.args in
    let why = no_keys a.keys.now c.in_err-rings.ensures in
    ap (pack_opened a.frames.now a.answer.now)
    (sym (number_passed c.from_residual.result _ c.from_residual.ensures.1) ∙ ap number_of why.1)
    ∙ left_at _ _ _ 0 tt why.0

pub returns-in_err-frames_fault : goal.returns-in_err-frames_fault
unfolding pack_open_stereo
returns-in_err-frames_fault c =
    let a = c.args in
    let f = a.file.now in
    let keys = are_keys a.keys.now c.in_ok-rings.ensures in
    let flaw = c.in_err-frames_fault.field-0.0 in
    let e = c.from_residual-in_err-frames_fault in
    let counted : c.map_or-samples.result ≡ (opening_of c.inspect-told.result).samples = search (rules, counted_told) in
    let told = c.inspect-told.ensures ∙ ap (λ (r : Rings). inspecting_file r f) keys.1 in
    ap (pack_opened a.frames.now a.answer.now) (sym (number_passed e.result flaw.refusal e.ensures.1))
    ∙ refused_by a.keys.now keys.0 (opens f a.keys.now a.frames.now) (numbers f a.keys.now a.frames.now)
    (accepted_opening (cipher_in f) f) _ a.frames.now a.answer.now (number_of flaw.refusal) (never_accepted flaw.refusal)
    (decides (rings_of a.keys.now) f (length a.frames.now) c.inspect-told.result told c.in_err-frames_fault.ensures.order
    (omega (arith, ap (λ (v : Verdict). v.number) (verdict_told c.inspect-told.result c.and.ensures)))
    (omega arith))

pub returns-then-answer-lt-NUMBERS : goal.returns-then-answer-lt-NUMBERS
unfolding pack_open_stereo
returns-then-answer-lt-NUMBERS c =
    let a = c.args in
    let f = a.file.now in
    let keys = are_keys a.keys.now c.in_ok-rings.ensures in
    let counted : c.map_or-samples.result ≡ (opening_of c.inspect-told.result).samples = search (rules, counted_told) in
    let told = c.inspect-told.ensures ∙ ap (λ (r : Rings). inspecting_file r f) keys.1 in
    no_answer a.keys.now keys.0 (opens f a.keys.now a.frames.now) (numbers f a.keys.now a.frames.now)
    (accepted_opening (cipher_in f) f) _ a.frames.now a.answer.now (omega arith)
    (inl
    (sym
    (decides (rings_of a.keys.now) f (length a.frames.now) c.inspect-told.result told c.in_ok-frames_fault.ensures.order
    (omega (arith, ap (λ (v : Verdict). v.number) (verdict_told c.inspect-told.result c.and.ensures)))
    (omega arith))))

pub returns-in_err-opened : goal.returns-in_err-opened
unfolding pack_open_stereo opening_stereo
returns-in_err-opened c =
    let a = c.args in
    let f = a.file.now in
    let keys = are_keys a.keys.now c.in_ok-rings.ensures in
    let flaw = c.in_err-opened.field-0.0 in
    let e = c.from_residual-in_err-opened in
    let own = c.in_err-opened.ensures ∙ ap (λ (r : Rings). opening_stereo_file r f a.frames.now) keys.1 in
    ap (pack_opened c.open.new.output a.answer.now) (sym (number_passed e.result flaw.refusal e.ensures.1))
    ∙ refused_so_lem a.keys.now keys.0 (opens f a.keys.now a.frames.now) (numbers f a.keys.now a.frames.now)
    (accepted_opening (cipher_in f) f) _ a.frames.now a.answer.now refl _ own (never_accepted flaw.refusal)

pub returns : goal.returns
unfolding pack_open_stereo opening_stereo
returns c =
    let a = c.args in
    let f = a.file.now in
    let keys = are_keys a.keys.now c.in_ok-rings.ensures in
    let own = c.in_ok-opened.ensures ∙ ap (λ (r : Rings). opening_stereo_file r f a.frames.now) keys.1 in
    opened_so a.keys.now keys.0 (opens f a.keys.now a.frames.now) (numbers f a.keys.now a.frames.now)
    (accepted_opening (cipher_in f) f) _ a.frames.now a.answer.now refl _ own refl (omega arith) c.tell.ensures
