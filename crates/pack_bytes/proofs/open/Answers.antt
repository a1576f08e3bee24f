-- The keys' length decides, then the file, then the two rooms.
use mathlib.Core.{Path.◌≡◌, Path.refl, Path.sym, Path.ap, Path.subst, Path.◌∙◌, List.List, Logic.◌⊎◌}
use Prim.Native.Nat.{ℕ}
use Rattle.std.proofs.Common.{arith}
use lib.{Dec.T, IntN.ℤ, ListN.length}
use Rattle.refusals.specs.{Numbers.accepted, Numbers.no_room, Rules.Fault}
use Rattle.refusals.specs.{Answers.number_of}
use Rattle.refusals.proofs.{Answers.never_accepted, Faults.numbered, Settled.left_at, Settled.first_here}
use Rattle.refusals.proofs.Settled.{first_later}
use Rattle.pack.specs.{Calls.accepted_opening, Calls.inspecting_file}
use Rattle.pack.specs.{Calls.opening_pack, Calls.opening_file, Faults.keyed_faults, Faults.room_faults, Faults.open_faults}
use Rattle.pack.specs.{Ciphers.cipher_in, Ciphers.ring_in, Places.sample_count, declared.Rings.Rings}
use Rattle.pack.proofs.{Answers.number_passed, Theorems.keyed_numbered, Theorems.room_or_not}
use Rattle.rings.specs.Ring.{rings_of}
use Rattle.rings.proofs.Lent.{are_keys, no_keys}
use Rattle.opener.proofs.Told.{flaw_first, none_first}
use Rattle.pack_bytes.specs.Calls.{pack_opened, pack_open}
use Rattle.pack_bytes.proofs.Opening.{refused_by, no_answer, refused_so_lem, opened_so, numbered_open}
use Rattle.pack_bytes.proofs.open.Goals as goal

-- the file's own rules, and with the samples' room the opener's
module _ (file keys : List ℕ) (samples : List ℤ) where
  abbrev keyed : List Fault
  keyed = keyed_faults (cipher_in file) (ring_in (rings_of keys) file) file

  abbrev room : List Fault
  room = room_faults (sample_count (cipher_in file) file) (length samples)

  abbrev opens : List Fault
  opens = open_faults (cipher_in file) (ring_in (rings_of keys) file) file (length samples)

  numbers : T (numbered opens)
  numbers = numbered_open (cipher_in file) (ring_in (rings_of keys) file) file (length samples)

pub returns-in_err-rings : goal.returns-in_err-rings
unfolding pack_open
returns-in_err-rings c =
    let a = c.args in
    let why = no_keys a.keys.now c.in_err-rings.ensures in
    ap (pack_opened a.samples.now a.answer.now)
    (sym (number_passed c.from_residual.result _ c.from_residual.ensures.1) ∙ ap number_of why.1)
    ∙ left_at _ _ _ 0 tt why.0

pub returns-in_err-inspect : goal.returns-in_err-inspect
unfolding pack_open open_faults
returns-in_err-inspect c =
    let a = c.args in
    let f = a.file.now in
    let keys = are_keys a.keys.now c.in_ok-rings.ensures in
    let flaw = c.in_err-inspect.field-0.0 in
    let e = c.from_residual-in_err-inspect in
    let never = never_accepted flaw.refusal in
    let told = c.in_err-inspect.ensures ∙ ap (λ (r : Rings). inspecting_file r f) keys.1 in
    ap (pack_opened a.samples.now a.answer.now) (sym (number_passed e.result flaw.refusal e.ensures.1))
    ∙ refused_by a.keys.now keys.0 (opens f a.keys.now a.samples.now) (numbers f a.keys.now a.samples.now)
    (accepted_opening (cipher_in f) f) _ a.samples.now a.answer.now (number_of flaw.refusal) never
    (first_here (keyed f a.keys.now a.samples.now) (room f a.keys.now a.samples.now)
    (keyed_numbered (cipher_in f) (ring_in (rings_of a.keys.now) f) f) _ never (flaw_first (rings_of a.keys.now) f flaw told))

pub returns-then-answer-lt-NUMBERS : goal.returns-then-answer-lt-NUMBERS
unfolding pack_open open_faults
returns-then-answer-lt-NUMBERS c =
    let a = c.args in
    let f = a.file.now in
    let keys = are_keys a.keys.now c.in_ok-rings.ensures in
    let told = c.in_ok-inspect.ensures ∙ ap (λ (r : Rings). inspecting_file r f) keys.1 in
    let later = first_later (keyed f a.keys.now a.samples.now) (room f a.keys.now a.samples.now)
    (keyed_numbered (cipher_in f) (ring_in (rings_of a.keys.now) f) f)
    (none_first (rings_of a.keys.now) f c.in_ok-inspect.field-0 told) in
    no_answer a.keys.now keys.0 (opens f a.keys.now a.samples.now) (numbers f a.keys.now a.samples.now)
    (accepted_opening (cipher_in f) f) _ a.samples.now a.answer.now (omega arith)
    (subst (λ (n : ℕ). (n ≡ accepted) ⊎ (n ≡ no_room)) later (room_or_not _ _))

pub returns-in_err-opened : goal.returns-in_err-opened
unfolding pack_open opening_pack
returns-in_err-opened c =
    let a = c.args in
    let f = a.file.now in
    let keys = are_keys a.keys.now c.in_ok-rings.ensures in
    let flaw = c.in_err-opened.field-0.0 in
    let e = c.from_residual-in_err-opened in
    let own = c.in_err-opened.ensures ∙ ap (λ (r : Rings). opening_file r f a.samples.now) keys.1 in
    ap (pack_opened c.open.new.output a.answer.now) (sym (number_passed e.result flaw.refusal e.ensures.1))
    ∙ refused_so_lem a.keys.now keys.0 (opens f a.keys.now a.samples.now) (numbers f a.keys.now a.samples.now)
    (accepted_opening (cipher_in f) f) _ a.samples.now a.answer.now refl _ own (never_accepted flaw.refusal)

pub returns : goal.returns
unfolding pack_open opening_pack
returns c =
    let a = c.args in
    let f = a.file.now in
    let keys = are_keys a.keys.now c.in_ok-rings.ensures in
    let own = c.in_ok-opened.ensures ∙ ap (λ (r : Rings). opening_file r f a.samples.now) keys.1 in
    opened_so a.keys.now keys.0 (opens f a.keys.now a.samples.now) (numbers f a.keys.now a.samples.now)
    (accepted_opening (cipher_in f) f) _ a.samples.now a.answer.now refl _ own refl (omega arith) c.tell.ensures
