-- The survey decides, and then the tag under the cipher that the count picks.
use Rattle.std.proofs.Common.{◌≡◌, ℕ, ◌+◌, ◌-◌, ◌≢◌, List, Bool, true, false, not, eqb, refl, sym, ap, ◌∙◌, arith}
use mathlib.Core.Path.{subst}
use borrow.Author.Tests.{eqb-true, eqb-false, not-true, not-false}
use Rattle.std.specs.Prelude.{Ok, Err}
use Rattle.refusals.specs.{Numbers.accepted, Numbers.wrong_tag, Answers.number_of, declared.Flaw.Flaw}
use Rattle.refusals.specs.Rules.{Verdict, AllRight, first}
use Rattle.refusals.proofs.Faults.{all_right, refused_at, verdict_right}
use Rattle.refusals.proofs.{Answers.never_accepted, Settled.settled_done, Settled.settled_left, Settled.first_later}
use Rattle.pack.specs.{Answers.opening_of, Calls.refused_opening, Calls.accepted_opening, Calls.lacks_of}
use Rattle.pack.specs.{Answers.Opened, Calls.surveying, Calls.surveying_file, Calls.inspecting, Calls.inspecting_file}
use Rattle.pack.specs.Ciphers.{cipher_of, picked, kind_in, cipher_in, ring_for, ring_in}
use Rattle.pack.specs.declared.Rings.{Rings}
use Rattle.pack.specs.Faults.{file_faults, tag_faults, keyed_faults}
use Rattle.pack.specs.Places.{byte_at, key_place, tag_in, tag_place, tag_due}
use Rattle.pack.specs.declared.Kind.{Kind}
use Rattle.pack.specs.declared.Opened as code
use Rattle.pack.specs.declared.Kind.TheVariants.{Trivium, Enocoro, Triad}
use Rattle.pack.proofs.Answers.{passed_on, ok_first, ok_done, err_first, err_lacks}
use Rattle.pack.proofs.Theorems.{file_right, file_first, keyed_right, file_numbered}
use Rattle.inspector.proofs.Shown.{Shown, shown}
use Rattle.inspector.proofs.inspect.Goals as goal

-- the tag that is due depends on no ring but TRIAD's
due_ring : (kind : Kind) (r : Rings) (file : List ℕ)
    → tag_due (cipher_of kind) r.of_triad file ≡ tag_due (cipher_of kind) (ring_for kind r) file
unfolding tag_due
due_ring Trivium r file = refl
due_ring Enocoro r file = refl
due_ring Triad r file = refl

module _ (r : Rings) (f : List ℕ) where
  -- what the survey refuses is refused so
  refused : (flaw : Flaw) → opening_of (Err flaw) ≡ surveying_file f → opening_of (Err flaw) ≡ inspecting_file r f
  unfolding surveying inspecting
  refused flaw e =
      let faults = file_faults (cipher_in f) f in
      let done = accepted_opening (cipher_in f) f in
      let lacks = lacks_of (cipher_in f) f in
      let never = never_accepted flaw.refusal in
      ap (λ (n : ℕ). refused_opening n (number_of flaw.refusal)) (err_lacks faults done lacks refl (Err flaw) e refl)
      ∙ settled_left _ _ _ _ never
      (file_first (cipher_in f) (ring_in r f) f _ never (err_first faults done lacks refl (Err flaw) e refl))

  -- ---- a survey that isn't refused

  module _ (opened : code.Opened) (e : opening_of (Ok opened) ≡ surveying_file f) where
    passed : accepted ≡ first (file_faults (cipher_in f) f)
    unfolding surveying
    passed = ok_first _ (accepted_opening (cipher_in f) f) (lacks_of (cipher_in f) f) refl (Ok opened) e refl

    answered : opening_of (Ok opened) ≡ accepted_opening (cipher_in f) f
    unfolding surveying
    answered =
        ok_done (file_faults (cipher_in f) f) (accepted_opening (cipher_in f) f) (lacks_of (cipher_in f) f) refl (Ok opened) e
        refl

    right : AllRight (file_faults (cipher_in f) f)
    right = file_right (cipher_in f) f (sym passed)

    known : Shown (cipher_in f) f
    known = shown (cipher_in f) f right

    value : opened.value_at ≡ key_place f + 2
    value = ap (λ (o : Opened). o.value_at) answered

    -- the count stands two bytes before the value, and picks the cipher
    kind_is : {kind : Kind} → kind ≡ picked (byte_at f (opened.value_at - 2)) → kind ≡ kind_in f
    kind_is k = k ∙ ap (λ (n : ℕ). picked (byte_at f n)) (omega (arith, value))

    -- what was found of the tags, under the file's own cipher and ring
    abbrev due : ℕ
    due = tag_due (cipher_in f) (ring_in r f) f

    abbrev there : ℕ
    there = tag_in (cipher_in f) f (tag_place (cipher_in f) f)

    module _ (kind : Kind) (k : kind ≡ picked (byte_at f (opened.value_at - 2))) where
      asked : (opening_of (Ok opened) ≡ accepted_opening (cipher_of kind) f)
          × (accepted ≡ first (file_faults (cipher_of kind) f))
      asked =
          subst
          (λ (k : Kind). (opening_of (Ok opened) ≡ accepted_opening (cipher_of k) f)
          × (accepted ≡ first (file_faults (cipher_of k) f)))
          (sym (kind_is k)) (answered, passed)

      module _ {b : Bool}
          (w : b ≡ not (eqb (tag_due (cipher_of kind) r.of_triad f) (tag_in (cipher_of kind) f (tag_place (cipher_of kind) f)))) where
        found : b ≡ not (eqb due there)
        found =
            w
            ∙ ap
            (λ (k : Kind). not (eqb (tag_due (cipher_of k) r.of_triad f) (tag_in (cipher_of k) f (tag_place (cipher_of k) f))))
            (kind_is k)
            ∙ ap (λ (n : ℕ). not (eqb n there)) (due_ring (kind_in f) r f)

        wrong : b ≡ true → refused_opening 0 wrong_tag ≡ inspecting_file r f
        unfolding inspecting keyed_faults
        wrong t =
            let none : 0 ≡ lacks_of (cipher_in f) f = ap (λ (v : Verdict). v.lacks) (verdict_right _ right) in
            let differ : there ≢ due = λ same. eqb-false due there (not-true (eqb due there) (sym found ∙ t)) (sym same) in
            ap (λ (n : ℕ). refused_opening n wrong_tag) none
            ∙ settled_left _ _ _ wrong_tag (omega arith)
            (refused_at 0 (tag_faults (cipher_in f) (ring_in r f) f) differ
            ∙ first_later (file_faults (cipher_in f) f) (tag_faults (cipher_in f) (ring_in r f) f) (file_numbered (cipher_in f) f)
            passed)

        own : b ≡ false → opening_of (Ok opened) ≡ inspecting_file r f
        unfolding inspecting
        own t =
            let same : there ≡ due = sym (eqb-true due there (not-false (eqb due there) (sym found ∙ t))) in
            answered ∙ settled_done _ _ _ (all_right _ (keyed_right (cipher_in f) (ring_in r f) f right same))

pub returns-in_err-opened : goal.returns-in_err-opened
returns-in_err-opened c =
    passed_on c.from_residual.result _ c.from_residual.ensures.1
    ∙ refused c.args.rings c.args.file.now _ c.in_err-opened.ensures

pub overflow_sub-opened : goal.overflow_sub-opened
overflow_sub-opened c = omega (arith, value c.args.rings c.args.file.now _ c.in_ok-opened.ensures)

pub bounds-file-opened : goal.bounds-file-opened
bounds-file-opened c =
    let f = c.args.file.now in
    let k = known c.args.rings f _ c.in_ok-opened.ensures in
    omega (arith, value c.args.rings f _ c.in_ok-opened.ensures, k.body, k.loop, k.tag, k.end)

pub tag_wrong-requires : goal.tag_wrong-requires
tag_wrong-requires c = asked c.args.rings c.args.file.now _ c.in_ok-opened.ensures _ c.picked-kind.ensures

pub returns-then-tag_wrong : goal.returns-then-tag_wrong
returns-then-tag_wrong c =
    ap (λ (f : Flaw). opening_of (Err f)) c.into.ensures
    ∙ wrong c.args.rings c.args.file.now _ c.in_ok-opened.ensures _ c.picked-kind.ensures c.tag_wrong.ensures
    c.if-tag_wrong.true

pub returns : goal.returns
returns c =
    own c.args.rings c.args.file.now _ c.in_ok-opened.ensures _ c.picked-kind.ensures c.tag_wrong.ensures c.if-tag_wrong.false
