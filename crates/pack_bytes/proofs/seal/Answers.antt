-- The keys' length decides, then the name and the cipher's count, then the sealer.
use mathlib.Core.{Path.◌≡◌, Path.refl, Path.sym, Path.ap, Path.◌∙◌, List.List, Logic.◌≢◌}
use Prim.Native.Nat.{ℕ}
use Rattle.std.proofs.Common.{arith}
use lib.ListN.{length}
use Rattle.refusals.specs.{Numbers.accepted, Numbers.bad_key_count, Outcome.Outcome, Outcome.outcome, Rules.first}
use Rattle.refusals.specs.{Answers.number_of}
use Rattle.refusals.proofs.{Answers.never_accepted, Settled.left_at, Settled.settled_left, Settled.settled_done}
use Rattle.refusals.proofs.Settled.{answer_number, answer_done, answer_left}
use Rattle.pack.specs.{Answers.Sealed, Calls.sealing_pack, Calls.sealing_file, Ciphers.picked}
use Rattle.pack.specs.{Ciphers.count_of, Layout.Parts, Layout.parts, Demand2.file_of, declared.Kind.Kind, declared.Rings.Rings}
use Rattle.pack.proofs.{Answers.number_passed, Picking.is_named, Picking.is_unnamed}
use Rattle.rings.specs.Ring.{rings_of, keys_bytes}
use Rattle.rings.proofs.Lent.{are_keys, no_keys}
use Rattle.record_bytes.specs.Written.{wrote}
use Rattle.pack_bytes.specs.Calls.{pack_seal_faults, pack_seal}
use Rattle.pack_bytes.proofs.{Sealing.sealer_decides, Sealing.name_refuses, Sealing.count_refuses}
use Rattle.pack_bytes.proofs.seal.Goals as goal

-- what the sealer comes to, under the cipher that the count names
module _ (count : ℕ) (keys : List ℕ) (p : Parts) (output : List ℕ) (right : length keys ≡ keys_bytes) (kind : Kind)
    (named : (kind ≡ picked count) × (count ≡ count_of kind)) (r : Rings) (are : r ≡ rings_of keys)
    {answer : Sealed} {sealed : List ℕ} (own : outcome answer sealed ≡ sealing_file kind r p output) where
  abbrev size : ℕ
  size = length (file_of (picked count) (rings_of keys) p)

  here : outcome answer sealed ≡ sealing_file (picked count) (rings_of keys) p output
  here = own ∙ (λ i. sealing_file (named.0 i) (are i) p output)

  found : answer.refusal ≡ first (pack_seal_faults count keys p size (length output))
  unfolding sealing_pack
  found =
      answer_number _ _ _ (λ (o : Outcome Sealed ℕ). o.answer.refusal) refl (λ m. refl) here
      ∙ sealer_decides count keys p size (length output) right (named.1 ∙ ap count_of named.0)

  left : (before : ℕ) → answer.refusal ≢ accepted
      → wrote sealed before answer.refusal ≡ pack_seal count keys p output before
  unfolding pack_seal sealing_pack
  left before refused =
      ap (λ (o : Outcome Sealed ℕ). wrote o.buffer before answer.refusal)
      (answer_left _ _ _ (λ (o : Outcome Sealed ℕ). o.answer.refusal) refl (λ m. refl) here refused)
      ∙ settled_left _ _ _ answer.refusal refused found

  done : (before : ℕ) → answer.refusal ≡ accepted
      → wrote sealed answer.length accepted ≡ pack_seal count keys p output before
  unfolding pack_seal sealing_pack
  done before taken =
      ap (λ (o : Outcome Sealed ℕ). wrote o.buffer o.answer.length accepted)
      (answer_done _ _ _ (λ (o : Outcome Sealed ℕ). o.answer.refusal) refl (λ m. refl) here taken)
      ∙ settled_done _ _ _ (sym taken ∙ found)

pub returns-in_err-rings : goal.returns-in_err-rings
unfolding pack_seal
returns-in_err-rings c =
    let a = c.args in
    let why = no_keys a.keys.now c.in_err-rings.ensures in
    ap (wrote a.output.now a.written.now)
    (sym (number_passed c.from_residual.result _ c.from_residual.ensures.1) ∙ ap number_of why.1)
    ∙ left_at _ _ _ 0 tt why.0

pub returns-in_err-name_fault : goal.returns-in_err-name_fault
unfolding pack_seal
returns-in_err-name_fault c =
    let a = c.args in
    let p = parts a.name.now a.key a.value.now a.samples.now a.loops.now in
    let keys = are_keys a.keys.now c.in_ok-rings.ensures in
    let refusal = c.in_err-name_fault.field-0.0 in
    let e = c.from_residual-in_err-name_fault in
    let never = never_accepted refusal in
    ap (wrote a.output.now a.written.now) (sym (number_passed e.result refusal e.ensures.1))
    ∙ settled_left _ _ _ (number_of refusal) never
    (name_refuses a.cipher a.keys.now p _ _ keys.0 _ never c.in_err-name_fault.ensures)

pub returns-in_err-kind : goal.returns-in_err-kind
unfolding pack_seal
returns-in_err-kind c =
    let a = c.args in
    let p = parts a.name.now a.key a.value.now a.samples.now a.loops.now in
    let keys = are_keys a.keys.now c.in_ok-rings.ensures in
    let why = is_unnamed a.cipher c.in_err-kind.ensures in
    let e = c.from_residual-in_err-kind in
    ap (wrote a.output.now a.written.now)
    (sym (number_passed e.result c.in_err-kind.field-0.0 e.ensures.1) ∙ ap number_of why.0)
    ∙ settled_left _ _ _ bad_key_count (omega arith)
    (count_refuses a.cipher a.keys.now p _ _ keys.0 (omega arith) why.1)

pub returns-in_err-written : goal.returns-in_err-written
returns-in_err-written c =
    let a = c.args in
    let p = parts a.name.now a.key a.value.now a.samples.now a.loops.now in
    let keys = are_keys a.keys.now c.in_ok-rings.ensures in
    let refusal = c.in_err-written.field-0.0 in
    let e = c.from_residual-in_err-written in
    ap (wrote c.seal.new.output a.written.now) (sym (number_passed e.result refusal e.ensures.1))
    ∙ left a.cipher a.keys.now p a.output.now keys.0 _ (is_named a.cipher c.in_ok-kind.ensures) _ keys.1
    c.in_err-written.ensures a.written.now (never_accepted refusal)

pub returns : goal.returns
returns c =
    let a = c.args in
    let p = parts a.name.now a.key a.value.now a.samples.now a.loops.now in
    let keys = are_keys a.keys.now c.in_ok-rings.ensures in
    done a.cipher a.keys.now p a.output.now keys.0 _ (is_named a.cipher c.in_ok-kind.ensures) _ keys.1
    c.in_ok-written.ensures a.written.now refl
