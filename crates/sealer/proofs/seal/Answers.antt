-- The first broken rule decides, and with none broken the sections stand one behind the other.
use mathlib.Core.Path.{◌≡◌, refl, sym, ap, ap₂, ◌∙◌}
use mathlib.Core.List.{List, [], ◌∷◌, ◌++◌}
use Prim.Native.Nat.{ℕ, suc, ◌+◌, ◌*◌, ◌≤◌}
use Rattle.std.proofs.Common.{arith}
use Rattle.std.proofs.lemmas.Result.{err_from_is_err_and}
use Rattle.std.specs.Prelude.{Result, Ok, Err, IsOk}
use lib.ListN.{length}
use Rattle.octets.specs.{Buffers.put, Rows.row, Stream.Cipher, Stream.Keystream}
use Rattle.refusals.specs.{Numbers.accepted, Outcome.outcome, Rules.first, Answers.number_of, declared.Refusal.Refusal}
use Rattle.refusals.proofs.{Answers.never_accepted, Faults.none_wrong, Settled.done_if, Settled.settled_done}
use Rattle.refusals.proofs.Settled.{settled_left}
use Rattle.chunks.specs.Ahead.{ahead}
use Rattle.chunks.specs.declared.Cipher as chunks
use Rattle.pack.specs.{Answers.sealed_of, Calls.sealing_pack, Ciphers.cipher_of, Ciphers.ring_for}
use Rattle.pack.specs.{Faults.seal_faults, Layout.Parts, Layout.parts, Layout.fours, Layout.layout, Layout.name_section}
use Rattle.pack.specs.{Layout.tag_length, declared.Kind.Kind, declared.Rings.Rings}
use Rattle.pack.proofs.{LaidFiles.length_layout, Picking.short_value}
use Rattle.bodies.specs.Bodies.{Ready, ready, begun, stream_for, beginning}
use Rattle.sealer.proofs.Sections.{last, stream, written, finished, row_ring}
use Rattle.sealer.proofs.seal.Goals as goal

module _ (kind : Kind) (r : Rings) (p : Parts) (output : List ℕ) where
  abbrev cipher : Cipher
  cipher = cipher_of kind

  abbrev ring : List (List ℕ)
  ring = ring_for kind r

  abbrev size : ℕ
  size = 8 + length p.name + length p.value + 2 * length p.samples + 4 * length p.loops + tag_length cipher

  -- the fault, by the file's own length
  by_layout : (n : ℕ) → n ≡ first (seal_faults cipher p size (length output))
      → n ≡ first (seal_faults cipher p (length (layout cipher ring p)) (length output))
  by_layout n e =
      e ∙ ap (λ (m : ℕ). first (seal_faults cipher p m (length output))) (sym (length_layout cipher ring p))

  -- what parts that aren't refused have shown
  record Shown : Type 0 where
    name : length p.name ≤ 32
    value : length p.value ≡ cipher.value_bytes
    short : length p.value + tag_length cipher ≤ 21
    key : p.key_number ≤ 3
    samples : length p.samples ≤ 16384
    loops : length p.loops ≤ 16
    room : size ≤ length output

  shown : accepted ≡ first (seal_faults cipher p size (length output)) → Shown
  unfolding seal_faults
  shown e =
      let right = none_wrong (seal_faults cipher p size (length output)) tt (sym e) in
      let least = short_value kind in
      record {
        name = omega (arith, right);
        value = omega (arith, right);
        short = omega (arith, right, least);
        key = omega (arith, right);
        samples = omega (arith, right);
        loops = omega (arith, right);
        room = omega (arith, right);
      }

  -- so there is a cipher
  begins : accepted ≡ first (seal_faults cipher p size (length output))
      → beginning kind r p.key_number p.value ≡ ready accepted (stream_for kind r p.key_number p.value)
  unfolding beginning
  begins e = let k = shown e in sym (done_if _ _ _ (k.key, (k.value, tt)))

ok_begun : (result : Result chunks.Cipher Refusal) (k : Keystream) → begun result ≡ ready accepted k → IsOk result
ok_begun (Ok made) k e = refl
ok_begun (Err refusal) k e = absurd (never_accepted refusal (ap (λ (r : Ready). r.refusal) e))

pub returns-in_err-seal_fault : goal.returns-in_err-seal_fault
unfolding sealing_pack
returns-in_err-seal_fault c =
    let a = c.args in
    let p = parts a.sound.name.now a.sound.key a.sound.value.now a.sound.samples.now a.sound.loops.now in
    let q = err_from_is_err_and c.from_residual.result c.from_residual.ensures.1 in
    let refusal = c.in_err-seal_fault.field-0.0 in
    rw (q.1, q.2)
    (settled_left _ _ _ (number_of refusal) (never_accepted refusal)
    (by_layout a.kind a.rings p a.output.now _ c.in_err-seal_fault.ensures))

pub overflow_add-body_at-2 : goal.overflow_add-body_at-2
overflow_add-body_at-2 c =
    let k = shown c.args.kind c.args.rings _ c.args.output.now c.in_ok-seal_fault.ensures in
    omega (arith, k)

pub overflow_add-loop_at : goal.overflow_add-loop_at
overflow_add-loop_at c =
    let k = shown c.args.kind c.args.rings _ c.args.output.now c.in_ok-seal_fault.ensures in
    omega (arith, k)

pub overflow_add-tag_at : goal.overflow_add-tag_at
overflow_add-tag_at c =
    let k = shown c.args.kind c.args.rings _ c.args.output.now c.in_ok-seal_fault.ensures in
    omega (arith, k)

pub overflow_add-tag_at-2 : goal.overflow_add-tag_at-2
overflow_add-tag_at-2 c =
    let k = shown c.args.kind c.args.rings _ c.args.output.now c.in_ok-seal_fault.ensures in
    omega (arith, k)

pub unwrap-cipher-requires : goal.unwrap-cipher-requires
unwrap-cipher-requires c =
    let a = c.args in
    ok_begun c.begin.result _ (c.begin.ensures ∙ begins a.kind a.rings _ a.output.now c.in_ok-seal_fault.ensures)

pub write_front-requires : goal.write_front-requires
write_front-requires c =
    let k = shown c.args.kind c.args.rings _ c.args.output.now c.in_ok-seal_fault.ensures in
    omega (arith, k)

pub write_loops-requires : goal.write_loops-requires
write_loops-requires c =
    let k = shown c.args.kind c.args.rings _ c.args.output.now c.in_ok-seal_fault.ensures in
    omega (arith, k)

pub write_tag-requires : goal.write_tag-requires
write_tag-requires c =
    let k = shown c.args.kind c.args.rings _ c.args.output.now c.in_ok-seal_fault.ensures in
    (k.key, k.value, omega arith, omega arith, omega (arith, k))

pub overflow_add-result : goal.overflow_add-result
overflow_add-result c =
    let k = shown c.args.kind c.args.rings _ c.args.output.now c.in_ok-seal_fault.ensures in
    omega (arith, k)

pub returns : goal.returns
unfolding sealing_pack
returns c =
    let a = c.args in
    let p = parts a.sound.name.now a.sound.key a.sound.value.now a.sound.samples.now a.sound.loops.now in
    let own : Cipher = cipher_of a.kind in
    let keys : List (List ℕ) = ring_for a.kind a.rings in
    let d : List ℕ = a.output.now in
    let e = c.in_ok-seal_fault.ensures in
    let k = shown a.kind a.rings p d e in
    let headed = ap (λ (n : ℕ). put d 0
    (name_section p ++ ((suc n ∷ p.key_number ∷ p.value) ++ row (fours 1) (length p.samples ∷ [])))) k.value in
    let under : ahead c.unwrap-cipher.result ≡ stream own keys p =
    ap (λ (r : Ready). r.stream) (ap begun (sym c.unwrap-cipher.ensures) ∙ c.begin.ensures ∙ begins a.kind a.rings p d e) in
    let three = written own keys p d (omega (arith, k)) under (c.write_front.ensures ∙ headed) c.write_samples.ensures
    refl c.write_loops.ensures in
    ap₂ (λ (n : ℕ) (l : List ℕ). outcome (sealed_of (Ok n)) l)
    (omega (arith, length_layout own keys p, c.tag_length.ensures))
    (finished own keys p d _ (omega (arith, k)) three (omega (arith, k))
    (c.write_tag.ensures ∙ ap (put _ (last own keys p)) (row_ring a.kind a.rings a.sound.key a.sound.value.now _ _ _ _)))
    ∙ settled_done _ _ _ (by_layout a.kind a.rings p d accepted e)
