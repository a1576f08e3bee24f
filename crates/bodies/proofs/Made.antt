-- What a cipher's own making comes to where a body begins. A key of a ring has the length due, so there the number and
-- the value decide.
use mathlib.Core.{Path.◌≡◌, Path.refl, Path.sym, Path.ap, Path.◌∙◌, Bool.cond, List.List}
use Prim.Native.Nat.{ℕ, ◌≤◌}
use lib.{Dec.eqb, ListN.length}
use Rattle.std.specs.Prelude.{Err}
use Rattle.octets.specs.Stream.{Cipher, Keystream}
use Rattle.refusals.specs.{Numbers.accepted, Numbers.bad_key, Numbers.bad_key_number, Answers.number_of, Answers.answer}
use Rattle.refusals.specs.{declared.Refusal.Refusal, Rules.◌over◌, Rules.◌unlike◌, Rules.◌says◌, Rules.settled}
use Rattle.refusals.proofs.{Answers.never_accepted, Faults.none_wrong, Faults.rule_passes}
use Rattle.refusals.proofs.Settled.{settled_done, settled_left, answer_number}
use Rattle.ciphers.specs.Calls.{value_faults, make_faults}
use Rattle.pack.specs.{Ciphers.cipher_of, Ciphers.ring_for, Layout.key_named, Limits.last_key, declared.Kind.Kind}
use Rattle.pack.specs.declared.Rings.{Rings}
use Rattle.bodies.specs.Bodies.{ready, refused_beginning, begun, made_by, stream_for, beginning}

-- by the answer of a cipher's own making
module _ {R : Type 0} (blank done : R) (cipher : Cipher) (key value : List ℕ) where
  pub made_left : (refusal : Refusal)
      → answer (number_of refusal) blank
      ≡ settled (make_faults cipher key value) (answer accepted done) (λ n. answer n blank)
      → begun (Err refusal) ≡ made_by cipher key value
  made_left refusal e =
      settled_left _ _ _ (number_of refusal) (never_accepted refusal)
      (answer_number (make_faults cipher key value) _ _ (λ o. o.refusal) refl (λ n. refl) e)

  pub made_done : (next : R) (stream : Keystream)
      → answer accepted next ≡ settled (make_faults cipher key value) (answer accepted done) (λ n. answer n blank)
      → (length key ≡ cipher.key_bytes → length value ≡ cipher.value_bytes → stream ≡ cipher.stream key value)
      → ready accepted stream ≡ made_by cipher key value
  made_done next stream e same =
      let none = answer_number (make_faults cipher key value) _ _ (λ o. o.refusal) refl (λ n. refl) e in
      let right = none_wrong (make_faults cipher key value) tt (sym none) in
      ap (ready accepted) (same right.0 right.1.0) ∙ settled_done _ _ _ none

-- and under the key of a ring
pub in_ring : (kind : Kind) (r : Rings) (number : ℕ) (value : List ℕ) → number ≤ last_key
    → length (key_named (ring_for kind r) number) ≡ (cipher_of kind).key_bytes
    → made_by (cipher_of kind) (key_named (ring_for kind r) number) value ≡ beginning kind r number value
unfolding beginning settled
in_ring kind r number value few long =
    let key = key_named (ring_for kind r) number in
    let values = value_faults (cipher_of kind) value in
    ap (λ (n : ℕ). cond (eqb n accepted) (ready accepted (stream_for kind r number value)) (refused_beginning n))
    (sym (rule_passes (length key unlike (cipher_of kind).key_bytes says bad_key) values long)
    ∙ rule_passes (number over last_key says bad_key_number) values few)
