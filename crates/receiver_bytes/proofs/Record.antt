-- A receiver's bytes read back are the receiver, and 26 bytes, read and written, are the same bytes: by the laws of
-- fronts and of rows.
use mathlib.Core.Path.{◌≡◌, refl, sym, ap, ap₂, ◌∙◌}
use mathlib.Core.Bool.{Bool, true, false}
use mathlib.Core.Logic.{◌≢◌}
use mathlib.Core.List.{List, [], ◌∷◌, ◌++◌, append-nil}
use Prim.Native.Nat.{ℕ, ◌+◌}
use native.Mathlib.Omega.{arith}
use borrow.Author.Tests.{eq-eqb, ne_eqb, eqb-true, eqb-false}
use lib.{Dec.eqb, ListN.length, ListN.get_or, ListN.length-append, Seq.take_all}
use Rattle.octets.specs.Rows.{row, numbers_at, Fits}
use Rattle.octets.proofs.{Numbers.Below, Rows.length_row, Rows.numbers_back, Rows.row_back, Slices.slice_add}
use Rattle.names.specs.Naming.{key_bytes, pair_bytes}
use Rattle.record_bytes.specs.Front.{front_size, front_bytes, FrontFits}
use Rattle.record_bytes.proofs.Fronts.{length_front, front_back, front_again}
use Rattle.receiver.specs.{Rules.receiver_in_rule, declared.Receiver.Receiver}
use Rattle.receiver_bytes.specs.Record.{receiver_size, front_of, count_widths, receiver_bytes, receiver_in}

pub length_receiver : (r : Receiver) → length r.key ≡ key_bytes → length r.pair ≡ pair_bytes
    → length (receiver_bytes r) ≡ receiver_size
unfolding receiver_bytes
length_receiver r k p =
    length-append (front_bytes (front_of r)) (row count_widths (r.count ∷ []))
    ∙ ap₂ (λ (m n : ℕ). m + n) (length_front (front_of r) k p) (length_row count_widths (r.count ∷ []))

-- other bytes stand for a receiver that is out of rule
pub no_receiver_out : (bytes : List ℕ) → length bytes ≢ receiver_size → receiver_in_rule (receiver_in bytes) ≡ false
unfolding receiver_in receiver_in_rule
no_receiver_out bytes other = rw (ne_eqb (length bytes) receiver_size other)

pub in_rule_size : (bytes : List ℕ) → receiver_in_rule (receiver_in bytes) ≡ true → length bytes ≡ receiver_size
in_rule_size bytes rule = go (eqb (length bytes) receiver_size) refl
  where
    go : (b : Bool) → eqb (length bytes) receiver_size ≡ b → length bytes ≡ receiver_size
    go true e = eqb-true (length bytes) receiver_size e
    go false e =
        let clash : true ≡ false = sym rule ∙ no_receiver_out bytes (eqb-false (length bytes) receiver_size e) in
        let z : ◌≡◌ {A = ℕ} 0 1 = cc in absurd (omega arith)

pub receiver_back : (r : Receiver) → FrontFits (front_of r) → Fits count_widths (r.count ∷ [])
    → receiver_in (receiver_bytes r) ≡ r
unfolding receiver_in receiver_bytes numbers_at
receiver_back r fits small =
    let rest : List ℕ = row count_widths (r.count ∷ []) in
    let bytes : List ℕ = front_bytes (front_of r) ++ rest in
    let front = front_back (front_of r) rest fits in
    let x : numbers_at count_widths bytes front_size ≡ r.count ∷ [] =
    ap (λ (l : List ℕ). numbers_at count_widths (front_bytes (front_of r) ++ l) front_size) (sym (append-nil rest))
    ∙ numbers_back count_widths (r.count ∷ []) (front_bytes (front_of r)) [] front_size
    (length_front (front_of r) fits.key_long fits.pair_long) small in
    rw (eq-eqb (length bytes) receiver_size (length_receiver r fits.key_long fits.pair_long))
    (λ i. record {
      key = (front i).key;
      pair = (front i).pair;
      session = (front i).session;
      length = (front i).length;
      count = get_or
          (x i) 0 0;
    })

pub receiver_again : (bytes : List ℕ) → Below 256 bytes → length bytes ≡ receiver_size
    → receiver_bytes (receiver_in bytes) ≡ bytes
unfolding receiver_in receiver_bytes numbers_at
receiver_again bytes b long =
    rw (eq-eqb (length bytes) receiver_size long)
    (ap₂ (λ (l r : List ℕ). l ++ r) (front_again bytes b (omega arith)) (row_back count_widths bytes 24 (omega arith) b)
    ∙ sym (slice_add bytes 0 24 2)
    ∙ take_all receiver_size bytes (omega arith))
