-- A sender's bytes read back are the sender, and bytes that are a sender, read and written, are the same bytes: by the
-- laws of fronts and of rows, and phase by phase.
use mathlib.Core.Path.{◌≡◌, refl, sym, ap, ap₂, ◌∙◌}
use mathlib.Core.Bool.{Bool, true, false, cond, ◌&&◌, ◌||◌}
use mathlib.Core.List.{List, [], ◌∷◌, ◌++◌, append-nil}
use Prim.Native.Nat.{ℕ, zero, suc, ◌+◌, ◌≤◌}
use native.Mathlib.Omega.{arith}
use borrow.Author.Tests.{eq-eqb, ne_eqb, eqb-true, leb-true}
use Rattle.std.specs.Prelude.{Option, Some, None}
use lib.{Dec.leb, Dec.eqb, ListN.length, ListN.take, ListN.get_or, ListN.length-append, Seq.take_all}
use Rattle.octets.specs.{Digits.number_at, Rows.row, Rows.numbers_at, Rows.Fits}
use Rattle.octets.proofs.{Numbers.Below, Rows.length_row, Rows.numbers_back, Rows.row_back, Slices.slice_add}
use Rattle.refusals.proofs.Tests.{and_first, and_second}
use Rattle.names.specs.Naming.{key_bytes, pair_bytes}
use Rattle.record_bytes.specs.Front.{front_size, front_bytes, FrontFits}
use Rattle.record_bytes.proofs.Fronts.{length_front, front_back, front_again}
use Rattle.sender.specs.{Rules.sender_in_rule, declared.Phase.Phase, declared.Reason.TheVariants.TooLong}
use Rattle.sender.specs.{declared.Sender.Sender}
use Rattle.sender.specs.declared.Phase.TheVariants.{Idle, Opening, Sending, Done, Refused}
use Rattle.sender_record.specs.Record.{sender_size, phase_numbers, phase_widths, front_of, sender_bytes}
use Rattle.sender_record.specs.Record.{is_phase, is_sender, phase_in, phase_if, sender_in}

pub length_sender : (s : Sender) → length s.key ≡ key_bytes → length s.pair ≡ pair_bytes
    → length (sender_bytes s) ≡ sender_size
unfolding sender_bytes
length_sender s k p =
    length-append (front_bytes (front_of s)) (row phase_widths (phase_numbers s.phase))
    ∙ ap₂ (λ (m n : ℕ). m + n) (length_front (front_of s) k p) (length_row phase_widths (phase_numbers s.phase))

pub sender_size_lem : (bytes : List ℕ) → is_sender bytes ≡ true → length bytes ≡ sender_size
unfolding is_sender
sender_size_lem bytes is = eqb-true (length bytes) sender_size (and_first (eqb (length bytes) sender_size) _ is)

-- other bytes stand for a sender that is out of rule
pub no_sender_out : (bytes : List ℕ) → is_sender bytes ≡ false → sender_in_rule (sender_in bytes) ≡ false
unfolding sender_in sender_in_rule
no_sender_out bytes other = rw other

pub in_rule_size : (bytes : List ℕ) → sender_in_rule (sender_in bytes) ≡ true → length bytes ≡ sender_size
in_rule_size bytes rule = go (is_sender bytes) refl
  where
    go : (b : Bool) → is_sender bytes ≡ b → length bytes ≡ sender_size
    go true is = sender_size_lem bytes is
    go false other =
        let clash : true ≡ false =
        sym rule ∙ no_sender_out bytes other in let z : ◌≡◌ {A = ℕ} 0 1 = cc in absurd (omega arith)

-- ---- the tests of the code: the length, and then the phase

module _ (bytes : List ℕ) where
  pub other_length : (length bytes ≡ sender_size → ⊥) → is_sender bytes ≡ false
  unfolding is_sender
  other_length e = rw (ne_eqb (length bytes) sender_size e)

  pub by_phase : length bytes ≡ sender_size → is_sender bytes ≡ is_phase (number_at bytes 24 1) (number_at bytes 25 2)
  unfolding is_sender
  by_phase e = rw (eq-eqb (length bytes) sender_size e)

-- what a phase that was asked for by its numbers says of them
module _ (number known : ℕ) where
  asked : Bool → Option Phase
  asked b = cond b (Some (phase_in number known)) None

  no_phase : (b : Bool) → asked b ≡ None → b ≡ false
  unfolding asked
  no_phase true e = absurd cc
  no_phase false e = refl

  one_phase : (b : Bool) {phase : Phase} → asked b ≡ Some phase → (b ≡ true) × (phase ≡ phase_in number known)
  unfolding asked
  one_phase true e = (refl, cc)
  one_phase false e = absurd cc

  pub none_asked : phase_if number known ≡ None → is_phase number known ≡ false
  unfolding asked
  none_asked e = no_phase (is_phase number known) e

  pub one_asked : {phase : Phase} → phase_if number known ≡ Some phase
      → (is_phase number known ≡ true) × (phase ≡ phase_in number known)
  unfolding asked
  one_asked e = one_phase (is_phase number known) e

-- ---- written and read back

phase_back : (phase : Phase)
    → phase_in (get_or (phase_numbers phase) 0 0) (get_or (phase_numbers phase) 1 0) ≡ phase
unfolding phase_in
phase_back Idle = refl
phase_back Opening = refl
phase_back (Sending known) = refl
phase_back Done = refl
phase_back (Refused TooLong) = refl

-- there are four phases and a reason, and a count only while sending
phase_rule : (phase : Phase)
    → let p = phase_numbers phase in (leb (get_or p 0 0) 4 && (eqb (get_or p 0 0) 2 || eqb (get_or p 1 0) 0)) ≡ true
phase_rule Idle = refl
phase_rule Opening = refl
phase_rule (Sending known) = refl
phase_rule Done = refl
phase_rule (Refused TooLong) = refl

pub sender_back : (s : Sender) → FrontFits (front_of s) → Fits phase_widths (phase_numbers s.phase)
    → sender_in (sender_bytes s) ≡ s
unfolding sender_in sender_bytes is_sender numbers_at
sender_back s fits small =
    let rest : List ℕ = row phase_widths (phase_numbers s.phase) in
    let bytes : List ℕ = front_bytes (front_of s) ++ rest in
    let size : length bytes ≡ sender_size = length_sender s fits.key_long fits.pair_long in
    let front = front_back (front_of s) rest fits in
    let x : numbers_at phase_widths bytes front_size ≡ phase_numbers s.phase =
    ap (λ (l : List ℕ). numbers_at phase_widths (front_bytes (front_of s) ++ l) front_size) (sym (append-nil rest))
    ∙ numbers_back phase_widths (phase_numbers s.phase) (front_bytes (front_of s)) [] front_size
    (length_front (front_of s) fits.key_long fits.pair_long) small in
    let rule : (leb (number_at bytes 24 1) 4 && (eqb (number_at bytes 24 1) 2 || eqb (number_at bytes 25 2) 0)) ≡ true =
    ap (λ (l : List ℕ). leb (get_or l 0 0) 4 && (eqb (get_or l 0 0) 2 || eqb (get_or l 1 0) 0)) x ∙ phase_rule s.phase in
    let phase : phase_in (number_at bytes 24 1) (number_at bytes 25 2) ≡ s.phase =
    ap (λ (l : List ℕ). phase_in (get_or l 0 0) (get_or l 1 0)) x ∙ phase_back s.phase in
    rw (eq-eqb (length bytes) sender_size size, rule)
    (λ i. record
    { key = (front i).key; pair = (front i).pair; session = (front i).session; length = (front i).length; phase = phase i })

-- ---- read and written back

numbers_again : (n known : ℕ) → n ≤ 4 → (eqb n 2 || eqb known 0) ≡ true
    → phase_numbers (phase_in n known) ≡ n ∷ known ∷ []
unfolding phase_in
numbers_again zero known low rule = ap (λ (k : ℕ). 0 ∷ k ∷ []) (sym (eqb-true known 0 rule))
numbers_again (suc zero) known low rule = ap (λ (k : ℕ). 1 ∷ k ∷ []) (sym (eqb-true known 0 rule))
numbers_again (suc (suc zero)) known low rule = refl
numbers_again (suc (suc (suc zero))) known low rule = ap (λ (k : ℕ). 3 ∷ k ∷ []) (sym (eqb-true known 0 rule))
numbers_again (suc (suc (suc (suc zero)))) known low rule = ap (λ (k : ℕ). 4 ∷ k ∷ []) (sym (eqb-true known 0 rule))
numbers_again (suc (suc (suc (suc (suc n))))) known low rule = absurd (omega arith)

pub sender_again : (bytes : List ℕ) → Below 256 bytes → is_sender bytes ≡ true → sender_bytes (sender_in bytes) ≡ bytes
unfolding sender_in sender_bytes is_sender numbers_at
sender_again bytes b is =
    let n : ℕ = number_at bytes 24 1 in
    let known : ℕ = number_at bytes 25 2 in
    let long : length bytes ≡ sender_size = sender_size_lem bytes is in
    let rest = and_second (eqb (length bytes) sender_size) (leb n 4 && (eqb n 2 || eqb known 0)) is in
    let low : n ≤ 4 = leb-true n 4 (and_first (leb n 4) (eqb n 2 || eqb known 0) rest) in
    let rule : (eqb n 2 || eqb known 0) ≡ true = and_second (leb n 4) (eqb n 2 || eqb known 0) rest in
    rw is
    (ap₂ (λ (l : List ℕ) (x : List ℕ). l ++ row phase_widths x) (front_again bytes b (omega arith))
    (numbers_again n known low rule)
    ∙ ap (λ (l : List ℕ). take 24 bytes ++ l) (row_back phase_widths bytes 24 (omega arith) b)
    ∙ sym (slice_add bytes 0 24 3)
    ∙ take_all sender_size bytes (omega arith))
