-- A refused status writes nothing. A receiver that says whole holds every block of a sound whose length its record has,
-- so by demand 3 the buffer begins with all of it.
use Prim.Native.Nat.{ℕ}
use mathlib.Core.{Bool.Bool, Bool.true, Bool.false, Bool.cond, List.List}
use mathlib.Core.Path.{◌≡◌, refl, sym, ap, ◌∙◌}
use native.Mathlib.Omega.{arith}
use borrow.Author.Tests.{eqb-true}
use lib.{ListN.get_or, ListN.take, Seq.take_all}
use Rattle.octets.specs.Buffers.{placed}
use Rattle.refusals.specs.{Numbers.accepted, Outcome.Outcome, Outcome.outcome, Rules.Leaves}
use Rattle.refusals.proofs.{Settled.settled_leaves, Settled.answer_done, Tests.and_second}
use Rattle.trivium.specs.Keystream.{trivium}
use Rattle.blocks.specs.Blocks.{blocks}
use Rattle.frames.specs.Frames.{some}
use Rattle.receiver.specs.declared.Receiver.{Receiver}
use Rattle.link.specs.World.{World, Reach, held_bytes}
use Rattle.link.proofs.Demand3.{demand3_trivium}
use Rattle.link_status.specs.{Calls.is_whole, Calls.receiver_numbers, Whole.WholeHeld}
use Rattle.link_status.specs.Calls.{sender_status, receiver_status}

pub sender_status_leaves : (sender answer : List ℕ)
    → Leaves (λ o. o.answer) (λ n. outcome n answer) (sender_status sender answer)
unfolding sender_status
sender_status_leaves sender answer = settled_leaves _ _ _ (λ o. o.answer) refl (λ n. refl)

pub receiver_status_leaves : (receiver answer : List ℕ)
    → Leaves (λ o. o.answer) (λ n. outcome n answer) (receiver_status receiver answer)
unfolding receiver_status
receiver_status_leaves receiver answer = settled_leaves _ _ _ (λ o. o.answer) refl (λ n. refl)

one_if : (b : Bool) → ◌≡◌ {A = ℕ} (cond b 1 0) 1 → b ≡ true
one_if true e = refl
one_if false e = absurd (omega arith)

-- what the numbers tell of the record
whole_if : (r : Receiver) (answer : List ℕ) → get_or (placed answer 0 (receiver_numbers r)) 4 0 ≡ 1
    → r.count ≡ blocks r.length
unfolding placed
whole_if r answer e = eqb-true _ _ (and_second (some r.session) _ (one_if (is_whole r) e))

pub whole_held : (key pair buffer : List ℕ) {w : World} → Reach trivium key pair buffer w → WholeHeld w
unfolding receiver_status placed
whole_held key pair buffer {w} reached bytes answer same z e =
    let r : Receiver = w.receiver in
    let out : receiver_status bytes answer ≡ outcome accepted (placed answer 0 (receiver_numbers r)) =
    answer_done _ _ _ (λ o. o.answer) refl (λ n. refl) refl z
    ∙ ap (λ (r : Receiver). outcome accepted (placed answer 0 (receiver_numbers r))) same in
    let all = whole_if r answer (sym (ap (λ (o : Outcome ℕ ℕ). get_or o.buffer 4 0) out) ∙ e) in
    let held = (demand3_trivium key pair buffer reached).held_front in
    let sound : List ℕ = w.sound r.session in
    let n : held_bytes r.length r.count ≡ r.length = omega arith in
    ap (λ (o : Outcome ℕ ℕ). take (get_or o.buffer 1 0) w.buffer) out
    ∙ ap (λ (k : ℕ). take k w.buffer) (sym n)
    ∙ held.2
    ∙ take_all (held_bytes r.length r.count) sound (omega arith)
    ∙ ap (λ (o : Outcome ℕ ℕ). w.sound (get_or o.buffer 0 0)) (sym out)
