-- What the public calls' definitions come to: a refused call leaves all as given, and only a block in turn writes to
-- the sound, and only its own bytes.
use mathlib.Core.{Path.◌≡◌, Path.refl, Path.sym, Path.ap₂, Logic.◌⊎◌, Logic.inl, Logic.inr, List.List}
use Prim.Native.Nat.{ℕ}
use borrow.Author.Tests.{eqb-true}
use lib.{Dec.eqb, Dec.ltb, ListN.length}
use Rattle.octets.specs.{Buffers.placed, Stream.Cipher}
use Rattle.refusals.specs.{Numbers.accepted, Rules.AllRight, Rules.Leaves}
use Rattle.refusals.proofs.{Settled.done_if, Settled.by_settled, Settled.settled_leaves, Tests.by_cond}
use Rattle.blocks.specs.{Blocks.place, Covering.covered}
use Rattle.frames.specs.Frames.{opening, block, holds, too_long, Heard, it, no_frame, heard}
use Rattle.names.specs.Naming.{key_bytes, pair_bytes, no_key, no_pair}
use Rattle.receiver.specs.Receiver.{fresh_receiver, made, making_receiver, receive_faults, Effect, on_frame, Received}
use Rattle.receiver.specs.Receiver.{received, receiving}
use Rattle.receiver.specs.declared.Receiver.{Receiver}
use Rattle.receiver.proofs.Receivers.{none_broken}

pub making_leaves : (key pair : List ℕ)
    → Leaves (λ a. a.refusal) (made (fresh_receiver no_key no_pair)) (making_receiver key pair)
unfolding making_receiver
making_leaves key pair = settled_leaves _ _ _ (λ a. a.refusal) refl (λ n. refl)

-- with names of the right lengths it is made
pub making_done : (key pair : List ℕ) → length key ≡ key_bytes → length pair ≡ pair_bytes
    → making_receiver key pair ≡ made (fresh_receiver key pair) accepted
unfolding making_receiver
making_done key pair ten six = sym (done_if _ _ _ (ten, (six, tt)))

module _ (cipher : Cipher) (r : Receiver) (sound reply frame : List ℕ) where
  pub receiving_leaves :
      Leaves (λ o. o.answer.refusal) (λ n. received (record { refusal = n; length = 0; receiver = r }) sound reply)
      (receiving cipher r sound reply frame)
  unfolding receiving
  receiving_leaves = settled_leaves _ _ _ (λ o. o.answer.refusal) refl (λ n. refl)

  -- only a block in turn writes to the sound, and only its own bytes
  abbrev pub Writes : List ℕ → Heard → Type 0
  Writes after h =
      (after ≡ sound)
      ⊎ ((run : List ℕ) × ((h ≡ it (block r.session r.count run))
      × (after ≡ placed sound (place r.count) (covered cipher r.key r.pair r.session r.count run))))

  in_turn : (h : Heard) → AllRight (receive_faults r (length sound) (length reply) h)
      → Writes (on_frame cipher r sound h).sound h
  in_turn no_frame right = inl refl
  in_turn (it (opening session long)) right =
      let So : Effect → Type 0 = λ e. Writes e.sound (it (opening session long)) in
      by_cond So (eqb session r.session) _ _ (λ _. inl refl)
      (λ _. by_cond So (ltb (length sound) long) _ _ (λ _. inl refl) (λ _. inl refl))
  in_turn (it (block session k run)) right =
      by_cond (λ (e : Effect). Writes e.sound (it (block session k run))) (eqb k r.count) _ _
      (λ t.
      let turn = eqb-true k r.count t in
      inr (
        run,
        (
          ap₂ (λ (s n : ℕ). it (block s n run)) right.1.1.0 turn,
          λ j. placed sound (place (turn j)) (covered cipher r.key r.pair r.session (turn j) run),
        ),
      ))
      (λ _. inl refl)
  in_turn (it (holds session held)) right = inl refl
  in_turn (it (too_long session)) right = inl refl

  pub writes_in_turn : Writes (receiving cipher r sound reply frame).sound (heard frame)
  unfolding receiving
  writes_in_turn =
      by_settled _ _ _ (λ (o : Received). Writes o.sound (heard frame))
      (λ e. in_turn (heard frame) (none_broken r (length sound) (length reply) (heard frame) e))
      (λ n _ _. inl refl)
