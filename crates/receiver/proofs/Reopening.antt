-- An opening of the session in hand is a repeat or refused: all rules before the length's hold for it, and only that
-- rule has the number 36.
use mathlib.Core.{Path.◌≡◌, Path.refl, Path.sym, Path.ap, Path.◌∙◌, Logic.◌≢◌, Bool.true, List.List}
use Prim.Native.Nat.{ℕ}
use native.Mathlib.Omega.{arith}
use borrow.Author.Tests.{eq-eqb}
use lib.ListN.{length}
use Rattle.octets.specs.Stream.{Cipher}
use Rattle.refusals.specs.{Numbers.other_length, Rules.first}
use Rattle.refusals.proofs.{Faults.refused_at, Faults.never, Faults.blamed, Settled.settled_number}
use Rattle.trivium.specs.Keystream.{trivium}
use Rattle.frames.specs.Frames.{opening, block, holds, too_long, Heard, it, no_frame, heard}
use Rattle.receiver.specs.{Receiver.receive_faults, Receiver.Received, Receiver.receiving, Reopening.Reopening}
use Rattle.receiver.specs.{Rules.receiver_in_rule, declared.Receiver.Receiver}
use Rattle.receiver.proofs.Receivers.{refused_so_lem, received_so}

module _ (cipher : Cipher) (r : Receiver) (sound reply frame : List ℕ) where
  -- 36 is the number of one rule on openings, and of none on anything else
  blames : (h : Heard) → first (receive_faults r (length sound) (length reply) h) ≡ other_length
      → (receiver_in_rule r ≡ true) × ((long : ℕ) × (h ≡ it (opening r.session long)) × (long ≢ r.length))
  blames no_frame e = absurd (never other_length _ tt e)
  blames (it (opening session long)) e =
      let fails = blamed other_length 3 _ tt e in
      (fails.0, (long, ap (λ (s : ℕ). it (opening s long)) fails.1.1.1.0, fails.1.1.1.1))
  blames (it (block session k run)) e = absurd (never other_length _ tt e)
  blames (it (holds session held)) e = absurd (never other_length _ tt e)
  blames (it (too_long session)) e = absurd (never other_length _ tt e)

  pub reopening : Reopening cipher r sound reply frame
  unfolding receiving
  reopening =
      record {
        repeated =
            λ right e room.
            let own = eq-eqb r.session r.session refl in
            sym (received_so cipher r sound reply frame (it (opening r.session r.length)) e
            (right, (refl, (omega arith, (λ _. refl, (room, tt))))) (rw own) (rw own) (rw own) (rw own));
        other =
            λ right long e other.
            sym (refused_so_lem cipher r sound reply frame (it (opening r.session long)) e other_length (omega arith)
            (refused_at 3 _ (right, (refl, (omega arith, (refl, other))))));
        nothing_else =
            λ e.
            let number = settled_number _ _ _ (λ (o : Received). o.answer.refusal) refl (λ n. refl) in
            blames (heard frame) (sym number ∙ e);
      }

pub reopening_trivium : (r : Receiver) (sound reply frame : List ℕ) → Reopening trivium r sound reply frame
reopening_trivium = reopening trivium
