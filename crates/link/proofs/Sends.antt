-- Sending keeps what holds: the one frame that it can put on the line is the opening or the block that is due, of the
-- sound begun.
use mathlib.Core.{Logic.⊎_elim, Bool.true}
use mathlib.Core.Path.{◌≡◌, sym, ap, subst}
use mathlib.Core.List.Memᴰ
use mathlib.Core.List.{List, ◌∷◌, Memᴰ}
use Prim.Native.Nat.{ℕ}
use native.Mathlib.Omega.{arith}
use lib.ListN.{length}
use Rattle.octets.specs.Stream.{Cipher}
use Rattle.octets.proofs.Buffers.{take_placed}
use Rattle.blocks.specs.{Blocks.block_of, Covering.covered}
use Rattle.frames.specs.Frames.{opening, block, bytes}
use Rattle.sender.specs.Sender.{is_under_way, due_in, sending}
use Rattle.sender.specs.declared.Phase.TheVariants.{Opening, Sending}
use Rattle.link.specs.{Demand3.sound_of, World.World, World.with_sent, World.after_send}
use Rattle.refusals.proofs.ByTurns.{finally, keeps, either, by_turns}
use Rattle.link.proofs.Invariant.{an_opening, a_block, UpOf, Inv, sender_in_rule_lem, known_in, by_phase}

-- what holds of the frames on a line and of one more holds of all
pub one_more : {A : Type 0} (P : A → Type 0) (x : A) (xs : List A) → P x → ((y : A) → Memᴰ y xs → P y)
    → (y : A) → Memᴰ y (x ∷ xs) → P y
one_more P x xs h all y m = ⊎_elim (λ e. subst P (sym e) h) (λ m. all y m) (Memᴰ.cases_cons m)

module _ {cipher : Cipher} {key pair : List ℕ} {room : ℕ} (w : World) (i : Inv cipher key pair room w) where
  abbrev Fine : List ℕ → Type 0
  Fine = UpOf cipher key pair room w

  due_fine : (sound : List ℕ) → sound ≡ sound_of w → is_under_way w.sender.phase ≡ true
      → Fine (due_in cipher w.sender sound w.sender.phase)
  unfolding due_in
  due_fine sound own u =
      let s : ℕ = w.sender.session in
      by_phase (λ p. Fine (due_in cipher w.sender sound p)) w.sender.phase u
      (λ e.
      let known = known_in w i Opening e in
      an_opening s known (omega arith) (ap (λ (n : ℕ). bytes (opening s n)) (sym i.begun.same)))
      (λ k e.
      let known = known_in w i (Sending k) e in
      a_block s k known.0 (omega arith) (rw i.begun.same known.1) (λ _. rw e (omega arith))
      (λ j. bytes (block s k (covered cipher (i.names.0 j) (i.names.1 j) s k (block_of (own j) k)))))

  pub sends_kept : (sound frame : List ℕ)
      → (is_under_way w.sender.phase ≡ true → length sound ≡ w.sender.length → sound ≡ sound_of w)
      → Inv cipher key pair room (after_send cipher sound frame w)
  unfolding after_send sending
  sends_kept sound frame same =
      by_turns (λ o. Inv cipher key pair room (with_sent w o))
      (keeps (sender_in_rule_lem w i) (either i (λ u. either i (λ long. either i (λ fits.
      let fine = subst Fine (sym (take_placed frame _ fits)) (due_fine sound (same u long) u) in
      finally
      (record {
        names = i.names;
        begun = i.begun;
        held = i.held;
        between = i.between;
        up = one_more Fine _ w.up fine i.up;
        down = i.down;
      }))))))
