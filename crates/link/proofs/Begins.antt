-- Beginning a sound keeps what holds: it takes a session number that no frame has named, and every older sound stays as
-- it was. A fresh pair of ends is where all this starts.
use mathlib.Core.List.Memᴰ
use mathlib.Core.{Path.◌≡◌, Path.refl, Path.sym, Path.ap, Path.◌∙◌, Bool.cond, List.List}
use Prim.Native.Nat.{ℕ, ◌+◌, ◌≤◌}
use native.Mathlib.Omega.{arith}
use borrow.Author.Tests.{eq-eqb, ne_eqb}
use lib.{Dec.eqb, ListN.length, ListN.take}
use Rattle.octets.specs.Stream.{Cipher}
use Rattle.refusals.specs.Numbers.{accepted}
use Rattle.refusals.proofs.{Tests.by_cond, ByTurns.finally, ByTurns.keeps, ByTurns.either, ByTurns.by_turns}
use Rattle.blocks.specs.{Blocks.longest, Blocks.block_of, Covering.covered}
use Rattle.frames.specs.Frames.{opening, block, bytes}
use Rattle.names.specs.Naming.{key_bytes, pair_bytes}
use Rattle.receiver.proofs.Theorems as receiver
use Rattle.sender.proofs.Theorems as sender
use Rattle.sender.specs.Sender.{last_session, agreed, begun, beginning}
use Rattle.sender.specs.{Answers.SenderAnswer, declared.Phase.TheVariants.Opening}
use Rattle.link.specs.World.{World, fresh, with_begun, after_begin, held_bytes}
use Rattle.link.proofs.Invariant.{Up, an_opening, a_block, Down, a_count, a_no, Inv, sender_in_rule_lem}

module _ {cipher : Cipher} {key pair : List ℕ} {room : ℕ} (w : World) (i : Inv cipher key pair room w)
    (new : List ℕ) where
  -- the session after the present one, and the sounds once it is begun
  abbrev next : ℕ
  next = w.sender.session + 1

  abbrev after : ℕ → List ℕ
  after session = cond (eqb session next) new (w.sound session)

  its_own : after next ≡ new
  its_own = rw (eq-eqb next next refl)

  older : (s : ℕ) → s ≤ w.sender.session → after s ≡ w.sound s
  older s h = rw (ne_eqb s next (omega arith))

  up_older : {limit : ℕ} (frame : List ℕ) → Up cipher key pair w.sound w.sender.session limit frame
      → Up cipher key pair after next 0 frame
  up_older frame (an_opening s some most e) =
      an_opening s some (omega arith) (e ∙ ap (λ (l : List ℕ). bytes (opening s (length l))) (sym (older s most)))
  up_older frame (a_block s k some most below due e) =
      a_block s k some (omega arith) (rw (older s most) below) (omega arith)
      (e ∙ ap (λ (l : List ℕ). bytes (block s k (covered cipher key pair s k (block_of l k)))) (sym (older s most)))

  down_older : {taken count : ℕ} (frame : List ℕ) → Down w.sound w.sender.session taken count room frame
      → Down after next taken count room frame
  down_older frame (a_count s c some taken few below e) = a_count s c some taken few below e
  down_older frame (a_no s some most short e) = a_no s some (omega arith) (rw (older s most) short) e

  starts : length new ≤ longest → next ≤ last_session
      → Inv cipher key pair room (with_begun w new (agreed (begun w.sender new)))
  starts short left =
      let same = older w.receiver.session i.between.ahead in
      record {
        names = i.names;
        begun = record {
          short = λ s. by_cond (λ l. length l ≤ longest) (eqb s next) _ _ (λ _. short) (λ _. i.begun.short s);
          none = ap length (older 0 (omega arith)) ∙ i.begun.none;
          same = ap length its_own;
          last = left;
        };
        held = record {
          same = ap length same ∙ i.held.same;
          fits = i.held.fits;
          counted = i.held.counted;
          whole = i.held.whole;
          front = i.held.front ∙ ap (take (held_bytes w.receiver.length w.receiver.count)) (sym same);
        };
        between = record { ahead = omega arith; limit = omega arith; known = omega arith };
        up = λ frame m. up_older frame (i.up frame m);
        down = λ frame m. down_older frame (i.down frame m);
      }

  pub begins_kept : Inv cipher key pair room (after_begin new w)
  unfolding after_begin beginning
  begins_kept =
      by_turns (λ a. Inv cipher key pair room (with_begun w new a))
      (keeps (sender_in_rule_lem w i) (either i (λ short. either i (λ left. finally (starts short left)))))

  -- an accepted beginning opens the sound that was lent
  abbrev Opens : SenderAnswer → Type 0
  Opens a =
      a.refusal ≡ accepted
      → (a.sender.phase ≡ Opening)
      × (a.sender.length ≡ length new)
      × ((with_begun w new a).sound a.sender.session ≡ new)

  pub opens : Opens (beginning w.sender new)
  unfolding beginning
  opens =
      by_turns Opens
      (keeps (sender_in_rule_lem w i)
      (either (λ e. absurd (omega arith)) (λ short.
      either (λ e. absurd (omega arith)) (λ left. finally (λ _. (refl, refl, its_own))))))

pub fresh_holds : (cipher : Cipher) (key pair buffer : List ℕ) → length key ≡ key_bytes → length pair ≡ pair_bytes
    → Inv cipher key pair (length buffer) (fresh key pair buffer)
unfolding fresh
fresh_holds cipher key pair buffer ten six =
    rw (sender.making_done key pair ten six) (rw (receiver.making_done key pair ten six)
    (record {
      names = (refl, refl, refl, refl);
      begun = record { short = omega arith; none = refl; same = refl; last = omega arith };
      held = record { same = refl; fits = omega arith; counted = omega arith; whole = refl; front = refl };
      between = record { ahead = omega arith; limit = omega arith; known = tt };
      up = λ frame m. absurd (Memᴰ.not-nil m);
      down = λ frame m. absurd (Memᴰ.not-nil m);
    }))
