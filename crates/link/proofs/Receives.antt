-- Hearing at the receiver keeps what holds, and a frame off the line is never out of place there: an opening or a block
-- of its session is one of the sound that it takes.
use mathlib.Core.{Path.◌≡◌, Path.refl, Path.sym, Path.ap, Path.subst, Path.◌∙◌, List.List, List.Memᴰ}
use Prim.Native.Nat.{ℕ, ◌+◌, ◌≤◌, ◌<◌}
use native.Mathlib.{Nat.zero-min, Omega.arith}
use borrow.Author.Tests.{ltb-true, ltb-false, eqb-true, eqb-false}
use lib.{Dec.ltb, Dec.eqb, ListN.length}
use Rattle.octets.specs.{Buffers.placed, Stream.Cipher}
use Rattle.octets.proofs.Buffers.{take_placed}
use Rattle.refusals.specs.Numbers.{accepted}
use Rattle.refusals.proofs.{Tests.by_cond, ByTurns.finally, ByTurns.keeps, ByTurns.either, ByTurns.by_turns}
use Rattle.blocks.specs.{Blocks.blocks, Blocks.size, Blocks.block_of, Covering.covered}
use Rattle.blocks.proofs.Covering.{length_run}
use Rattle.frames.specs.Frames.{Frame, opening, block, holds, too_long, bytes}
use Rattle.receiver.specs.Receiver.{answer_room, taking, Effect, effect, still_held, on_opening, on_block, Received}
use Rattle.receiver.specs.Receiver.{received, receiving}
use Rattle.receiver.specs.declared.Receiver.{Receiver}
use Rattle.sender.specs.declared.Phase.{Phase}
use Rattle.sender.specs.declared.Phase.TheVariants.{Idle, Opening, Sending, Done, Refused}
use Rattle.link.specs.{Demand3.Fitting, World.World, World.with_received, World.after_receive}
use Rattle.link.proofs.{Fronts.uncovered, Fronts.held_more, Sends.one_more}
use Rattle.link.proofs.Invariant.{lim, Held, Known, an_opening, a_block, Down, a_count, a_no, UpOf, Inv}
use Rattle.link.proofs.Invariant.{receiver_in_rule_lem, meant, length_holds, length_no}

-- a receiver only goes on: to a later session, or to more blocks of its own
module _ {taken count taken' count' : ℕ} (later : taken ≤ taken') (on : taken ≡ taken' → count ≤ count') where
  down_on : {sound : ℕ → List ℕ} {session room : ℕ} {frame : List ℕ} → Down sound session taken count room frame
      → Down sound session taken' count' room frame
  down_on (a_count s c some most few below e) =
      a_count s c some (omega arith) few (λ h. let z = on (omega arith) in let y = below (omega arith) in omega arith) e
  down_on (a_no s some most short e) = a_no s some most short e

  known_on : (session long room : ℕ) (p : Phase) → taken' ≤ session → Known session long taken count room p
      → Known session long taken' count' room p
  known_on session long room Idle h k = tt
  known_on session long room Opening h k = k
  known_on session long room (Sending c) h k = let z = on (omega arith) in omega arith
  known_on session long room Done h k = let z = on (omega arith) in omega arith
  known_on session long room (Refused why) h k = k

module _ {cipher : Cipher} {key pair : List ℕ} {room : ℕ} (w : World) (i : Inv cipher key pair room w)
    (reply : List ℕ) where
  abbrev Kept : Received → Type 0
  Kept o = Inv cipher key pair room (with_received w o) × Fitting o.answer.refusal

  -- what a frame that isn't refused brings about
  abbrev KeptBy : Effect → Type 0
  KeptBy e =
      Kept (received (record { refusal = accepted; length = length (bytes e.answer); receiver = e.next }) e.sound
      (placed reply 0 (bytes e.answer)))

  -- every frame of the receiver's session speaks of the sound that it takes
  own_length : (s : ℕ) → s ≡ w.receiver.session → length (w.sound s) ≡ w.receiver.length
  own_length s own = ap (λ (n : ℕ). length (w.sound n)) own ∙ i.held.same

  abbrev Answer : ℕ → ℕ → List ℕ → Type 0
  Answer session count = Down w.sound w.sender.session session count room

  -- with room for any answer
  module _ (seven : answer_room ≤ length reply) where
    -- the receiver goes on to the session, length and count given here, and answers so
    moves : (session long count : ℕ) (after : List ℕ) (f : Frame)
        → w.receiver.session ≤ session → session ≤ w.sender.session
        → (w.receiver.session ≡ session → w.receiver.count ≤ count)
        → (session ≡ w.sender.session → count ≤ lim w.sender.length w.sender.phase)
        → Held w.sound room after session long count → Answer session count (bytes f) → length (bytes f) ≤ answer_room
        → KeptBy (effect (taking w.receiver session long count) after f)
    moves session long count after f later most on limit held right small = (
      record {
        names = i.names;
        begun = i.begun;
        held = record {
          same = held.same;
          fits = held.fits;
          counted = held.counted;
          whole = omega arith;
          front = let front = held.front in cc;
        };
        between = record {
          ahead = most;
          limit = limit;
          known = known_on later on _ _ room w.sender.phase most i.between.known;
        };
        up = i.up;
        down =
            one_more (Answer session count) _ w.down
            (subst (Answer session count) (sym (take_placed reply (bytes f) (omega arith))) right)
            (λ g m. down_on later on (i.down g m));
      },
      omega arith,
    )

    -- an answer that moves nothing
    stays : (f : Frame) → Answer w.receiver.session w.receiver.count (bytes f) → length (bytes f) ≤ answer_room
        → KeptBy (effect w.receiver w.buffer f)
    stays f right small =
        moves w.receiver.session w.receiver.length w.receiver.count w.buffer f (omega arith)
        i.between.ahead (omega arith) i.between.limit i.held right small

    still : 1 ≤ w.receiver.session → KeptBy (still_held w.receiver w.buffer)
    still some =
        let short = i.begun.short w.receiver.session in
        let seven = length_holds w.receiver.session w.receiver.count in
        stays (holds w.receiver.session w.receiver.count)
        (a_count w.receiver.session w.receiver.count some (omega arith) (omega arith) (omega arith) refl)
        (omega arith)

    module _ (s : ℕ) (some : 1 ≤ s) (most : s ≤ w.sender.session) where
      on_opening_lem : w.receiver.session ≤ s → KeptBy (on_opening w.receiver w.buffer s (length (w.sound s)))
      on_opening_lem later =
          by_cond KeptBy (eqb s w.receiver.session) _ _
          (λ t. still (omega (arith, eqb-true s w.receiver.session t)))
          (λ other.
          let new = eqb-false s w.receiver.session other in
          by_cond KeptBy (ltb (length w.buffer) (length (w.sound s))) _ _
          (λ t.
          let short = ltb-true (length w.buffer) (length (w.sound s)) t in
          stays (too_long s) (a_no s some most (omega arith) refl) (omega (arith, length_no s)))
          (λ t.
          let enough = ltb-false (length w.buffer) (length (w.sound s)) t in
          let none = zero-min (length (w.sound s)) in
          moves s (length (w.sound s)) 0 w.buffer (holds s 0) later most (λ e. absurd (new (sym e))) (omega arith)
          (record { same = refl; fits = omega arith; counted = omega arith; whole = i.held.whole; front = rw none })
          (a_count s 0 some (omega arith) (omega arith) (omega arith) refl) (omega (arith, length_holds s 0))))

      on_block_lem : (k : ℕ) → k < blocks (length (w.sound s))
          → (s ≡ w.sender.session → k < lim w.sender.length w.sender.phase) → s ≡ w.receiver.session
          → KeptBy (on_block cipher w.receiver w.buffer k (covered cipher key pair s k (block_of (w.sound s) k)))
      on_block_lem k below due own =
          let r : Receiver = w.receiver in
          by_cond KeptBy (eqb k r.count) _ _
          (λ t.
          let turn = eqb-true k r.count t in
          let long = ap (λ (n : ℕ). length (w.sound n)) own in
          let short = i.begun.short s in
          moves r.session r.length (k + 1) _ (holds r.session (k + 1)) (omega arith) i.between.ahead
          (omega arith) (λ present. let z = due (omega arith) in omega arith)
          (rw (uncovered cipher w.sound k i.names.2 i.names.3 own)
          (held_more w.sound room w.buffer r.session r.length k (rw turn i.held) (omega arith)))
          (a_count r.session (k + 1) (omega arith) (omega arith) (omega arith) (omega arith) refl)
          (omega (arith, length_holds r.session (k + 1))))
          (λ _. still (omega arith))

  module _ (frame : List ℕ) where
    on_up : UpOf cipher key pair room w frame → Kept (receiving cipher w.receiver w.buffer reply frame)
    unfolding receiving
    on_up (an_opening s some most e) =
        let short = i.begun.short s in
        rw (meant (opening s (length (w.sound s))) e (omega arith))
        (by_turns Kept
        (keeps (receiver_in_rule_lem w i) (keeps refl
        (either (i, omega arith) (λ later. keeps (own_length s)
        (either (i, omega arith) (λ seven. finally (on_opening_lem seven s some most later))))))))
    on_up (a_block s k some most below due e) =
        let run : List ℕ = covered cipher key pair s k (block_of (w.sound s) k) in
        let short = i.begun.short s in
        let long : length run ≡ size (length (w.sound s)) k = length_run cipher key pair s k (w.sound s) in
        rw (meant (block s k run) e (omega arith))
        (by_turns Kept
        (keeps (receiver_in_rule_lem w i) (keeps refl
        (either (i, omega arith) (λ own.
        let same = own_length s own in
        keeps (omega arith) (keeps (long ∙ ap (λ (n : ℕ). size n k) same) (keeps (omega arith)
        (either (i, omega arith) (λ seven. finally (on_block_lem seven s some most k below due own))))))))))

    pub receives_kept : Memᴰ frame w.up
        → Inv cipher key pair room (after_receive cipher frame reply w)
        × Fitting (receiving cipher w.receiver w.buffer reply frame).answer.refusal
    unfolding after_receive
    receives_kept m = on_up (i.up frame m)
