-- Hearing at the sender keeps what holds, and an answer off the line is never out of place: a count is at most one
-- above the known, and Too long comes only where the buffer is too short.
use mathlib.Core.{Path.◌≡◌, Path.refl, Path.ap, Path.◌∙◌, Logic.◌≢◌, Bool.true, List.List, List.Memᴰ}
use Prim.Native.Nat.{ℕ, ◌≤◌, ◌<◌}
use native.Mathlib.Omega.{arith}
use borrow.Author.Tests.{ltb-true, ltb-false}
use lib.{Dec.ltb, ListN.length}
use Rattle.octets.specs.Stream.{Cipher}
use Rattle.refusals.specs.Numbers.{accepted, no_transfer, other_session}
use Rattle.refusals.proofs.{Tests.by_cond, ByTurns.finally, ByTurns.keeps, ByTurns.either, ByTurns.by_turns}
use Rattle.blocks.specs.Blocks.{blocks}
use Rattle.frames.specs.Frames.{holds, too_long, bytes}
use Rattle.sender.specs.{declared.Phase.Phase, declared.Reason.TheVariants.TooLong, declared.Sender.Sender}
use Rattle.sender.specs.{Answers.SenderAnswer}
use Rattle.sender.specs.Sender.{in_phase, refused, agreed, is_under_way, news_count, knowing, hearing}
use Rattle.sender.specs.declared.Phase.TheVariants.{Sending, Done, Refused}
use Rattle.link.specs.{Demand3.Possible, Demand3.sound_of, World.World, World.with_heard, World.after_hear}
use Rattle.link.proofs.Invariant.{lim, Up, an_opening, a_block, Down, a_count, a_no, KnownAs, Inv, known_in}
use Rattle.link.proofs.Invariant.{sender_in_rule_lem, standing, same_length, by_phase, meant}

-- a higher limit allows what a lower one does
up_to : {cipher : Cipher} {key pair : List ℕ} {sound : ℕ → List ℕ} {session low high : ℕ} {frame : List ℕ}
    → low ≤ high → Up cipher key pair sound session low frame → Up cipher key pair sound session high frame
up_to h (an_opening s some most e) = an_opening s some most e
up_to h (a_block s k some most b below e) =
    a_block s k some most b (λ present. let z = below present in omega arith) e

module _ {cipher : Cipher} {key pair : List ℕ} {room : ℕ} (w : World) (i : Inv cipher key pair room w)
    (frame : List ℕ) where
  -- a sender is refused its transfer only by Too long
  abbrev Only : Phase → Type 0
  Only p =
      w.sender.phase ≢ Refused TooLong → p ≡ Refused TooLong
      → (frame ≡ bytes (too_long w.sender.session)) × (room < length (sound_of w))

  abbrev Kept : SenderAnswer → Type 0
  Kept a = Inv cipher key pair room (with_heard w a) × Possible a.refusal × Only a.sender.phase

  unchanged : (number : ℕ) → Possible number → Kept (refused w.sender number)
  unchanged number h = (i, h, λ yet e. absurd (yet e))

  abbrev now : ℕ
  now = lim w.sender.length w.sender.phase

  turns : (p : Phase) → KnownAs cipher key pair room w p → now ≤ lim w.sender.length p → Only p
      → Kept (agreed (in_phase w.sender p))
  turns p known h only = (
    record {
      names = i.names;
      begun = i.begun;
      held = i.held;
      between = record {
        ahead = i.between.ahead;
        limit = λ present. let z = i.between.limit present in omega arith;
        known = known;
      };
      up = λ frame m. up_to h (i.up frame m);
      down = i.down;
    },
    omega arith,
    only,
  )

  -- so many blocks are held by the receiver, in the present session
  knows : (c : ℕ) → 1 ≤ w.sender.session → w.receiver.session ≡ w.sender.session → c ≤ w.receiver.count
      → now ≤ c → Kept (agreed (knowing w.sender c))
  knows c some present h low =
      let same = same_length w i present in
      by_cond (λ (p : Phase). Kept (agreed (in_phase w.sender p))) (ltb c (blocks w.sender.length)) _ _
      (λ e.
      turns (Sending c) (some, ltb-true _ _ e, present, h) (omega arith)
      (λ _ e. let z : ◌≡◌ {A = ℕ} 0 1 = cc in absurd (omega arith)))
      (λ e.
      let full = ltb-false c (blocks w.sender.length) e in
      turns Done (some, present, omega arith) (omega arith)
      (λ _ e. let z : ◌≡◌ {A = ℕ} 0 1 = cc in absurd (omega arith)))

  -- Too long comes while opening alone: blocks are held only where the buffer is long enough
  not_held : is_under_way w.sender.phase ≡ true → room < length (sound_of w) → news_count w.sender.phase ≤ 0
  not_held u over =
      by_phase (λ p. news_count p ≤ 0) w.sender.phase u (λ _. omega arith)
      (λ k e.
      let known = known_in w i (Sending k) e in
      let same = same_length w i known.2 in
      absurd (omega arith))

  on_down : Down w.sound w.sender.session w.receiver.session w.receiver.count room frame
      → Kept (hearing w.sender frame)
  unfolding hearing
  on_down (a_count s c some taken most below e) =
      rw (meant (holds s c) e (omega arith))
      (by_turns Kept
      (keeps (sender_in_rule_lem w i) (keeps refl
      (either (unchanged no_transfer (omega arith)) (λ u.
      either (unchanged other_session (omega arith)) (λ own.
      let b = below (omega arith) in
      let l = i.between.limit (omega arith) in
      let stands = standing w i u in
      keeps (omega arith)
      (finally
      (by_cond (λ (s : Sender). Kept (agreed s)) (ltb c (news_count w.sender.phase)) _ _
      (λ _. unchanged accepted (omega arith))
      (λ t.
      let news = ltb-false c (news_count w.sender.phase) t in
      knows c (omega arith) (omega arith) (omega arith) (omega arith))))))))))
  on_down (a_no s some most short e) =
      rw (meant (too_long s) e (omega arith))
      (by_turns Kept
      (keeps (sender_in_rule_lem w i) (keeps refl
      (either (unchanged no_transfer (omega arith)) (λ u.
      either (unchanged other_session (omega arith)) (λ own.
      let over : room < length (sound_of w) = rw own at short in
      let none = not_held u over in
      let stands = standing w i u in
      keeps none
      (finally
      (turns (Refused TooLong) (omega arith) (omega arith)
      (λ _ _. (e ∙ ap (λ (n : ℕ). bytes (too_long n)) own, over))))))))))

  pub hears_kept : Memᴰ frame w.down
      → Inv cipher key pair room (after_hear frame w)
      × Possible (hearing w.sender frame).refusal
      × Only (hearing w.sender frame).sender.phase
  unfolding after_hear
  hears_kept m = on_down (i.down frame m)
