-- One undisturbed round with room goes well and brings news: the frame due is answered with the count that would be
-- news or, while opening, with Too long.
use mathlib.Core.Path.{◌≡◌, refl, sym, ap, ap₂, subst, ◌∙◌}
use mathlib.Core.Logic.{◌≢◌, ◌⊎◌, inl, inr}
use mathlib.Core.Bool.{true}
use mathlib.Core.List.{List, Memᴰ}
use Prim.Native.Nat.{ℕ, ◌+◌, ◌≤◌}
use native.Mathlib.Omega.{arith}
use borrow.Author.Tests.{eqb-true, eqb-false, le-ltb}
use lib.{Dec.ltb, Dec.eqb, ListN.length}
use Rattle.octets.specs.{Buffers.placed, Stream.Cipher}
use Rattle.octets.proofs.Buffers.{take_placed}
use Rattle.refusals.specs.{Numbers.accepted, Outcome.outcome, Rules.AllRight}
use Rattle.refusals.proofs.{Settled.done_if, Tests.by_cond}
use Rattle.blocks.specs.Blocks.{blocks, size}
use Rattle.blocks.proofs.Covering.{length_run}
use Rattle.frames.specs.Frames.{Frame, opening, holds, too_long, bytes, it}
use Rattle.receiver.specs.Receiver.{answer_room, receive_faults, Effect, on_frame, Received, receiving}
use Rattle.sender.specs.{declared.Phase.Phase, declared.Reason.TheVariants.TooLong, declared.Sender.Sender}
use Rattle.sender.specs.{Answers.SenderAnswer}
use Rattle.sender.specs.Sender.{in_phase, agreed, is_under_way, news_count, block_frame, due_in, sending, hear_faults, informed}
use Rattle.sender.specs.Sender.{hearing}
use Rattle.sender.specs.declared.Phase.TheVariants.{Opening, Sending, Done, Refused}
use Rattle.link.specs.Demand3.{sound_of, send_call, receive_call, hear_call, after_round, Room, Well}
use Rattle.link.specs.World.{World, more, sent_frame, reply_frame, after_send, after_receive, after_hear, Reach, sends}
use Rattle.link.specs.World.{receives, hears}
use Rattle.link.proofs.Invariant.{Inv, sender_in_rule_lem, receiver_in_rule_lem, known_in, same_length, standing}
use Rattle.link.proofs.Invariant.{by_phase, Limits, meant, length_holds, length_no}

-- a transfer was begun: it is under way and so many blocks at least would be news, or it is over
abbrev pub Stands : ℕ → Phase → Type 0
Stands news p = ((is_under_way p ≡ true) × (news ≤ news_count p)) ⊎ ((p ≡ Done) ⊎ (p ≡ Refused TooLong))

-- the same transfer, with a block more
abbrev pub Onward : Sender → Sender → Type 0
Onward s next = (next.session ≡ s.session) × Stands (news_count s.phase + 1) next.phase

-- the frame of a call that isn't refused is on the line
on_line : (number : ℕ) (frame : List ℕ) (line : List (List ℕ)) → number ≡ accepted
    → Memᴰ frame (more number frame line)
on_line number frame line e = rw e (Memᴰ.head refl)

module _ {cipher : Cipher} {key pair : List ℕ} {room : ℕ} (w : World) (i : Inv cipher key pair room w)
    (u : is_under_way w.sender.phase ≡ true) where
  abbrev session : ℕ
  session = w.sender.session

  abbrev news : ℕ
  news = news_count w.sender.phase

  abbrev due_now : Phase → List ℕ
  due_now = due_in cipher w.sender (sound_of w)

  -- ---- the answer

  abbrev News : Frame → Type 0
  News f = (f ≡ holds session news) ⊎ ((f ≡ too_long session) × (news ≡ 0))

  small : (f : Frame) → News f → length (bytes f) ≤ answer_room
  small f (inl e) = rw e (omega (arith, length_holds session news))
  small f (inr (e, _)) = rw e (omega (arith, length_no session))

  -- this frame is the answer
  abbrev Says : Frame → Received → Type 0
  Says f o = (o.answer.refusal ≡ accepted) × (reply_frame o ≡ bytes f)

  module _ (reply : List ℕ) (seven : answer_room ≤ length reply) where
    abbrev Answered : List ℕ → Type 0
    Answered run = (f : Frame) × News f × Says f (receiving cipher w.receiver w.buffer reply run)

    answers : (g : Frame) → Limits g
        → AllRight (receive_faults w.receiver (length w.buffer) (length reply) (it g))
        → News (on_frame cipher w.receiver w.buffer (it g)).answer → Answered (bytes g)
    unfolding receiving
    answers g limits right new =
        let f : Frame = (on_frame cipher w.receiver w.buffer (it g)).answer in
        let fits : length (bytes f) ≤ length reply = omega (arith, small f new) in
        let itself = meant g refl limits in
        (f, new, rw itself (subst (Says f) (done_if _ _ _ right) (refl, take_placed reply (bytes f) fits)))

    abbrev NewsOf : Effect → Type 0
    NewsOf e = News e.answer

    on_opening_lem : w.sender.phase ≡ Opening → Answered (due_now Opening)
    unfolding due_in
    on_opening_lem e =
        let long : ℕ = w.sender.length in
        let short = i.begun.short session in
        let stands = standing w i u in
        let none : news ≡ 0 = rw e in
        answers (opening session long) (omega arith)
        (receiver_in_rule_lem w i, (refl, (i.between.ahead, (λ own. sym (same_length w i (sym own)), (seven, tt)))))
        (by_cond NewsOf (eqb session w.receiver.session) _ _
        (λ t.
        let own = sym (eqb-true session w.receiver.session t) in
        let few = i.between.limit own in
        let count : w.receiver.count ≡ news = omega arith in
        inl (ap₂ holds own count))
        (λ _. by_cond NewsOf (ltb (length w.buffer) long) _ _ (λ _. inr (refl, none))
        (λ _. inl (ap (holds session) (sym none)))))

    on_block_lem : (k : ℕ) → w.sender.phase ≡ Sending k → Answered (due_now (Sending k))
    unfolding due_in
    on_block_lem k e =
        let s : Sender = w.sender in
        let short = i.begun.short session in
        let known = known_in w i (Sending k) e in
        let stands = standing w i u in
        let one : news ≡ k + 1 = rw e in
        let few = i.between.limit known.2 in
        let same = same_length w i known.2 in
        let run = length_run cipher s.key s.pair session k (sound_of w) in
        let long = ap (λ (n : ℕ). size n k) (i.begun.same ∙ sym same) in
        answers (block_frame cipher s (sound_of w) k) (omega arith)
        (receiver_in_rule_lem w i, (refl, (sym known.2, (omega arith, (run ∙ long, (omega arith, (seven, tt)))))))
        (by_cond NewsOf (eqb k w.receiver.count) _ _ (λ _. inl (ap₂ holds known.2 (sym one)))
        (λ t.
        let other : k ≢ w.receiver.count = eqb-false k w.receiver.count t in
        let count : w.receiver.count ≡ news = omega arith in
        inl (ap₂ holds known.2 count)))

    answered : Answered (due_now w.sender.phase)
    answered = by_phase (λ p. Answered (due_now p)) w.sender.phase u on_opening_lem on_block_lem

  -- ---- and what the sender makes of it

  abbrev Heeded : Frame → Type 0
  Heeded f = (next : Sender) × (hearing w.sender (bytes f) ≡ agreed next) × Onward w.sender next

  heeds : (f : Frame) → Limits f → AllRight (hear_faults w.sender (it f))
      → Onward w.sender (informed w.sender (it f)) → Heeded f
  unfolding hearing
  heeds f limits right on = (informed w.sender (it f), rw (meant f refl limits) (sym (done_if _ _ _ right)), on)

  onward : Onward w.sender (informed w.sender (it (holds session news)))
  onward =
      rw (le-ltb news news (omega arith))
      (by_cond (λ (p : Phase). Onward w.sender (in_phase w.sender p)) (ltb news (blocks w.sender.length)) _ _
      (λ _. (refl, inl (refl, omega arith))) (λ _. (refl, inr (inl refl))))

  heeds_news : (f : Frame) → News f → Heeded f
  heeds_news f (inl e) =
      let short = i.begun.short session in
      let stands = standing w i u in
      subst Heeded (sym e)
      (heeds (holds session news) (omega arith) (sender_in_rule_lem w i, (refl, (u, (refl, (omega arith, tt))))) onward)
  heeds_news f (inr (e, none)) =
      let stands = standing w i u in
      subst Heeded (sym e)
      (heeds (too_long session) (omega arith) (sender_in_rule_lem w i, (refl, (u, (refl, (omega arith, tt)))))
      (refl, inr (inr refl)))

  -- ---- the round

  module _ {buffer : List ℕ} (r : Reach cipher key pair buffer w) (frame reply : List ℕ)
      (lent : Room cipher w frame reply) where
    abbrev due : List ℕ
    due = due_now w.sender.phase

    writes : send_call cipher w frame reply
        ≡ outcome (record { refusal = accepted; length = length due; sender = w.sender }) (placed frame 0 due)
    unfolding sending
    writes = sym (done_if _ _ _ (sender_in_rule_lem w i, (u, (i.begun.same, (lent.for_frame, tt)))))

    calls : (f : Frame) (next : Sender) → Says f (receiving cipher w.receiver w.buffer reply due)
        → hearing w.sender (bytes f) ≡ agreed next
        → ((send_call cipher w frame reply).answer.refusal ≡ accepted)
        × ((receive_call cipher w frame reply).answer.refusal ≡ accepted)
        × (hear_call cipher w frame reply ≡ agreed next)
    unfolding after_send after_receive
    calls f next said so =
        rw (writes, take_placed frame due lent.for_frame) (refl, said.0, ap (hearing w.sender) said.1 ∙ so)

    pub round : Well cipher w frame reply key pair buffer × Onward w.sender (after_round cipher w frame reply).sender
    unfolding after_round after_hear after_receive after_send
    round =
        let answer = answered reply (omega arith) in
        let next = heeds_news answer.0 answer.1 in
        let done = calls answer.0 next.0 answer.2 next.1 in
        let first = sends r (sound_of w) frame (λ _ _. refl) in
        let second = receives first (sent_frame (send_call cipher w frame reply)) reply (on_line _ _ w.up done.0) in
        let third = hears second (reply_frame (receive_call cipher w frame reply)) (on_line _ _ w.down done.1) in
        let heard = ap (λ (a : SenderAnswer). a.refusal) done.2 in (
          record { sent = done.0; received = done.1; heard = heard; first = first; second = second; third = third },
          subst (Onward w.sender) (sym (ap (λ (a : SenderAnswer). a.sender) done.2)) next.2,
        )
