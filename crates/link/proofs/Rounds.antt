-- At most n + 1 rounds: each undisturbed round makes one block more news, and past the last one the transfer is over.
use mathlib.Core.{Bool.true, List.List}
use mathlib.Core.Path.{◌≡◌, refl, sym, ap, subst, ◌∙◌}
use mathlib.Core.Logic.{◌⊎◌, inl, inr, ⊎_elim}
use Prim.Native.Nat.{ℕ, zero, suc, ◌+◌, ◌-◌, ◌≤◌, ◌<◌}
use native.Mathlib.{Decide.dec_lt, Omega.arith}
use lib.ListN.{length}
use Rattle.octets.specs.Stream.{Cipher}
use Rattle.blocks.specs.Blocks.{blocks}
use Rattle.sender.specs.{Sender.is_under_way, Sender.news_count, declared.Phase.TheVariants.Done}
use Rattle.sender.specs.{declared.Phase.TheVariants.Refused, declared.Reason.TheVariants.TooLong}
use Rattle.link.specs.Demand3.{sound_of, after_round, Room, Well, rounds, Over}
use Rattle.link.specs.World.{World, after_send, after_receive, after_hear, Reach, UnderWay}
use Rattle.link.proofs.{Moments.holds_at, Round.Stands, Round.round}
use Rattle.link.proofs.Invariant.{known_in, same_length, standing}

module _ (cipher : Cipher) (key pair buffer : List ℕ) (w : World) (n : ℕ) (frame reply : ℕ → List ℕ) where
  abbrev after : ℕ → World
  after m = rounds cipher frame reply m w

  abbrev WellAt : ℕ → Type 0
  WellAt m = Well cipher (after m) (frame m) (reply m) key pair buffer

  abbrev End : Type 0
  End =
      (m : ℕ) × (m ≤ n + 1) × ((j : ℕ) → j < m → WellAt j) × Reach cipher key pair buffer (after m) × Over w (after m)

  -- after m rounds this count at least would be news: all blocks but n, and one more for each round
  abbrev news_by : ℕ → ℕ
  news_by m = m + blocks (length (sound_of w)) - n

  -- after m rounds that went well
  record So (m : ℕ) : Type 0 where
    at : Reach cipher key pair buffer (after m)
    stands : Stands (news_by m) (after m).sender.phase
    same_session : (after m).sender.session ≡ w.sender.session
    same_sound : (after m).sound ≡ w.sound
    early : m ≤ n + 1
    wells : (j : ℕ) → j < m → WellAt j

  module _ (r : Reach cipher key pair buffer w)
      (room : (m : ℕ) → m ≤ n → Room cipher (after m) (frame m) (reply m)) where
    begun_length : (m : ℕ) → So m → length (sound_of w) ≡ (after m).sender.length
    begun_length m so =
        (λ j. length (sym so.same_sound j (sym so.same_session j))) ∙ (holds_at so.at).begun.same

    ends_done : (m : ℕ) → So m → (after m).sender.phase ≡ Done → End
    ends_done m so e =
        let i = holds_at so.at in
        let known = known_in (after m) i Done e in
        let same = same_length (after m) i known.1 in
        let long = begun_length m so in
        let whole = (holds_at r).held.whole in
        let over : Over w (after m) =
        record {
          same_session = so.same_session;
          same_sounds = so.same_sound;
          done = λ _. e;
          refused = λ short. absurd (omega arith);
        } in
        (m, so.early, so.wells, so.at, over)

    ends_refused : (m : ℕ) → So m → (after m).sender.phase ≡ Refused TooLong → End
    ends_refused m so e =
        let known = known_in (after m) (holds_at so.at) (Refused TooLong) e in
        let long = begun_length m so in
        let whole = (holds_at r).held.whole in
        let over : Over w (after m) =
        record {
          same_session = so.same_session;
          same_sounds = so.same_sound;
          done = λ fits. absurd (omega arith);
          refused = λ _. e;
        } in
        (m, so.early, so.wells, so.at, over)

    one_more_well : (m : ℕ) → So m → WellAt m → (j : ℕ) → j < suc m → Dec (j < m) → WellAt j
    one_more_well m so well j h (yes before) = so.wells j before
    one_more_well m so well j h (no not) = let same : m ≡ j = omega arith in subst WellAt same well

    -- the round after those goes well too, while the transfer is under way
    steps : (m : ℕ) → So m → is_under_way (after m).sender.phase ≡ true → news_by m ≤ news_count (after m).sender.phase
        → So (suc m) × (m ≤ n)
    unfolding rounds after_round after_hear after_receive after_send
    steps m so u news =
        let i = holds_at so.at in
        let few = standing (after m) i u in
        let long = ap blocks (begun_length m so) in
        let early : m ≤ n = omega arith in
        let done = round (after m) i u so.at (frame m) (reply m) (room m early) in
        let next : So (suc m) =
        record {
          at = done.0.third;
          stands = ⊎_elim (λ now. inl (now.0, omega arith)) (λ over. inr over) done.1.1;
          same_session = done.1.0 ∙ so.same_session;
          same_sound = so.same_sound;
          early = omega arith;
          wells = λ j h. one_more_well m so done.0 j h (dec_lt j m);
        } in
        (next, early)

    next : (m : ℕ) → So m → End ⊎ (So (suc m) × (m ≤ n))
    next m so =
        ⊎_elim (λ now. inr (steps m so now.0 now.1))
        (λ over. inl (⊎_elim (ends_done m so) (ends_refused m so) over)) so.stands

    within : (fuel m : ℕ) → So m → n < fuel + m → End
    within zero m so h = ⊎_elim (λ end. end) (λ step. absurd (omega arith)) (next m so)
    within (suc fuel) m so h = ⊎_elim (λ end. end) (λ step. within fuel (suc m) step.0 (omega arith)) (next m so)

    starts : UnderWay w.sender n → Stands (news_by 0) w.sender.phase
    starts u =
        let long = ap blocks (holds_at r).begun.same in
        ⊎_elim (λ o. inl (ap is_under_way o.0, rw o.0 (omega arith)))
        (λ s. inl (ap is_under_way s.1, rw s.1 (omega arith))) u

    pub ends : UnderWay w.sender n → End
    unfolding rounds
    ends u =
        let none : (j : ℕ) → j < 0 → WellAt j = λ j h. absurd (omega arith) in
        let so : So 0 =
        record { at = r; stands = starts u; same_session = refl; same_sound = refl; early = omega arith; wells = none } in
        within (n + 1) 0 so (omega arith)
