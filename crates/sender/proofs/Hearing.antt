-- What a sender makes of a message, whatever frame it says: which rule is the first that is broken, or what was heard.
use mathlib.Core.Path.{◌≡◌, refl, sym, ap, ◌∙◌}
use mathlib.Core.Bool.{Bool, true, false, cond}
use mathlib.Core.List.{List}
use Rattle.std.specs.Prelude.{ℕ, Option, Some, None, Result, Ok, Err}
use borrow.Author.Tests.{eqb-true, eqb-false}
use lib.{Dec.eqb, ListN.drop}
use Rattle.refusals.specs.Numbers.{not_a_frame, impossible}
use Rattle.refusals.specs.Rules.{Right}
use Rattle.refusals.specs.{Answers.number_of, declared.Refusal.Refusal}
use Rattle.refusals.specs.declared.Refusal.TheVariants.{OtherSession}
use Rattle.refusals.proofs.Faults.{Broken}
use Rattle.refusals.proofs.Settled.{done_if, left_at}
use Rattle.frames.specs.Frames.{Heard, heard}
use Rattle.frames.specs.{Told.told, Told.heard_as, declared.Told.Told}
use Rattle.frames.proofs.FramesRead.{told_back}
use Rattle.sender.specs.Answers.{known_in, in_session, answered, news}
use Rattle.sender.specs.{Rules.sender_in_rule, declared.Sender.Sender}
use Rattle.sender.specs.Sender.{refused, agreed, is_under_way, for_sender, session_of, news_count, wrong_news}
use Rattle.sender.specs.Sender.{informed, hearing}
use Rattle.sender.proofs.Senders.{none_under_way, one_under_way}

-- what is known of a transfer under way that is asked for in its own session
record Known (s : Sender) (session : ℕ) (known : Option ℕ) : Type 0 where
  under_way : is_under_way s.phase ≡ true
  own : session ≡ s.session
  count : news_count s.phase ≡ news known

module _ (s : Sender) (session : ℕ) {known : Option ℕ} where
  in_its_session : {found : Option ℕ} (b : Bool) → eqb session s.session ≡ b → known_in s.phase ≡ Ok found
      → cond b (Ok found) (Err OtherSession) ≡ Ok known → Known s session known
  in_its_session {found} true same is e =
      let this : found ≡ known = cc in
      let one = one_under_way s.phase is in
      record { under_way = one.0; own = eqb-true _ _ same; count = one.1.1 ∙ ap news this }
  in_its_session false other is e = absurd cc

  known_so : (r : Result (Option ℕ) Refusal) → known_in s.phase ≡ r → in_session s session r ≡ Ok known
      → Known s session known
  known_so (Err refusal) is e = absurd cc
  known_so (Ok found) is e = in_its_session (eqb session s.session) refl is e

module _ (s : Sender) (m : List ℕ) (in_rule : true ≡ sender_in_rule s) {o : Option Told} (read : o ≡ told (heard m)) where
  right : sender_in_rule s ≡ true
  right = sym in_rule

  pub no_frame : o ≡ None → refused s not_a_frame ≡ hearing s m
  unfolding hearing
  no_frame none = rw (told_back m (sym none ∙ read)) (left_at _ _ _ 1 tt (right, refl))

  module _ {found same : Told} (some : o ≡ Some found) (is : found ≡ same) where
    -- what was told is what was heard, with a block's bytes
    abbrev h : Heard
    h = heard_as (drop 8 m) (Some same)

    said : heard m ≡ h
    said = told_back m (ap Some (sym is) ∙ sym some ∙ read)

    pub other_frame : for_sender h ≡ false → refused s not_a_frame ≡ hearing s m
    unfolding hearing
    other_frame other = rw said (left_at _ _ _ 1 tt (right, other))

    -- a frame for this end
    module _ (mine : for_sender h ≡ true) {r : Result (Option ℕ) Refusal} (answer : r ≡ answered s (session_of h)) where
      other_session : {refusal : Refusal} {found : Option ℕ} (b : Bool) → eqb (session_of h) s.session ≡ b
          → known_in s.phase ≡ Ok found → cond b (Ok found) (Err OtherSession) ≡ Err refusal
          → refused s (number_of refusal) ≡ hearing s m
      unfolding hearing
      other_session true same is e = absurd cc
      other_session {refusal} false other is e =
          let this : refusal ≡ OtherSession = cc in
          ap (λ (r : Refusal). refused s (number_of r)) this
          ∙ rw said (left_at _ _ _ 3 tt (right, (mine, ((one_under_way s.phase is).0, eqb-false _ _ other))))

      unanswered_so : {refusal : Refusal} (r : Result (Option ℕ) Refusal) → known_in s.phase ≡ r
          → in_session s (session_of h) r ≡ Err refusal → refused s (number_of refusal) ≡ hearing s m
      unfolding hearing
      unanswered_so (Err other) is e =
          let none = none_under_way s.phase (is ∙ e) in
          ap (refused s) none.1 ∙ rw said (left_at _ _ _ 2 tt (right, (mine, none.0)))
      unanswered_so (Ok found) is e = other_session (eqb (session_of h) s.session) refl is e

      pub unanswered : {refusal : Refusal} → r ≡ Err refusal → refused s (number_of refusal) ≡ hearing s m
      unanswered e = unanswered_so (known_in s.phase) refl (sym answer ∙ e)

      module _ {known : Option ℕ} (e : r ≡ Ok known) where
        known_lem : Known s (session_of h) known
        known_lem = known_so s (session_of h) (known_in s.phase) refl (sym answer ∙ e)

        pub wrong_answer : (news_count s.phase ≡ news known → Broken (wrong_news s.phase h)) → refused s impossible ≡ hearing s m
        unfolding hearing
        wrong_answer wrong =
            let k = known_lem in
            rw said (left_at _ _ _ 4 tt (right, (mine, (k.under_way, (k.own, wrong k.count)))))

        pub right_answer : {next : Sender}
            → (news_count s.phase ≡ news known → Right (wrong_news s.phase h) × (next ≡ informed s h)) → agreed next ≡ hearing s m
        unfolding hearing
        right_answer good =
            let k = known_lem in
            let so = good k.count in
            ap agreed so.1 ∙ rw said (done_if _ _ _ (right, (mine, (k.under_way, (k.own, (so.0, tt))))))
