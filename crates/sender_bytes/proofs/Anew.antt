-- A call that hands back a sender: refused, the bytes are as they were; otherwise the new record is written over the
-- old one, which has the same length since only bytes that are a sender are in rule.
use mathlib.Core.{Path.◌≡◌, Path.refl, Path.sym, Path.ap, Path.subst, Path.◌∙◌, Bool.true, List.List}
use Rattle.std.specs.Prelude.{ℕ, Result, Ok, Err}
use lib.{Dec.T, ListN.length}
use Rattle.octets.specs.Buffers.{put}
use Rattle.octets.proofs.Buffers.{put_whole}
use Rattle.refusals.specs.{Numbers.accepted, Outcome.outcome, Rules.Fault, Rules.AllRight, Rules.settled}
use Rattle.refusals.specs.{Answers.number_of, declared.Refusal.Refusal}
use Rattle.refusals.proofs.{Answers.never_accepted, Faults.numbered, Faults.none_wrong}
use Rattle.refusals.proofs.Settled.{answer_number, over_refused, over_done}
use Rattle.names.specs.Naming.{key_bytes, pair_bytes}
use Rattle.sender.specs.{Rules.sender_in_rule, Sender.agreed, Sender.refused, declared.Sender.Sender}
use Rattle.sender.specs.Answers.{SenderAnswer, answer_of}
use Rattle.sender_record.specs.Record.{sender_bytes, sender_in}
use Rattle.sender_record.proofs.Record.{length_sender, in_rule_size}

module _ (sender : List ℕ) (call : Sender → SenderAnswer) (faults : List Fault) (next : Sender)
    (settles : call (sender_in sender) ≡ settled faults (agreed next) (refused (sender_in sender)))
    {s : Sender} (read : s ≡ sender_in sender) {result : Result Sender Refusal} (e : answer_of s result ≡ call s) where
  -- the call's answer, for the record that the bytes are
  own : {r : Result Sender Refusal} → result ≡ r
      → answer_of (sender_in sender) r ≡ settled faults (agreed next) (refused (sender_in sender))
  own is =
      ap (answer_of (sender_in sender)) (sym is)
      ∙ subst (λ (s : Sender). answer_of s result ≡ call s) read e
      ∙ settles

  pub as_it_was : {refusal : Refusal} → result ≡ Err refusal
      → outcome (number_of refusal) sender ≡ settled faults (outcome accepted (sender_bytes next)) (λ n. outcome n sender)
  as_it_was {refusal} is =
      over_refused faults _ _ (λ (x : SenderAnswer). x.refusal) refl (λ n. refl) (own is)
      (λ x. outcome accepted (sender_bytes x.sender)) _ (never_accepted refusal)

  pub anew : T (numbered faults) → (AllRight faults → sender_in_rule (sender_in sender) ≡ true) → {made : Sender}
      → result ≡ Ok made → length made.key ≡ key_bytes → length made.pair ≡ pair_bytes → {after : List ℕ}
      → after ≡ put sender 0 (sender_bytes made)
      → outcome accepted after ≡ settled faults (outcome accepted (sender_bytes next)) (λ n. outcome n sender)
  anew numbers rule {made} is key pair written =
      let right =
      none_wrong faults numbers (sym (answer_number _ _ _ (λ (x : SenderAnswer). x.refusal) refl (λ n. refl) (own is))) in
      let long = length_sender made key pair ∙ sym (in_rule_size sender (rule right)) in
      ap (outcome accepted) (written ∙ put_whole sender (sender_bytes made) long)
      ∙ over_done faults _ _ (λ (x : SenderAnswer). x.refusal) refl (λ n. refl) (own is)
      (λ x. outcome accepted (sender_bytes x.sender)) _ refl
