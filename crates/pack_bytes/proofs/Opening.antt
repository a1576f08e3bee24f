-- How the rules of opening on bytes come out: those of the file decide before any room, and both rooms have the same
-- number.
use mathlib.Core.{Path.◌≡◌, Path.refl, Path.sym, Path.ap, Path.◌∙◌}
use mathlib.Core.{List.List, List.[], List.◌∷◌, List.◌++◌, Logic.◌≢◌, Logic.◌⊎◌, Logic.inl, Logic.inr}
use Prim.Native.Nat.{ℕ, ◌<◌, ◌≤◌}
use native.Mathlib.Omega.{arith}
use lib.{Dec.T, ListN.length}
use Rattle.octets.specs.{Buffers.placed, Buffers.put, Stream.Cipher}
use Rattle.octets.proofs.Buffers.{put_placed}
use Rattle.refusals.specs.{Numbers.accepted, Numbers.no_room, Outcome.Outcome, Outcome.outcome}
use Rattle.refusals.specs.Rules.{◌under◌, Fault, ◌says◌, first, settled}
use Rattle.refusals.proofs.Faults.{numbered, all_right, refused_at, rule_passes}
use Rattle.refusals.proofs.Settled.{settled_done, settled_left, first_here, first_later}
use Rattle.refusals.proofs.Settled.{answer_number, answer_done, answer_left}
use Rattle.pack.specs.{Calls.refused_opening, Answers.Opened}
use Rattle.pack.specs.Faults.{faults_from_samples, faults_from_key, file_faults, keyed_faults, open_faults}
use Rattle.rings.specs.Ring.{keys_bytes}
use Rattle.survey_bytes.specs.Calls.{answer_numbers, numbers_room}
use Rattle.pack_bytes.specs.Calls.{keys_fault, pack_opened, bytes_faults, bytes_opening}

-- ---- whatever a file is opened as: by the rules `opens`, `told` is answered and `done` is what `output` comes to

module _ {A : Type 0} (keys : List ℕ) (right : length keys ≡ keys_bytes) (opens : List Fault)
    (no_zero : T (numbered opens)) (told : Opened) (done output : List A) (answer : List ℕ) where
  abbrev rest : List Fault
  rest = (length answer under numbers_room says no_room) ∷ []

  -- a rule of opening that is broken
  pub refused_by : (n : ℕ) → n ≢ accepted → n ≡ first opens
      → pack_opened output answer n ≡ bytes_opening keys opens told done output answer
  refused_by n h e =
      settled_left (bytes_faults keys opens (length answer)) _ (pack_opened output answer) n h
      (first_here opens rest no_zero n h e ∙ rule_passes (keys_fault keys) (opens ++ rest) right)

  -- with too little room for the answer the other room no longer counts
  pub no_answer : length answer < numbers_room → (first opens ≡ accepted) ⊎ (first opens ≡ no_room)
      → pack_opened output answer no_room ≡ bytes_opening keys opens told done output answer
  no_answer short (inl e) =
      settled_left (bytes_faults keys opens (length answer)) _ (pack_opened output answer) no_room (omega arith)
      (refused_at 0 rest short ∙ first_later opens rest no_zero (sym e)
      ∙ rule_passes (keys_fault keys) (opens ++ rest) right)
  no_answer short (inr e) = refused_by no_room (omega arith) (sym e)

  -- what the opener came to
  module _ (accepts : told.refusal ≡ accepted) {o : Opened} {out : List A} (lacks : ℕ)
      (own : outcome o out ≡ settled opens (outcome told done) (λ n. outcome (refused_opening lacks n) output)) where
    number : o.refusal ≡ first opens
    number = answer_number _ _ _ (λ (x : Outcome Opened A). x.answer.refusal) accepts (λ m. refl) own

    pub refused_so_lem : o.refusal ≢ accepted
        → pack_opened out answer o.refusal ≡ bytes_opening keys opens told done output answer
    refused_so_lem h =
        ap (λ (x : Outcome Opened A). pack_opened x.buffer answer o.refusal)
        (answer_left _ _ _ (λ (x : Outcome Opened A). x.answer.refusal) accepts (λ m. refl) own h)
        ∙ refused_by o.refusal h number

    pub opened_so : {numbers : List ℕ} → o.refusal ≡ accepted → numbers_room ≤ length answer
        → numbers ≡ put answer 0 (answer_numbers o)
        → pack_opened out numbers accepted ≡ bytes_opening keys opens told done output answer
    opened_so z room e =
        ap (λ (l : List ℕ). pack_opened out l accepted) (e ∙ put_placed answer 0 (answer_numbers o) room)
        ∙ ap (λ (x : Outcome Opened A). pack_opened x.buffer (placed answer 0 (answer_numbers x.answer)) accepted)
        (answer_done _ _ _ (λ (x : Outcome Opened A). x.answer.refusal) accepts (λ m. refl) own z)
        ∙ settled_done (bytes_faults keys opens (length answer)) _ (pack_opened output answer)
        (all_right rest (room, tt) ∙ first_later opens rest no_zero (sym z ∙ number)
        ∙ rule_passes (keys_fault keys) (opens ++ rest) right)

-- ---- opened as samples

-- no rule of opening has the number of a call that isn't refused
pub numbered_open : (cipher : Cipher) (ring : List (List ℕ)) (file : List ℕ) (room : ℕ)
    → T (numbered (open_faults cipher ring file room))
unfolding open_faults keyed_faults file_faults faults_from_key faults_from_samples
numbered_open cipher ring file room = tt
