-- How many bytes are due in each phase, and what a sender that isn't refused is doing.
use mathlib.Core.{Path.◌≡◌, Path.refl, Path.sym, Path.ap, Path.ap₂, Path.◌∙◌, Bool.true, Bool.false, List.List, List.[], List.◌∷◌}
use Prim.Native.Nat.{ℕ, ◌+◌, ◌<◌, ◌≤◌}
use native.Mathlib.Omega.{arith}
use borrow.Author.Tests.{le-leb, leb-true, ltb-true}
use lib.{Dec.leb, ListN.length}
use Rattle.std.specs.Prelude.{Option, Some, None, Ok, Err}
use Rattle.std.specs.Option.{is_some}
use Rattle.octets.specs.{Buffers.put, Rows.row, Stream.Cipher}
use Rattle.octets.proofs.Buffers.{put_placed}
use Rattle.refusals.specs.{Numbers.no_transfer, Outcome.outcome, Rules.AllRight, Answers.number_of}
use Rattle.refusals.specs.{declared.Refusal.Refusal, declared.Refusal.TheVariants.NoTransfer}
use Rattle.refusals.proofs.{Settled.done_if, Tests.and_first, Tests.and_second}
use Rattle.blocks.specs.{Blocks.longest, Blocks.blocks, Blocks.size, Blocks.block_of, Covering.covered}
use Rattle.blocks.proofs.Covering.{length_run}
use Rattle.frames.specs.Frames.{opening, bytes, some}
use Rattle.frames.proofs.FramesWritten.{length_short, short_opening, length_block}
use Rattle.sender.specs.{Rules.phase_in_rule, Rules.sender_in_rule, declared.Phase.Phase, declared.Sender.Sender}
use Rattle.sender.specs.Answers.{Sent, known_in, due_count, news}
use Rattle.sender.specs.Sender.{is_under_way, news_count, block_frame, due_in, send_faults, sending}
use Rattle.sender.specs.declared.Phase.TheVariants.{Idle, Opening, Sending, Done, Refused}

pub length_opening : (session sound : ℕ) → length (bytes (opening session sound)) ≡ 9
length_opening session sound = ap length (sym (short_opening session sound)) ∙ length_short 1 session 4 sound

pub length_block_frame : (cipher : Cipher) (s : Sender) (sound : List ℕ) (k : ℕ)
    → length (bytes (block_frame cipher s sound k)) ≡ 8 + size (length sound) k
length_block_frame cipher s sound k =
    length_block s.session k (covered cipher s.key s.pair s.session k (block_of sound k))
    ∙ ap (λ (n : ℕ). 8 + n) (length_run cipher s.key s.pair s.session k sound)

-- ---- the record in rule, test by test

module _ (s : Sender) {phase : Phase} (e : s.phase ≡ phase) where
  pub phase_rule : s.length ≤ longest → phase_in_rule s.session s.length phase ≡ sender_in_rule s
  unfolding sender_in_rule
  phase_rule short = rw (← e, le-leb s.length longest short)

-- ---- a transfer under way

-- the phase in which so many blocks are known
abbrev pub phase_of : Option ℕ → Phase
phase_of None = Opening
phase_of (Some known) = Sending known

pub none_under_way : (p : Phase) {refusal : Refusal} → known_in p ≡ Err refusal
    → (is_under_way p ≡ false) × (number_of refusal ≡ no_transfer)
none_under_way Idle {refusal} e = let this : refusal ≡ NoTransfer = cc in (refl, ap number_of this)
none_under_way Opening e = absurd cc
none_under_way (Sending known) e = absurd cc
none_under_way Done {refusal} e = let this : refusal ≡ NoTransfer = cc in (refl, ap number_of this)
none_under_way (Refused why) {refusal} e = let this : refusal ≡ NoTransfer = cc in (refl, ap number_of this)

pub one_under_way : (p : Phase) {known : Option ℕ} → known_in p ≡ Ok known
    → (is_under_way p ≡ true) × ((p ≡ phase_of known) × (news_count p ≡ news known))
one_under_way Idle e = absurd cc
one_under_way Opening {known} e = let same : None ≡ known = cc in (refl, (ap phase_of same, ap news same))
one_under_way (Sending k) {known} e = let same : Some k ≡ known = cc in (refl, (ap phase_of same, ap news same))
one_under_way Done e = absurd cc
one_under_way (Refused why) e = absurd cc

-- with a count known some count is news, and without one none
pub news_some : (known : Option ℕ) → true ≡ is_some known → 0 < news known
news_some None e = absurd cc
news_some (Some known) e = omega arith

pub news_none : (known : Option ℕ) → false ≡ is_some known → news known ≡ 0
news_none None e = refl
news_none (Some known) e = absurd cc

-- in rule, a count that would be news is at most that of all blocks
pub news_below : (s : Sender) → sender_in_rule s ≡ true → news_count s.phase ≤ blocks longest
unfolding sender_in_rule phase_in_rule
news_below s e =
    let short = leb-true s.length longest (and_first (leb s.length longest) _ e) in
    go s.phase (omega arith) (and_second (leb s.length longest) _ e)
  where
    go : (p : Phase) → s.length ≤ longest → phase_in_rule s.session s.length p ≡ true → news_count p ≤ blocks longest
    go Idle h r = omega arith
    go Opening h r = omega arith
    go (Sending known) h r =
        let below = ltb-true known (blocks s.length) (and_second (some s.session) _ r) in omega arith
    go Done h r = omega arith
    go (Refused why) h r = omega arith

-- how many bytes are due
pub length_due : (cipher : Cipher) (s : Sender) (sound : List ℕ) (known : Option ℕ) → s.phase ≡ phase_of known
    → length sound ≡ s.length → due_count s known ≡ length (due_in cipher s sound s.phase)
unfolding due_in
length_due cipher s sound None e same = rw e (sym (length_opening s.session s.length))
length_due cipher s sound (Some known) e same =
    rw e
    (ap (λ (n : ℕ). 8 + size n known) (sym same) ∙ sym (length_block_frame cipher s sound known))

pub due_opening : (cipher : Cipher) (s : Sender) (sound : List ℕ) → s.phase ≡ Opening
    → row (1 ∷ 4 ∷ 4 ∷ []) (1 ∷ s.session ∷ s.length ∷ []) ≡ due_in cipher s sound s.phase
unfolding due_in
due_opening cipher s sound e = rw e (short_opening s.session s.length)

pub due_block : (cipher : Cipher) (s : Sender) (sound : List ℕ) {known : ℕ} → s.phase ≡ Sending known
    → bytes (block_frame cipher s sound known) ≡ due_in cipher s sound s.phase
unfolding due_in
due_block cipher s sound e = rw e

-- what is due, written with room, is sent
pub sent_so : (cipher : Cipher) (s : Sender) (sound frame : List ℕ) {n : ℕ} {after : List ℕ}
    → let due = due_in cipher s sound s.phase in
    AllRight (send_faults s sound (length due) (length frame)) → n ≡ length due → after ≡ put frame 0 due
    → outcome {A = Sent} (record { refusal = 0; length = n; sender = s }) after ≡ sending cipher s sound frame
unfolding sending
sent_so cipher s sound frame right size written =
    ap₂ (λ (n : ℕ) (d : List ℕ). outcome {A = Sent} (record { refusal = 0; length = n; sender = s }) d) size
    (written ∙ put_placed frame 0 (due_in cipher s sound s.phase) (omega arith))
    ∙ done_if _ _ _ right
