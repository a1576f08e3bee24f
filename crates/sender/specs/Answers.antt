-- What document 01 has a sender's calls answer: a number, 0 where the call isn't refused, the record and, of a sending,
-- the frame's length. The code answers an Ok or an Err; here is what either stands for.
use Rattle.std.specs.Prelude.{ℕ, ◌+◌, Option, Some, None, Result, Ok, Err, if◌then◌else◌, ◌==◌}
use Rattle.refusals.specs.{Numbers.accepted, Answers.number_of, declared.Refusal.Refusal}
use Rattle.refusals.specs.declared.Refusal.TheVariants.{NoTransfer, OtherSession}
use Rattle.blocks.specs.Blocks.{size}
use Rattle.sender.specs.{declared.Phase.Phase, declared.Sender.Sender}
use Rattle.sender.specs.declared.Phase.TheVariants.{Idle, Opening, Sending, Done, Refused}

pub record SenderAnswer : Type 0 where
  pub refusal : ℕ
  pub sender : Sender

pub record Sent : Type 0 where
  pub refusal : ℕ
  pub length : ℕ
  pub sender : Sender

-- a refused call hands back this record
abbrev pub answer_of : Sender → Result Sender Refusal → SenderAnswer
answer_of left (Ok next) = record { refusal = accepted; sender = next }
answer_of left (Err refusal) = record { refusal = number_of refusal; sender = left }

-- a sending doesn't change the record
abbrev pub sent_of : Sender → Result ℕ Refusal → Sent
sent_of s (Ok length) = record { refusal = accepted; length = length; sender = s }
sent_of s (Err refusal) = record { refusal = number_of refusal; length = 0; sender = s }

-- ---- inside: the transfer under way

-- the count that is known: none yet while it opens
abbrev pub known_in : Phase → Result (Option ℕ) Refusal
known_in Idle = Err NoTransfer
known_in Opening = Ok None
known_in (Sending known) = Ok (Some known)
known_in Done = Err NoTransfer
known_in (Refused why) = Err NoTransfer

-- and only in its own session
abbrev pub in_session : Sender → ℕ → Result (Option ℕ) Refusal → Result (Option ℕ) Refusal
in_session s session (Ok known) = if session == s.session then Ok known else Err OtherSession
in_session s session (Err refusal) = Err refusal

abbrev pub answered : Sender → ℕ → Result (Option ℕ) Refusal
answered s session = in_session s session (known_in s.phase)

-- how many bytes the next frame has
abbrev pub due_count : Sender → Option ℕ → ℕ
due_count s None = 9
due_count s (Some known) = 8 + size s.length known

-- the count that would be news
abbrev pub news : Option ℕ → ℕ
news None = 0
news (Some known) = known + 1
