-- What each public call of a sender owes, for every input: its rules in order, what it does, what a refusal leaves.
use Rattle.std.specs.Prelude.{ℕ, ◌+◌}
use mathlib.Core.{Bool.Bool, Bool.true, Bool.false, Bool.cond, List.List, List.[], List.◌∷◌}
use lib.{Dec.ltb, ListN.length}
use Rattle.octets.specs.{Buffers.placed, Stream.Cipher}
use Rattle.refusals.specs.Numbers.{accepted, no_room, no_session, long_sound, no_transfer, wrong_sound, not_a_frame}
use Rattle.refusals.specs.Numbers.{other_session, impossible, out_of_rule}
use Rattle.refusals.specs.Outcome.{Outcome, outcome}
use Rattle.refusals.specs.Rules.{Wrong, ◌over◌, ◌unlike◌, unless, Fault, ◌says◌, settled}
use Rattle.blocks.specs.{Blocks.longest, Blocks.blocks, Blocks.block_of, Covering.covered}
use Rattle.names.specs.Naming.{name_faults, no_key, no_pair}
use Rattle.frames.specs.Frames.{Frame, opening, block, holds, too_long, bytes, Heard, it, no_frame, heard}
use Rattle.sender.specs.{Rules.sender_in_rule, declared.Phase.Phase, declared.Reason.TheVariants.TooLong}
use Rattle.sender.specs.{declared.Sender.Sender, Answers.SenderAnswer, Answers.Sent}
use Rattle.sender.specs.declared.Phase.TheVariants.{Idle, Opening, Sending, Done, Refused}

-- a fresh sender is idle
abbrev pub fresh_sender : List ℕ → List ℕ → Sender
fresh_sender key pair = record { key = key; pair = pair; session = 0; length = 0; phase = Idle }

-- the same sender in another phase
abbrev pub in_phase : Sender → Phase → Sender
in_phase s phase = record { key = s.key; pair = s.pair; session = s.session; length = s.length; phase = phase }

-- a refusal hands back the record as given
abbrev pub refused : Sender → ℕ → SenderAnswer
refused s number = record { refusal = number; sender = s }

abbrev pub agreed : Sender → SenderAnswer
agreed s = record { refusal = accepted; sender = s }

-- whether a transfer is under way
abbrev pub is_under_way : Phase → Bool
is_under_way Idle = false
is_under_way Opening = true
is_under_way (Sending known) = true
is_under_way Done = false
is_under_way (Refused why) = false

-- ---- making: the names' refusals; a refused making is idle and has only zeros to give

unfoldable pub making_sender : List ℕ → List ℕ → SenderAnswer
making_sender key pair =
    settled (name_faults key pair) (agreed (fresh_sender key pair)) (refused (fresh_sender no_key no_pair))

-- ---- beginning

abbrev pub last_session : ℕ
last_session = 4294967295

abbrev pub begin_faults : Sender → List ℕ → List Fault
begin_faults s sound =
    (unless (sender_in_rule s) says out_of_rule)
    ∷ (length sound over longest says long_sound)
    ∷ (s.session + 1 over last_session says no_session)
    ∷ []

-- the next session is the last plus one
abbrev pub begun : Sender → List ℕ → Sender
begun s lent = record { key = s.key; pair = s.pair; session = s.session + 1; length = length lent; phase = Opening }

unfoldable pub beginning : Sender → List ℕ → SenderAnswer
beginning s sound = settled (begin_faults s sound) (agreed (begun s sound)) (refused s)

-- ---- sending: the record doesn't change

-- the block's bytes come from the key, the pair name, the session and the block number alone
abbrev pub block_frame : Cipher → Sender → List ℕ → ℕ → Frame
block_frame cipher s sound k = block s.session k (covered cipher s.key s.pair s.session k (block_of sound k))

-- the bytes that are due: the opening frame, or block number "known"
unfoldable pub due_in : Cipher → Sender → List ℕ → Phase → List ℕ
due_in cipher s sound Idle = []
due_in cipher s sound Opening = bytes (opening s.session s.length)
due_in cipher s sound (Sending known) = bytes (block_frame cipher s sound known)
due_in cipher s sound Done = []
due_in cipher s sound (Refused why) = []

-- `due` is how many bytes are due, and `room` how many are lent for them
abbrev pub send_faults : Sender → List ℕ → ℕ → ℕ → List Fault
send_faults s sound due room =
    (unless (sender_in_rule s) says out_of_rule)
    ∷ (unless (is_under_way s.phase) says no_transfer)
    ∷ (length sound unlike s.length says wrong_sound)
    ∷ (due over room says no_room)
    ∷ []

unfoldable pub sending : Cipher → Sender → List ℕ → List ℕ → Outcome Sent ℕ
sending cipher s sound frame =
    let due = due_in cipher s sound s.phase in
    settled (send_faults s sound (length due) (length frame))
    (outcome (record { refusal = accepted; length = length due; sender = s }) (placed frame 0 due))
    (λ number. outcome (record { refusal = number; length = 0; sender = s }) frame)

-- ---- hearing: Holds and Too long are the frames for this end

abbrev pub for_sender : Heard → Bool
for_sender no_frame = false
for_sender (it (opening session sound)) = false
for_sender (it (block session k run)) = false
for_sender (it (holds session held)) = true
for_sender (it (too_long session)) = true

abbrev pub session_of : Heard → ℕ
session_of no_frame = 0
session_of (it (opening session sound)) = session
session_of (it (block session k run)) = session
session_of (it (holds session held)) = session
session_of (it (too_long session)) = session

-- the count of blocks that would be news: 0 while opening, one more than known while sending
abbrev pub news_count : Phase → ℕ
news_count Idle = 0
news_count Opening = 0
news_count (Sending known) = known + 1
news_count Done = 0
news_count (Refused why) = 0

-- what can't be: Holds over the count that would be news, and Too long where blocks were held already
abbrev pub wrong_news : Phase → Heard → Wrong
wrong_news phase no_frame = unless true
wrong_news phase (it (opening session sound)) = unless true
wrong_news phase (it (block session k run)) = unless true
wrong_news phase (it (holds session held)) = held over news_count phase
wrong_news phase (it (too_long session)) = news_count phase over 0

abbrev pub hear_faults : Sender → Heard → List Fault
hear_faults s h =
    (unless (sender_in_rule s) says out_of_rule)
    ∷ (unless (for_sender h) says not_a_frame)
    ∷ (unless (is_under_way s.phase) says no_transfer)
    ∷ (session_of h unlike s.session says other_session)
    ∷ (wrong_news s.phase h says impossible)
    ∷ []

-- known to be held: so many blocks, or all of them
abbrev pub knowing : Sender → ℕ → Sender
knowing s count = in_phase s (cond (ltb count (blocks s.length)) (Sending count) Done)

-- Holds of the new count is news, and less is old news
abbrev pub on_holds : Sender → ℕ → Sender
on_holds s held = cond (ltb held (news_count s.phase)) s (knowing s held)

abbrev pub informed : Sender → Heard → Sender
informed s no_frame = s
informed s (it (opening session sound)) = s
informed s (it (block session k run)) = s
informed s (it (holds session held)) = on_holds s held
informed s (it (too_long session)) = in_phase s (Refused TooLong)

unfoldable pub hearing : Sender → List ℕ → SenderAnswer
hearing s frame = let h = heard frame in settled (hear_faults s h) (agreed (informed s h)) (refused s)
