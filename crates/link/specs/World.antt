-- The world of demand 3, on one page: one sender and one receiver, the line between them, and all that can happen.
use mathlib.Core.{Path.◌≡◌, Logic.◌⊎◌, Bool.true, Bool.cond, Bool.◌&&◌, List.List, List.[], List.◌∷◌, List.Memᴰ}
use Rattle.std.specs.Prelude.{ℕ, ◌-◌, min}
use lib.{Dec.eqb, ListN.length, ListN.take}
use Rattle.octets.specs.Stream.{Cipher}
use Rattle.refusals.specs.{Numbers.accepted, Outcome.Outcome}
use Rattle.blocks.specs.Blocks.{blocks, place}
use Rattle.names.specs.Naming.{key_bytes, pair_bytes}
use Rattle.receiver.specs.{Receiver.Received, Receiver.making_receiver, Receiver.receiving, declared.Receiver.Receiver}
use Rattle.sender.specs.{declared.Phase.TheVariants.Opening, declared.Phase.TheVariants.Sending}
use Rattle.sender.specs.{declared.Sender.Sender, Answers.SenderAnswer, Answers.Sent}
use Rattle.sender.specs.Sender.{is_under_way, making_sender, beginning, sending, hearing}

pub record World : Type 0 where
  pub sender : Sender
  pub receiver : Receiver
  -- the receiver's one buffer
  pub buffer : List ℕ
  -- every frame ever written by the sender, and every frame ever written by the receiver
  pub up : List (List ℕ)
  pub down : List (List ℕ)
  -- the sound begun under each session number
  pub sound : ℕ → List ℕ

abbrev pub world : Sender → Receiver → List ℕ → List (List ℕ) → List (List ℕ) → (ℕ → List ℕ) → World
world sender receiver buffer up down sound =
    record { sender = sender; receiver = receiver; buffer = buffer; up = up; down = down; sound = sound }

-- both ends are made fresh, and nothing is on the line
unfoldable pub fresh : List ℕ → List ℕ → List ℕ → World
fresh key pair buffer =
    world (making_sender key pair).sender (making_receiver key pair).receiver buffer [] [] (λ session. [])

-- ---- the moment after a call, by what the call came to

-- a call that isn't refused puts the frame that it wrote on the line
abbrev pub more : ℕ → List ℕ → List (List ℕ) → List (List ℕ)
more refusal frame line = cond (eqb refusal accepted) (frame ∷ line) line

abbrev pub sent_frame : Outcome Sent ℕ → List ℕ
sent_frame o = take o.answer.length o.buffer

abbrev pub reply_frame : Received → List ℕ
reply_frame o = take o.answer.length o.reply

-- the sender's calls leave the receiver, its buffer and its frames alone
abbrev pub by_sender : World → Sender → List (List ℕ) → (ℕ → List ℕ) → World
by_sender w sender up sound = world sender w.receiver w.buffer up w.down sound

abbrev pub with_begun : World → List ℕ → SenderAnswer → World
with_begun w new a =
    by_sender w a.sender w.up
    (λ session. cond (eqb a.refusal accepted && eqb session a.sender.session) new (w.sound session))

abbrev pub with_sent : World → Outcome Sent ℕ → World
with_sent w o = by_sender w o.answer.sender (more o.answer.refusal (sent_frame o) w.up) w.sound

abbrev pub with_heard : World → SenderAnswer → World
with_heard w a = by_sender w a.sender w.up w.sound

abbrev pub with_received : World → Received → World
with_received w o =
    world w.sender o.answer.receiver o.sound w.up (more o.answer.refusal (reply_frame o) w.down)
    w.sound

-- ---- all that can happen

-- a sound is begun, over whatever was under way
unfoldable pub after_begin : List ℕ → World → World
after_begin sound w = with_begun w sound (beginning w.sender sound)

-- the sender is asked to send, with a sound and room for the frame lent
unfoldable pub after_send : Cipher → List ℕ → List ℕ → World → World
after_send cipher sound frame w = with_sent w (sending cipher w.sender sound frame)

-- the receiver hears a frame, with room for its answer lent
unfoldable pub after_receive : Cipher → List ℕ → List ℕ → World → World
after_receive cipher frame reply w = with_received w (receiving cipher w.receiver w.buffer reply frame)

-- the sender hears a frame
unfoldable pub after_hear : List ℕ → World → World
after_hear frame w = with_heard w (hearing w.sender frame)

-- The moments that can come about. The line delivers any frame that was ever put on it, at any time, any number of
-- times or never. While a transfer is under way, a lent sound of the length begun is the sound begun, not altered while
-- sent; all other sendings are refused.
pub data Reach (cipher : Cipher) (key pair buffer : List ℕ) : World → Type 0 where
  start : length key ≡ key_bytes → length pair ≡ pair_bytes → Reach cipher key pair buffer (fresh key pair buffer)
  begins : {w : World} → Reach cipher key pair buffer w → (sound : List ℕ)
      → Reach cipher key pair buffer (after_begin sound w)
  sends : {w : World} → Reach cipher key pair buffer w → (sound frame : List ℕ)
      → (is_under_way w.sender.phase ≡ true → length sound ≡ w.sender.length → sound ≡ w.sound w.sender.session)
      → Reach cipher key pair buffer (after_send cipher sound frame w)
  receives : {w : World} → Reach cipher key pair buffer w → (frame reply : List ℕ) → Memᴰ frame w.up
      → Reach cipher key pair buffer (after_receive cipher frame reply w)
  hears : {w : World} → Reach cipher key pair buffer w → (frame : List ℕ) → Memᴰ frame w.down
      → Reach cipher key pair buffer (after_hear frame w)

-- how many bytes of a sound of this length the blocks counted as held are
abbrev pub held_bytes : ℕ → ℕ → ℕ
held_bytes length count = min (place count) length

-- a transfer is under way, with n blocks not yet known to be held
abbrev pub UnderWay : Sender → ℕ → Type 0
UnderWay s n =
    ((s.phase ≡ Opening) × (n ≡ blocks s.length))
    ⊎ ((known : ℕ) × (s.phase ≡ Sending known) × (n ≡ blocks s.length - known))
