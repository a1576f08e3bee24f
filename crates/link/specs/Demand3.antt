-- Demand 3 in full, whatever the cipher: an undisturbed round and how rounds end; then what holds at every moment that
-- can come about in the world of World.antt.
use mathlib.Core.{Path.◌≡◌, Logic.◌≢◌, Bool.true, List.List, List.Memᴰ}
use Rattle.std.specs.Prelude.{ℕ, zero, suc, ◌+◌, ◌≤◌, ◌<◌, length, take}
use Rattle.octets.specs.Stream.{Cipher}
use Rattle.refusals.specs.Numbers.{accepted, wrong_sound, not_a_frame, impossible, out_of_rule, other_length}
use Rattle.refusals.specs.Outcome.{Outcome}
use Rattle.blocks.specs.Blocks.{blocks}
use Rattle.frames.specs.Frames.{too_long, bytes}
use Rattle.receiver.specs.{Receiver.answer_room, Receiver.Received, Receiver.receiving, Rules.receiver_in_rule}
use Rattle.sender.specs.{Rules.sender_in_rule, declared.Phase.TheVariants.Done, declared.Phase.TheVariants.Refused}
use Rattle.sender.specs.{declared.Reason.TheVariants.TooLong, Answers.SenderAnswer, Answers.Sent}
use Rattle.sender.specs.Sender.{beginning, due_in, sending, hearing}
use Rattle.link.specs.World.{World, sent_frame, reply_frame, after_begin, after_send, after_receive, after_hear}
use Rattle.link.specs.World.{Reach, held_bytes, UnderWay}

-- no frame off the line is refused as no frame for this end or as one that can't be, nor for a record out of rule, nor
-- as an opening of the session in hand that isn't the same again
pub record Possible (number : ℕ) : Type 0 where
  pub a_frame : number ≢ not_a_frame
  pub can_be : number ≢ impossible
  pub is_in_rule : number ≢ out_of_rule
  pub same_length : number ≢ other_length

-- at the receiver, moreover, its one buffer is never short for the transfer
abbrev pub Fitting : ℕ → Type 0
Fitting number = Possible number × (number ≢ wrong_sound)

-- the sound begun last
abbrev pub sound_of : World → List ℕ
sound_of w = w.sound w.sender.session

-- An undisturbed round, with rooms lent for the frame and for the answer: the sender sends once, the frame is heard,
-- the answer is heard. What each call comes to, and the moment after it.
module _ (cipher : Cipher) (w : World) (frame reply : List ℕ) where
  abbrev pub send_call : Outcome Sent ℕ
  send_call = sending cipher w.sender (sound_of w) frame

  abbrev pub once_sent : World
  once_sent = after_send cipher (sound_of w) frame w

  abbrev pub receive_call : Received
  receive_call = receiving cipher once_sent.receiver once_sent.buffer reply (sent_frame send_call)

  abbrev pub once_answered : World
  once_answered = after_receive cipher (sent_frame send_call) reply once_sent

  abbrev pub hear_call : SenderAnswer
  hear_call = hearing once_answered.sender (reply_frame receive_call)

  unfoldable pub after_round : World
  after_round = after_hear (reply_frame receive_call) once_answered

  -- room for the frame at the sender is its length, and at the receiver room for any answer
  pub record Room : Type 0 where
    pub for_frame : length (due_in cipher w.sender (sound_of w) w.sender.phase) ≤ length frame
    pub for_answer : answer_room ≤ length reply

  -- a round goes well: none of its three calls is refused, and every moment of it can come about
  pub record Well (key pair buffer : List ℕ) : Type 0 where
    pub sent : send_call.answer.refusal ≡ accepted
    pub received : receive_call.answer.refusal ≡ accepted
    pub heard : hear_call.refusal ≡ accepted
    pub first : Reach cipher key pair buffer once_sent
    pub second : Reach cipher key pair buffer once_answered
    pub third : Reach cipher key pair buffer after_round

-- undisturbed rounds in a row, each with the rooms lent to it
unfoldable pub rounds : Cipher → (frame reply : ℕ → List ℕ) → ℕ → World → World
rounds cipher frame reply zero w = w
rounds cipher frame reply (suc m) w = after_round cipher (rounds cipher frame reply m w) (frame m) (reply m)

-- A transfer under way in w is over in v, with every sound as it was: done, or refused if and only if the sound exceeds
-- the receiver's buffer.
pub record Over (w v : World) : Type 0 where
  pub same_session : v.sender.session ≡ w.sender.session
  pub same_sounds : v.sound ≡ w.sound
  pub done : length (sound_of w) ≤ length w.buffer → v.sender.phase ≡ Done
  pub refused : length w.buffer < length (sound_of w) → v.sender.phase ≡ Refused TooLong

pub record Demand3 (cipher : Cipher) (key pair buffer : List ℕ) (w : World) : Type 0 where
  -- 1. the blocks counted as held are the front of the sound sent under that session, byte for byte in the buffer
  pub held_front : let n = held_bytes w.receiver.length w.receiver.count in
      (length (w.sound w.receiver.session) ≡ w.receiver.length)
      × (n ≤ length w.buffer)
      × (take n w.buffer ≡ take n (w.sound w.receiver.session))
  -- the buffer is as long as it ever was
  pub same_room : length w.buffer ≡ length buffer
  -- 2. done is reported only while the receiver holds the whole of it
  pub done_held : w.sender.phase ≡ Done
      → (w.receiver.session ≡ w.sender.session)
      × (w.receiver.count ≡ blocks w.receiver.length)
      × (take w.receiver.length w.buffer ≡ sound_of w)
  -- 3. no frame that the line delivers is refused as none, or as one that can't be; and both records stay in rule
  pub received : (frame reply : List ℕ) → Memᴰ frame w.up
      → Fitting (receiving cipher w.receiver w.buffer reply frame).answer.refusal
  pub heard : (frame : List ℕ) → Memᴰ frame w.down → Possible (hearing w.sender frame).refusal
  pub is_in_rule : (sender_in_rule w.sender ≡ true) × (receiver_in_rule w.receiver ≡ true)
  -- a transfer is refused by Too long of its own session alone, and then and as long as it is refused the sound exceeds
  -- the receiver's buffer
  pub only_too_long : (frame : List ℕ) → Memᴰ frame w.down → w.sender.phase ≢ Refused TooLong
      → (hearing w.sender frame).sender.phase ≡ Refused TooLong
      → (frame ≡ bytes (too_long w.sender.session)) × (length w.buffer < length (sound_of w))
  pub refused_long : w.sender.phase ≡ Refused TooLong → length w.buffer < length (sound_of w)
  -- 4. a sound begun is under way, with none of its blocks known to be held
  pub begins : (sound : List ℕ) → (beginning w.sender sound).refusal ≡ accepted
      → UnderWay (after_begin sound w).sender (blocks (length sound)) × (sound_of (after_begin sound w) ≡ sound)
  -- and with n blocks not yet known to be held, at most n + 1 undisturbed rounds in a row, with room for each frame,
  -- go well and end the transfer
  pub rounds_end : (n : ℕ) → UnderWay w.sender n → (frame reply : ℕ → List ℕ)
      → ((j : ℕ) → j ≤ n → Room cipher (rounds cipher frame reply j w) (frame j) (reply j))
      → (m : ℕ)
      × (m ≤ n + 1)
      × ((j : ℕ) → j < m → Well cipher (rounds cipher frame reply j w) (frame j) (reply j) key pair buffer)
      × Reach cipher key pair buffer (rounds cipher frame reply m w)
      × Over w (rounds cipher frame reply m w)
