-- An opening of the session that the receiver has in hand: a repeat if it names the length in hand, and else refused.
use Rattle.std.specs.Prelude.{ℕ, ◌≤◌, length}
use mathlib.Core.{Bool.true, List.List, Logic.◌≢◌, Path.◌≡◌}
use Rattle.octets.specs.{Buffers.placed, Stream.Cipher}
use Rattle.refusals.specs.Numbers.{accepted, other_length}
use Rattle.frames.specs.Frames.{opening, holds, bytes, it, heard}
use Rattle.receiver.specs.{Receiver.answer_room, Receiver.received, Receiver.receiving, Rules.receiver_in_rule}
use Rattle.receiver.specs.declared.Receiver.{Receiver}

module _ (cipher : Cipher) (r : Receiver) (sound reply frame : List ℕ) where
  -- the frame opens the session in hand, for a sound of this length
  abbrev pub Reopens : ℕ → Type 0
  Reopens long = heard frame ≡ it (opening r.session long)

  pub record Reopening : Type 0 where
    -- with the length in hand it is a repeat: the count held is the answer, and nothing changes
    pub repeated : receiver_in_rule r ≡ true → Reopens r.length → answer_room ≤ length reply
        → let answer = bytes (holds r.session r.count) in
        receiving cipher r sound reply frame
        ≡ received (record { refusal = accepted; length = length answer; receiver = r }) sound (placed reply 0 answer)
    -- with another it is refused, whatever room is lent for sound and answer, and nothing changes
    pub other : receiver_in_rule r ≡ true → (long : ℕ) → Reopens long → long ≢ r.length
        → receiving cipher r sound reply frame
        ≡ received (record { refusal = other_length; length = 0; receiver = r }) sound reply
    -- and nothing else is refused so
    pub nothing_else : (receiving cipher r sound reply frame).answer.refusal ≡ other_length
        → (receiver_in_rule r ≡ true) × ((long : ℕ) × Reopens long × (long ≢ r.length))
