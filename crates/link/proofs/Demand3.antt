-- Demand 3 holds: the facts of safety are read off what holds at every moment, and the rounds are counted in Rounds.
use mathlib.Core.{Path.◌≡◌, Path.ap, Path.◌∙◌, Logic.inl, List.List}
use Prim.Native.Nat.{ℕ, ◌≤◌}
use native.Mathlib.Omega.{arith}
use lib.{ListN.length, Seq.take_all}
use Rattle.octets.specs.Stream.{Cipher}
use Rattle.trivium.specs.Keystream.{trivium}
use Rattle.receiver.specs.Receiver.{answer_room}
use Rattle.sender.specs.{Sender.due_in, declared.Phase.Phase, declared.Reason.TheVariants.TooLong}
use Rattle.sender.specs.declared.Phase.TheVariants.{Idle, Opening, Sending, Done, Refused}
use Rattle.sender.proofs.Senders.{length_opening, length_block_frame}
use Rattle.link.specs.{Demand3.sound_of, Demand3.Room, Demand3.Demand3, World.World, World.Reach, World.held_bytes}
use Rattle.link.specs.World.{after_begin}
use Rattle.link.proofs.{Begins.opens, Hears.hears_kept, Moments.holds_at, Receives.receives_kept, Rounds.ends}
use Rattle.link.proofs.Invariant.{sender_in_rule_lem, receiver_in_rule_lem, known_in}

pub demand3 : (cipher : Cipher) (key pair buffer : List ℕ) {w : World} → Reach cipher key pair buffer w
    → Demand3 cipher key pair buffer w
unfolding after_begin
demand3 cipher key pair buffer {w} r =
    let i = holds_at r in
    let h = i.held in
    record {
      held_front = (h.same, omega arith, h.front);
      same_room = h.whole;
      done_held =
          λ e.
          let known = known_in w i Done e in
          let same : w.sound w.receiver.session ≡ sound_of w = ap w.sound known.1 in
          let long = ap length same in
          let all : held_bytes w.receiver.length w.receiver.count ≡ w.receiver.length = omega arith in
          let front = rw all at h.front in
          (omega arith, omega arith, front ∙ take_all w.receiver.length _ (omega arith) ∙ same);
      received = λ frame reply m. (receives_kept w i reply frame m).1;
      heard = λ frame m. (hears_kept w i frame m).1;
      is_in_rule = (sender_in_rule_lem w i, receiver_in_rule_lem w i);
      only_too_long = λ frame m yet e. let why = (hears_kept w i frame m).2 yet e in (why.0, omega arith);
      refused_long = λ e. let known = known_in w i (Refused TooLong) e in omega (arith, i.begun.same);
      begins =
          λ sound e. let opened = opens w i sound e in (inl (opened.0, omega (arith, opened.1)), opened.2);
      rounds_end = λ n under frame reply room. ends cipher key pair buffer w n frame reply r room under;
    }

-- with the cipher of demand 2 in it, the very one that the contracts of both ends cite
pub demand3_trivium : (key pair buffer : List ℕ) {w : World} → Reach trivium key pair buffer w
    → Demand3 trivium key pair buffer w
demand3_trivium = demand3 trivium

-- ---- 72 bytes are room for any frame

module _ (cipher : Cipher) (w : World) where
  due_fits : (p : Phase) → length (due_in cipher w.sender (sound_of w) p) ≤ 72
  unfolding due_in
  due_fits Idle = omega arith
  due_fits Opening = omega (arith, length_opening w.sender.session w.sender.length)
  due_fits (Sending k) = omega (arith, length_block_frame cipher w.sender (sound_of w) k)
  due_fits Done = omega arith
  due_fits (Refused why) = omega arith

  pub room_of_72 : (frame reply : List ℕ) → 72 ≤ length frame → answer_room ≤ length reply → Room cipher w frame reply
  room_of_72 frame reply long seven =
      record { for_frame = omega (arith, due_fits w.sender.phase); for_answer = seven }
