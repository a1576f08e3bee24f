-- What hearing comes to, once it is known what was heard.
use mathlib.Core.{Path.◌≡◌, Path.refl, Path.sym, Path.ap, Path.◌∙◌, Logic.◌≢◌, Bool.true, Bool.◌&&◌, Bool.◌||◌}
use mathlib.Core.List.{List, ◌++◌}
use Prim.Native.Nat.{ℕ, ◌+◌, ◌<◌, ◌≤◌}
use native.Mathlib.Omega.{arith}
use borrow.Author.Tests.{leb-true, eq-eqb, ne_eqb, lt-ltb, le-ltb}
use lib.{Dec.T, Dec.leb, Dec.eqb, ListN.length, ListN.drop}
use Rattle.std.specs.Prelude.{Option, Some}
use Rattle.octets.specs.{Buffers.placed, Buffers.put, Stream.Cipher}
use Rattle.octets.proofs.Buffers.{put_placed}
use Rattle.refusals.specs.{Numbers.accepted, Numbers.no_room, Outcome.outcome, Rules.AllRight, Rules.first}
use Rattle.refusals.proofs.Faults.{numbered, numbered_both, none_wrong, refused_at, right_both, right_after, rule_passes}
use Rattle.refusals.proofs.Settled.{done_if, settled_left, first_here, first_later}
use Rattle.refusals.proofs.Tests.{and_first, and_second}
use Rattle.blocks.specs.{Blocks.longest, Blocks.blocks, Blocks.place, Covering.covered}
use Rattle.blocks.proofs.Covering.{length_covered}
use Rattle.frames.specs.Frames.{opening, block, holds, too_long, bytes, some, Heard, it, no_frame, heard}
use Rattle.frames.specs.{Told.told, Told.heard_as, declared.Told.Told}
use Rattle.frames.specs.declared.Told.TheVariants as the_told
use Rattle.frames.proofs.FramesRead.{told_back, told_again}
use Rattle.frames.proofs.FramesWritten.{short, short_holds, short_too_long, length_short}
use Rattle.receiver.specs.{Rules.receiver_in_rule, declared.Receiver.Receiver, declared.Answered.Answered}
use Rattle.receiver.specs.Receiver.{answer_room, frame_faults, room_faults, receive_faults, on_frame}
use Rattle.receiver.specs.Receiver.{taking, Effect, effect, still_held, on_opening, on_block, answered, received, receiving}

-- in rule, no more blocks are held than a sound can have
pub count_below : (r : Receiver) → receiver_in_rule r ≡ true → r.count ≤ blocks longest
unfolding receiver_in_rule
count_below r e =
    let rest = and_second (leb r.length longest) _ e in
    let short = leb-true r.length longest (and_first (leb r.length longest) _ e) in
    let begun = some r.session || (eqb r.length 0 && eqb r.count 0) in
    let few = leb-true r.count (blocks r.length) (and_second begun _ rest) in omega arith

length_holds : (session held : ℕ) → length (bytes (holds session held)) ≡ 7
length_holds session held = sym (ap length (short_holds session held)) ∙ length_short 3 session 2 held

-- no rule's number is 0
pub frame_numbered : (r : Receiver) (sound : ℕ) (h : Heard) → T (numbered (frame_faults r sound h))
frame_numbered r sound no_frame = tt
frame_numbered r sound (it (opening session long)) = tt
frame_numbered r sound (it (block session k run)) = tt
frame_numbered r sound (it (holds session held)) = tt
frame_numbered r sound (it (too_long session)) = tt

pub none_broken : (r : Receiver) (sound reply : ℕ) (h : Heard) → first (receive_faults r sound reply h) ≡ accepted
    → AllRight (receive_faults r sound reply h)
none_broken r sound reply h =
    none_wrong (receive_faults r sound reply h)
    (numbered_both (frame_faults r sound h) (room_faults reply) (frame_numbered r sound h) tt)

-- one after the other: the record's rule, those of the frame, and the room's
module _ (r : Receiver) (sound reply : ℕ) (h : Heard) (rule : receiver_in_rule r ≡ true) where
  behind : first (frame_faults r sound h ++ room_faults reply) ≡ first (receive_faults r sound reply h)
  behind = rule_passes _ _ rule

  pub frame_refuses : {n : ℕ} → n ≢ accepted → n ≡ first (frame_faults r sound h)
      → n ≡ first (receive_faults r sound reply h)
  frame_refuses {n} some same =
      first_here (frame_faults r sound h) (room_faults reply) (frame_numbered r sound h) n some same ∙ behind

  module _ (none : accepted ≡ first (frame_faults r sound h)) where
    pub room_refuses : reply < answer_room → no_room ≡ first (receive_faults r sound reply h)
    room_refuses short =
        refused_at 0 (room_faults reply) short
        ∙ first_later (frame_faults r sound h) (room_faults reply) (frame_numbered r sound h) none
        ∙ behind

    pub none_refuses : answer_room ≤ reply → AllRight (receive_faults r sound reply h)
    none_refuses room = (
      rule,
      right_after (frame_faults r sound h) (room_faults reply)
          (none_wrong (frame_faults r sound h) (frame_numbered r sound h) (sym none)) (room, tt),
    )

-- ---- what a frame brings about, case by case

module _ (cipher : Cipher) (r : Receiver) (sound : List ℕ) where
  pub on_repeat : (session long : ℕ) → session ≡ r.session → on_opening r sound session long ≡ still_held r sound
  on_repeat session long same = rw (eq-eqb session r.session same)

  pub on_long : (session long : ℕ) → session ≢ r.session → length sound < long
      → on_opening r sound session long ≡ effect r sound (too_long session)
  on_long session long other short = rw (ne_eqb session r.session other, lt-ltb (length sound) long short)

  pub on_new : (session long : ℕ) → session ≢ r.session → long ≤ length sound
      → on_opening r sound session long ≡ effect (taking r session long 0) sound (holds session 0)
  on_new session long other room = rw (ne_eqb session r.session other, le-ltb (length sound) long room)

  pub on_turn : (k : ℕ) (run : List ℕ) {after : List ℕ} → k ≡ r.count
      → after ≡ put sound (place r.count) (covered cipher r.key r.pair r.session r.count run)
      → place r.count + length run ≤ length sound
      → on_block cipher r sound k run ≡ effect (taking r r.session r.length (k + 1)) after (holds r.session (k + 1))
  on_turn k run {after} turn put room =
      let long = length_covered cipher r.key r.pair r.session r.count run in
      rw (eq-eqb k r.count turn)
      (λ i. effect (taking r r.session r.length (k + 1))
      (((λ j. placed sound (place (turn j)) (covered cipher r.key r.pair r.session (turn j) run))
      ∙ sym (put_placed sound (place r.count) _ (omega arith)) ∙ sym put) i)
      (holds r.session (k + 1)))

  pub on_other : (k : ℕ) (run : List ℕ) → k ≢ r.count → on_block cipher r sound k run ≡ still_held r sound
  on_other k run other = rw (ne_eqb k r.count other)

  -- what is no frame for this end changes nothing
  pub on_foreign : (run : List ℕ) (t : Told) → ((session long : ℕ) → t ≡ the_told.Opening session long → ⊥)
      → ((session k n : ℕ) → t ≡ the_told.Block session k n → ⊥)
      → on_frame cipher r sound (heard_as run (Some t)) ≡ still_held r sound
  on_foreign run (the_told.Opening session long) o b = absurd (o session long refl)
  on_foreign run (the_told.Block session k n) o b = absurd (b session k n refl)
  on_foreign run (the_told.Holds session held) o b = refl
  on_foreign run (the_told.TooLong session) o b = refl

-- ---- what hearing comes to

module _ (cipher : Cipher) (r : Receiver) (sound reply frame : List ℕ) (h : Heard) (e : heard frame ≡ h) where
  pub refused_so_lem : (n : ℕ) → n ≢ accepted → n ≡ first (receive_faults r (length sound) (length reply) h)
      → received (record { refusal = n; length = 0; receiver = r }) sound reply ≡ receiving cipher r sound reply frame
  unfolding receiving
  refused_so_lem n some same = rw e (settled_left _ _ _ n some same)

  pub received_so : {next : Receiver} {n : ℕ} {after written : List ℕ} → let effect = on_frame cipher r sound h in
      AllRight (receive_faults r (length sound) (length reply) h) → next ≡ effect.next
      → n ≡ length (bytes effect.answer) → after ≡ effect.sound → written ≡ placed reply 0 (bytes effect.answer)
      → received (record { refusal = 0; length = n; receiver = next }) after written
      ≡ receiving cipher r sound reply frame
  unfolding receiving
  received_so right p q s w =
      (λ j. received (record { refusal = 0; length = q j; receiver = p j }) (s j) (w j)) ∙ rw e (done_if _ _ _ right)

  -- the answer is how many blocks are held afterwards
  pub held_so : (next : Receiver) {a : Answered} {after written : List ℕ}
      → AllRight (receive_faults r (length sound) (length reply) h)
      → on_frame cipher r sound h ≡ effect next after (holds next.session next.count)
      → outcome a written ≡ outcome (answered next 7) (put reply 0 (bytes (holds next.session next.count)))
      → received (record { refusal = 0; length = a.length; receiver = a.receiver }) after written
      ≡ receiving cipher r sound reply frame
  held_so next {a} {after} {written} right brings told =
      let room = (right_both (frame_faults r (length sound) h) _ right.1).1.0 in
      let long = length_holds next.session next.count in
      (λ i. received (record { refusal = 0; length = (told i).answer.length; receiver = (told i).answer.receiver }) after
      (told i).buffer)
      ∙ received_so right (sym (ap (λ (e : Effect). e.next) brings))
      (sym long ∙ sym (ap (λ (e : Effect). length (bytes e.answer)) brings)) (sym (ap (λ (e : Effect). e.sound) brings))
      (put_placed reply 0 _ (omega arith) ∙ sym (ap (λ (e : Effect). placed reply 0 (bytes e.answer)) brings))

  -- the answer is that a sound is too long
  pub too_long_so : (session : ℕ) {written : List ℕ} → AllRight (receive_faults r (length sound) (length reply) h)
      → on_frame cipher r sound h ≡ effect r sound (too_long session)
      → written ≡ put reply 0 (short 4 session 0 0)
      → received (record { refusal = 0; length = 5; receiver = r }) sound written ≡ receiving cipher r sound reply frame
  too_long_so session {written} right brings told =
      let room = (right_both (frame_faults r (length sound) h) _ right.1).1.0 in
      let long = length_short 4 session 0 0 in
      received_so right (sym (ap (λ (e : Effect). e.next) brings))
      (sym long ∙ ap length (short_too_long session 0) ∙ sym (ap (λ (e : Effect). length (bytes e.answer)) brings))
      (sym (ap (λ (e : Effect). e.sound) brings))
      (told ∙ put_placed reply 0 _ (omega arith) ∙ ap (placed reply 0) (short_too_long session 0)
      ∙ sym (ap (λ (e : Effect). placed reply 0 (bytes e.answer)) brings))

-- what is asked of what was told is asked of what was heard
pub of_heard : (frame : List ℕ) (r : Receiver) (sound : ℕ) {what : Option Told} {n : ℕ} → what ≡ told (heard frame)
    → ((run : List ℕ) → what ≡ told (heard_as run what) → n ≡ first (frame_faults r sound (heard_as run what)))
    → {h : Heard}
    → heard frame ≡ h
    → n ≡ first (frame_faults r sound h)
of_heard frame r sound read says e =
    says (drop 8 frame) (told_again frame read)
    ∙ ap (λ (h : Heard). first (frame_faults r sound h)) (sym (told_back frame read) ∙ e)

-- a frame that isn't refused
pub heard_right : (frame : List ℕ) (r : Receiver) (sound reply : ℕ) {what : Option Told} {h : Heard} → heard frame ≡ h
    → receiver_in_rule r ≡ true
    → what ≡ told (heard frame)
    → ((run : List ℕ) → what ≡ told (heard_as run what) → accepted ≡ first (frame_faults r sound (heard_as run what)))
    → answer_room ≤ reply
    → AllRight (receive_faults r sound reply h)
heard_right frame r sound reply {h = h} e rule read says room =
    none_refuses r sound reply h rule (of_heard frame r sound read says e) room

-- a frame that isn't refused, with too little room for the answer
pub short_so : (cipher : Cipher) (r : Receiver) (sound reply frame : List ℕ) {what : Option Told}
    → true ≡ receiver_in_rule r
    → what ≡ told (heard frame)
    → ((run : List ℕ) → what ≡ told (heard_as run what)
    → accepted ≡ first (frame_faults r (length sound) (heard_as run what)))
    → length reply < answer_room
    → received (record { refusal = no_room; length = 0; receiver = r }) sound reply
    ≡ receiving cipher r sound reply frame
short_so cipher r sound reply frame rule read says short =
    refused_so_lem cipher r sound reply frame _ refl no_room (omega arith)
    (room_refuses r (length sound) (length reply) (heard frame) (sym rule)
    (of_heard frame r (length sound) read says refl) short)
