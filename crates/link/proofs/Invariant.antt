-- What holds at every moment of the world of demand 3, in parts that name only the values that they speak of: an event
-- that leaves those values alone keeps the part.
use mathlib.Core.Path.{◌≡◌, refl, sym, ap, ◌∙◌}
use mathlib.Core.Bool.{true, ◌&&◌, ◌||◌}
use mathlib.Core.List.{List, Memᴰ}
use Prim.Native.Nat.{ℕ, zero, suc, ◌+◌, ◌≤◌, ◌<◌}
use native.Mathlib.Omega.{arith}
use borrow.Author.Tests.{le-leb, lt-ltb, eq-eqb}
use lib.{Dec.eqb, ListN.length, ListN.take}
use Rattle.octets.specs.Stream.{Cipher}
use Rattle.refusals.proofs.Tests.{and_both}
use Rattle.blocks.specs.{Blocks.longest, Blocks.whole, Blocks.blocks, Blocks.block_of, Covering.covered}
use Rattle.frames.specs.Frames.{Frame, opening, block, holds, too_long, bytes, some, in_limits, it, heard, Good}
use Rattle.frames.proofs.FramesWritten.{length_short, short_holds, short_too_long}
use Rattle.frames.proofs.Theorems.{heard_bytes}
use Rattle.receiver.specs.{Rules.receiver_in_rule, declared.Receiver.Receiver}
use Rattle.sender.specs.{Rules.phase_in_rule, Rules.sender_in_rule, declared.Phase.Phase}
use Rattle.sender.specs.Sender.{last_session, is_under_way, news_count}
use Rattle.sender.specs.declared.Phase.TheVariants.{Idle, Opening, Sending, Done, Refused}
use Rattle.link.specs.World.{World, held_bytes}

-- every block number that was sent in the present session is below this, and no more blocks are held
abbrev pub lim : ℕ → Phase → ℕ
lim length Idle = 0
lim length Opening = 0
lim length (Sending known) = known + 1
lim length Done = blocks length
lim length (Refused why) = 0

-- both ends have the key and the pair name that they began with
abbrev pub Named : List ℕ → List ℕ → World → Type 0
Named key pair w =
    (w.sender.key ≡ key) × (w.sender.pair ≡ pair) × (w.receiver.key ≡ key) × (w.receiver.pair ≡ pair)

-- the sounds begun, and what the sender's numbers say of the last one
pub record Begun (sound : ℕ → List ℕ) (session long : ℕ) : Type 0 where
  pub short : (session : ℕ) → length (sound session) ≤ longest
  pub none : length (sound 0) ≡ 0
  pub same : length (sound session) ≡ long
  pub last : session ≤ last_session

-- what the receiver's numbers say: the blocks counted are the front of the sound
pub record Held (sound : ℕ → List ℕ) (room : ℕ) (buffer : List ℕ) (session long count : ℕ) : Type 0 where
  pub same : length (sound session) ≡ long
  pub fits : long ≤ room
  pub counted : count ≤ blocks long
  pub whole : length buffer ≡ room
  pub front : take (held_bytes long count) buffer ≡ take (held_bytes long count) (sound session)

-- what the sender's phase knows of the receiver
abbrev pub Known : (session long taken count room : ℕ) → Phase → Type 0
Known session long taken count room Idle = Unit
Known session long taken count room Opening = 1 ≤ session
Known session long taken count room (Sending known) =
    (1 ≤ session) × (known < blocks long) × (taken ≡ session) × (known ≤ count)
Known session long taken count room Done = (1 ≤ session) × (taken ≡ session) × (blocks long ≤ count)
Known session long taken count room (Refused why) = (1 ≤ session) × (room < long)

pub record Between (session long : ℕ) (phase : Phase) (taken count room : ℕ) : Type 0 where
  pub ahead : taken ≤ session
  pub limit : taken ≡ session → count ≤ lim long phase
  pub known : Known session long taken count room phase

-- the frames that the sender wrote
pub data Up (cipher : Cipher) (key pair : List ℕ) (sound : ℕ → List ℕ) (session limit : ℕ) (frame : List ℕ) : Type 0
  where
    an_opening : (s : ℕ) → 1 ≤ s → s ≤ session → frame ≡ bytes (opening s (length (sound s)))
        → Up cipher key pair sound session limit frame
    a_block : (s k : ℕ) → 1 ≤ s → s ≤ session → k < blocks (length (sound s)) → (s ≡ session → k < limit)
        → frame ≡ bytes (block s k (covered cipher key pair s k (block_of (sound s) k)))
        → Up cipher key pair sound session limit frame

-- the frames that the receiver wrote
pub data Down (sound : ℕ → List ℕ) (session taken count room : ℕ) (frame : List ℕ) : Type 0 where
  a_count : (s c : ℕ) → 1 ≤ s → s ≤ taken → c ≤ blocks longest → (s ≡ taken → c ≤ count) → frame ≡ bytes (holds s c)
      → Down sound session taken count room frame
  a_no : (s : ℕ) → 1 ≤ s → s ≤ session → room < length (sound s) → frame ≡ bytes (too_long s)
      → Down sound session taken count room frame

module _ (cipher : Cipher) (key pair : List ℕ) (room : ℕ) (w : World) where
  abbrev pub UpOf : List ℕ → Type 0
  UpOf = Up cipher key pair w.sound w.sender.session (lim w.sender.length w.sender.phase)

  abbrev pub KnownAs : Phase → Type 0
  KnownAs = Known w.sender.session w.sender.length w.receiver.session w.receiver.count room

  pub record Inv : Type 0 where
    pub names : Named key pair w
    pub begun : Begun w.sound w.sender.session w.sender.length
    pub held : Held w.sound room w.buffer w.receiver.session w.receiver.length w.receiver.count
    pub between : Between w.sender.session w.sender.length w.sender.phase w.receiver.session
        w.receiver.count room
    pub up : (frame : List ℕ) → Memᴰ frame w.up → UpOf frame
    pub down : (frame : List ℕ) → Memᴰ frame w.down
        → Down w.sound w.sender.session w.receiver.session w.receiver.count room frame

-- ---- a transfer under way is opening or sending

pub by_phase : (P : Phase → Type 0) (p : Phase) → is_under_way p ≡ true → (p ≡ Opening → P Opening)
    → ((k : ℕ) → p ≡ Sending k → P (Sending k)) → P p
by_phase P Idle u o s = let z : ◌≡◌ {A = ℕ} 0 1 = cc in absurd (omega arith)
by_phase P Opening u o s = o refl
by_phase P (Sending k) u o s = s k refl
by_phase P Done u o s = let z : ◌≡◌ {A = ℕ} 0 1 = cc in absurd (omega arith)
by_phase P (Refused why) u o s = let z : ◌≡◌ {A = ℕ} 0 1 = cc in absurd (omega arith)

-- ---- such records are in rule

phase_in_rule_lem : (session long taken count room : ℕ) (phase : Phase) → Known session long taken count room phase
    → phase_in_rule session long phase ≡ true
unfolding phase_in_rule
phase_in_rule_lem session long taken count room Idle h = refl
phase_in_rule_lem session long taken count room Opening h = le-leb 1 session h
phase_in_rule_lem session long taken count room (Sending known) h =
    and_both (le-leb 1 session h.0) (lt-ltb known (blocks long) h.1)
phase_in_rule_lem session long taken count room Done h = le-leb 1 session h.0
phase_in_rule_lem session long taken count room (Refused why) h = le-leb 1 session h.0

some_or_none : (session long count : ℕ) → (session ≡ 0 → (long ≡ 0) × (count ≡ 0))
    → (some session || (eqb long 0 && eqb count 0)) ≡ true
some_or_none zero long count h = and_both (eq-eqb long 0 (h refl).0) (eq-eqb count 0 (h refl).1)
some_or_none (suc session) long count h = rw (le-leb 1 (suc session) (omega arith))

module _ {cipher : Cipher} {key pair : List ℕ} {room : ℕ} (w : World) (i : Inv cipher key pair room w) where
  pub sender_in_rule_lem : sender_in_rule w.sender ≡ true
  unfolding sender_in_rule
  sender_in_rule_lem =
      let short = i.begun.short w.sender.session in
      and_both (le-leb w.sender.length longest (omega arith)) (phase_in_rule_lem _ _ _ _ _ _ i.between.known)

  pub receiver_in_rule_lem : receiver_in_rule w.receiver ≡ true
  unfolding receiver_in_rule
  receiver_in_rule_lem =
      let r : Receiver = w.receiver in
      let short = i.begun.short r.session in
      let at : ℕ → ℕ = λ s. length (w.sound s) in
      and_both (le-leb r.length longest (omega arith))
      (and_both (some_or_none r.session r.length r.count (λ e. let no = ap at e in omega arith))
      (le-leb r.count (blocks r.length) (omega arith)))

  -- what the sender knows, in a phase that is known
  pub known_in : (p : Phase) → w.sender.phase ≡ p → KnownAs cipher key pair room w p
  known_in p e = rw e at i.between.known

  -- a transfer under way has a session, and the count that would be news is its limit
  pub standing : is_under_way w.sender.phase ≡ true → let p = w.sender.phase in
      (1 ≤ w.sender.session) × (lim w.sender.length p ≡ news_count p) × (news_count p ≤ blocks w.sender.length)
  standing u =
      let long = w.sender.length in
      by_phase (λ p. (1 ≤ w.sender.session) × (lim long p ≡ news_count p) × (news_count p ≤ blocks long))
      w.sender.phase u (λ e. let known = known_in Opening e in omega arith)
      (λ k e. let known = known_in (Sending k) e in omega arith)

  -- the receiver's sound is the one under way if its session is
  pub same_length : w.receiver.session ≡ w.sender.session → w.receiver.length ≡ w.sender.length
  same_length e = sym i.held.same ∙ ap (λ (s : ℕ). length (w.sound s)) e ∙ i.begun.same

-- ---- and what was sent is heard as it was meant

abbrev pub Limits : Frame → Type 0
Limits (opening s n) = (1 ≤ s) × (s ≤ last_session) × (n ≤ longest)
Limits (block s k run) = (1 ≤ s) × (s ≤ last_session) × (k < blocks longest) × (1 ≤ length run) × (length run ≤ whole)
Limits (holds s c) = (1 ≤ s) × (s ≤ last_session) × (c ≤ blocks longest)
Limits (too_long s) = (1 ≤ s) × (s ≤ last_session)

good : (f : Frame) → Limits f → Good f
unfolding in_limits
good (opening s n) h = record { limits = and_both (le-leb 1 s h.0) (le-leb n longest h.2); fits = omega arith }
good (block s k run) h =
    let long = and_both (le-leb 1 (length run) h.3) (le-leb (length run) whole h.4) in
    record { limits = and_both (le-leb 1 s h.0) long; fits = omega arith }
good (holds s c) h = record { limits = le-leb 1 s h.0; fits = omega arith }
good (too_long s) h = record { limits = le-leb 1 s h.0; fits = omega arith }

pub meant : (f : Frame) {frame : List ℕ} → frame ≡ bytes f → Limits f → heard frame ≡ it f
meant f e h = ap heard e ∙ heard_bytes f (good f h)

pub length_holds : (s c : ℕ) → length (bytes (holds s c)) ≡ 7
length_holds s c = ap length (sym (short_holds s c)) ∙ length_short 3 s 2 c

pub length_no : (s : ℕ) → length (bytes (too_long s)) ≡ 5
length_no s = ap length (sym (short_too_long s 0)) ∙ length_short 4 s 0 0
