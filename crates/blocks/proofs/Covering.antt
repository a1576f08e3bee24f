-- A session's cipher, made anew and moved on, stands where the whole sound's stream stands at that place; and a block
-- covered is as long as it was.
use mathlib.Core.{Path.◌≡◌, Path.sym, Path.ap, Path.◌∙◌, List.List, List.[], List.◌∷◌, List.◌++◌, List.append-nil}
use Prim.Native.Nat.{ℕ, ◌*◌, ◌/◌, ◌%◌, min}
use native.Mathlib.Omega.{arith}
use lib.ListN.{length, take, drop, length-append, length-take, length-drop}
use lib.Seq.{take_at, drop_at}
use Rattle.std.specs.Int.{to_be_bytes, w32}
use Rattle.octets.specs.{Digits.digits, Stream.Cipher, Stream.from}
use Rattle.octets.proofs.{Numbers.length_digits, Streams.length_enciphered, Streams.enciphered_twice}
use Rattle.refusals.specs.Answers.{Answer}
use Rattle.trivium.specs.{Calls.making_at, Keystream.keystream, Keystream.trivium, Record.state, Registers.started}
use Rattle.trivium.specs.{Registers.steps, declared.Registers.Registers}
use Rattle.trivium.proofs.{Bytes.keystream_from, Theorems.makes_at, Theorems.moved_on}
use Rattle.blocks.specs.{Blocks.place, Blocks.size, Blocks.block_of, Covering.initial, Covering.covered}

-- ---- the cipher

pub length_initial : (pair : List ℕ) (session : ℕ) → length pair ≡ 6 → length (initial pair session) ≡ 10
unfolding initial
length_initial pair session six = length-append pair (digits 256 4 session) ∙ omega (arith, length_digits 256 4 session)

last_bytes : (session : ℕ) → to_be_bytes w32 session ≡ digits 256 4 session
unfolding digits
last_bytes session = ap (λ (low : ℕ). take 3 (digits 256 4 session) ++ (low ∷ [])) low_byte
  where
    low_byte : session % 256 ≡ session / 1 % 256
    low_byte = omega arith

-- the pair name, and the session behind it, fill ten bytes
pub value_made : (pair : List ℕ) (session : ℕ) {front back : List ℕ} → length pair ≡ 6 → front ≡ pair
    → back ≡ to_be_bytes w32 session
    → let d : List ℕ = front ++ (0 ∷ 0 ∷ 0 ∷ 0 ∷ []) in
    take 6 d ++ (back ++ drop 4 (drop 6 d)) ≡ initial pair session
unfolding initial
value_made pair session {front} {back} six begins ends =
    let behind : List ℕ = 0 ∷ 0 ∷ 0 ∷ 0 ∷ [] in
    let long : length front ≡ 6 = ap length begins ∙ six in
    (λ i. take_at front behind 6 long i ++ (back ++ drop 4 (drop_at front behind 6 long i)))
    ∙ ap (λ (l : List ℕ). front ++ l) (append-nil back)
    ∙ (λ i. begins i ++ (ends ∙ last_bytes session) i)

-- the cipher made and moved on by eight strides a block
pub stands : (key pair : List ℕ) (session k : ℕ) → length key ≡ 10 → length pair ≡ 6
    → keystream (state (making_at key (initial pair session) (8 * k)).next)
    ≡ from (place k) (trivium.stream key (initial pair session))
stands key pair session k ten six =
    let iv : List ℕ = initial pair session in
    let bytes : 64 * (8 * k) ≡ 8 * place k = omega arith in
    ap keystream
    (ap (λ (m : Answer Registers). state m.next) (makes_at key iv (8 * k) ten (length_initial pair session six))
    ∙ moved_on key iv (8 * k)
    ∙ ap (λ (n : ℕ). steps n (started key iv)) bytes)
    ∙ sym (keystream_from (place k) (started key iv))

-- ---- covering

module _ (cipher : Cipher) (key pair : List ℕ) (session k : ℕ) where
  pub length_covered : (run : List ℕ) → length (covered cipher key pair session k run) ≡ length run
  unfolding covered
  length_covered run = length_enciphered _ run

  -- what is covered twice is as it was: there and back again
  pub covered_twice : (run : List ℕ) → covered cipher key pair session k (covered cipher key pair session k run) ≡ run
  unfolding covered
  covered_twice run = enciphered_twice _ run

-- ---- blocks of a sound

pub length_block_of : (sound : List ℕ) (k : ℕ) → length (block_of sound k) ≡ size (length sound) k
length_block_of sound k = length-take 64 (drop (place k) sound) ∙ ap (min 64) (length-drop (place k) sound)

-- what a block's frame carries has the length that the block has
pub length_run : (cipher : Cipher) (key pair : List ℕ) (session k : ℕ) (sound : List ℕ)
    → length (covered cipher key pair session k (block_of sound k)) ≡ size (length sound) k
length_run cipher key pair session k sound =
    length_covered cipher key pair session k (block_of sound k) ∙ length_block_of sound k
