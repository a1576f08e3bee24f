-- Demand 2 in full, under each cipher, on what callers see: the outcomes of sealing, which is told the cipher, and of
-- opening, which finds it in the file.
use Rattle.std.specs.Prelude.{ℕ, ◌*◌, ◌<◌, ◌≤◌}
use mathlib.Core.{List.List, Path.◌≡◌}
use lib.{IntN.ℤ, ListN.length, ListN.get_or, ListN.take}
use Rattle.octets.specs.{Buffers.slice, Buffers.placed, Rows.numbers_at, Stream.Cipher}
use Rattle.refusals.specs.{Numbers.accepted, Outcome.Outcome, Outcome.outcome}
use Rattle.pack.specs.Calls.{opening_file, sealing_file}
use Rattle.pack.specs.Ciphers.{cipher_of, kind_in, ring_for}
use Rattle.pack.specs.declared.Rings.{Rings}
use Rattle.pack.specs.{declared.Kind.Kind, Answers.Opened, Answers.Sealed}
use Rattle.pack.specs.Layout.{Parts, parts, Within, fours, LaidFrom, layout}
use Rattle.pack.specs.Places.{plain_of}
use Rattle.samples.specs.Words.{NoLowest}

-- the parts that an opening puts into a caller's hand: name, initial value and loops from the file, at the places
-- answered, and the samples from the buffer
abbrev pub in_hand : Cipher → List ℕ → Outcome Opened ℤ → Parts
in_hand cipher file o =
    let a = o.answer in
    parts (slice file a.name_at a.name_length) a.key (slice file a.value_at cipher.value_bytes)
    (take a.samples o.buffer) (numbers_at (fours (2 * a.loops)) file a.loops_at)

-- a file has opened to these parts: the counts are theirs, and so is what is in hand; of the lent sound only their
-- samples are written
pub record OpenedTo (cipher : Cipher) (p : Parts) (file : List ℕ) (sound : List ℤ) (o : Outcome Opened ℤ)
    : Type 0 where
  pub taken : o.answer.refusal ≡ accepted
  pub name_count : o.answer.name_length ≡ length p.name
  pub sample_count : o.answer.samples ≡ length p.samples
  pub loop_count : 2 * o.answer.loops ≡ length p.loops
  pub same : in_hand cipher file o ≡ p
  pub written : o.buffer ≡ placed sound 0 p.samples

-- what sealing to a file comes to
abbrev pub sealed_to : List ℕ → List ℕ → Outcome Sealed ℕ
sealed_to file output = outcome (record { refusal = accepted; length = length file }) (placed output 0 file)

-- a file as it is sealed under a cipher, and the plain bytes of one that is read under it
abbrev pub file_of : Kind → Rings → Parts → List ℕ
file_of kind r p = layout (cipher_of kind) (ring_for kind r) p

abbrev pub plain_in : Kind → Rings → List ℕ → List ℕ
plain_in kind r file = plain_of (cipher_of kind) (ring_for kind r) file

-- a file is laid out under a cipher from parts within their limits and from plain bytes
abbrev pub LaidUnder : Kind → Rings → Parts → List ℕ → List ℕ → Type 0
LaidUnder kind r p plain file = Within (cipher_of kind) p × LaidFrom (cipher_of kind) (ring_for kind r) p plain file

pub record Demand2 (kind : Kind) (r : Rings) : Type 0 where
  -- 1. parts within their limits are sealed to their layout, given room for it
  pub seals : (p : Parts) (output : List ℕ) → Within (cipher_of kind) p → length (file_of kind r p) ≤ length output
      → sealing_file kind r p output ≡ sealed_to (file_of kind r p) output
  -- 2. whatever is sealed opens to the same, given room for the samples
  pub sealed : (p : Parts) (output : List ℕ) (sound : List ℤ) → ((i : ℕ) → get_or p.value i 0 < 256)
      → length p.samples ≤ length sound
      → let s = sealing_file kind r p output in
      let file = take s.answer.length s.buffer in
      s.answer.refusal ≡ accepted → OpenedTo (cipher_of kind) p file sound (opening_file r file sound)
  -- 3. an accepted file of this cipher opens to what layout and keystream define: it is laid out from plain bytes, and
  -- what is in hand are parts within their limits, with the samples read from these
  pub opened : (file : List ℕ) (sound : List ℤ) → kind_in file ≡ kind → ((i : ℕ) → get_or file i 0 < 256)
      → let o = opening_file r file sound in
      let p = in_hand (cipher_of kind) file o in
      o.answer.refusal ≡ accepted
      → OpenedTo (cipher_of kind) p file sound o × LaidUnder kind r p (plain_in kind r file) file
  -- 4. and, sealed again with its own name, key number, initial value and loops, it is the same file exactly if no
  -- plain word was 80 00
  pub resealed : (file output : List ℕ) (sound : List ℤ) → kind_in file ≡ kind → ((i : ℕ) → get_or file i 0 < 256)
      → length file ≤ length output
      → let o = opening_file r file sound in
      let same = sealing_file kind r (in_hand (cipher_of kind) file o) output ≡ sealed_to file output in
      o.answer.refusal ≡ accepted
      → (NoLowest (plain_in kind r file) → same) × (same → NoLowest (plain_in kind r file))
  -- 5. with room for its samples, a file is opened as one of this cipher exactly if it is laid out under it from parts
  -- within their limits, whatever the plain words
  pub accepts : (file : List ℕ) (sound : List ℤ) → ((i : ℕ) → get_or file i 0 < 256)
      → let laidOut = (p : Parts) × (plain : List ℕ) × LaidUnder kind r p plain file
      × (length p.samples ≤ length sound) in
      let taken = ((opening_file r file sound).answer.refusal ≡ accepted) × (kind_in file ≡ kind) in
      (laidOut → taken) × (taken → laidOut)
