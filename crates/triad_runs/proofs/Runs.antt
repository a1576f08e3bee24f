-- Runs of bytes taken in by words, the words one behind the other.
use mathlib.Core.{Path.◌≡◌, Path.sym, Path.ap, Path.ap₂, Path.◌∙◌, List.List, List.[], List.◌++◌}
use mathlib.Core.List.{reverse}
use Prim.Native.Nat.{ℕ, zero, suc, ◌+◌, ◌*◌, ◌/◌, ◌%◌, ◌<◌, ◌≤◌}
use native.Mathlib.{Nat.zero-add, Omega.arith}
use lib.{Bits.bit_xor, ListN.length, ListN.get_or, ListN.take, ListN.drop, Seq.drop-drop, Seq.take_all}
use Rattle.std.specs.Int.{w64, from_le_bytes}
use Rattle.std.specs.Simd.{first_chunks}
use Rattle.octets.specs.{Buffers.slice, Digits.number, LowFirst.bits_up, LowFirst.bits_up_of}
use Rattle.octets.specs.Stream.{Keystream, from, enciphered}
use Rattle.octets.proofs.LowFirst.{bytes_under, bytes_up}
use Rattle.octets.proofs.Numbers.{Below, below_slice}
use Rattle.octets.proofs.{Slices.length_slice, Slices.slice_add, Streams.runs_append}
use Rattle.shift_registers.specs.Registers.{State}
use Rattle.triad.specs.{State.updates, Tag.absorbed}
use Rattle.triad.proofs.{Bytes.Lowly, Little.low_number, Steps.absorbed_append}

-- ---- a word of a run

chunk_at : (xs : List ℕ) (n m i : ℕ) → i < m → get_or (first_chunks n m xs) i [] ≡ slice xs (n * i) n
chunk_at xs n zero i h = absurd (omega arith)
chunk_at xs n (suc m) zero h = let none : 0 ≡ n * 0 = omega arith in ap (λ (k : ℕ). slice xs k n) none
chunk_at xs n (suc m) (suc i) h =
    chunk_at (drop n xs) n m i (omega arith) ∙ ap (take n) (drop-drop (n * i) n xs ∙ ap (λ (k : ℕ). drop k xs) (next n i))
  where
    next : (n i : ℕ) → n + n * i ≡ n * suc i
    next n i = omega arith

-- of whole words, the one that a turn has
pub word_at : (bytes : List ℕ) (m i : ℕ) {words : List (List ℕ)} {word : List ℕ} {read : ℕ} → words ≡ first_chunks 8 m bytes
    → word ≡ get_or words i [] → i < m → 8 * i + 8 ≤ length bytes → read ≡ from_le_bytes w64 word
    → read ≡ number 256 (reverse (slice bytes (8 * i) 8))
word_at bytes m i cut is h room read =
    let there = is ∙ ap (λ (l : List (List ℕ)). get_or l i []) cut ∙ chunk_at bytes 8 m i h in
    read ∙ ap (from_le_bytes w64) there ∙ low_number (slice bytes (8 * i) 8) (length_slice bytes (8 * i) 8 room)

-- and what is behind them
pub rest_at : (bytes : List ℕ) {rest : List ℕ} → let at = length bytes / 8 * 8 in
    rest ≡ drop at bytes → length rest ≡ length bytes % 8 → slice rest 0 8 ≡ slice bytes at (length rest)
rest_at bytes {rest} cut few =
    take_all 8 rest (omega arith) ∙ cut ∙ sym (take_all (length rest) (drop _ bytes) (omega (arith, ap length cut)))

-- ---- bytes taken in

takes_on : (s now : State) (xs ys : List ℕ) (m message : ℕ) {next : State} → now ≡ absorbed xs s
    → next ≡ updates (bits_up m message) now → bits_up m message ≡ bits_up_of ys → next ≡ absorbed (xs ++ ys) s
unfolding absorbed
takes_on s now xs ys m message there moved bits =
    moved
    ∙ ap (λ (l : List ℕ). updates l now) bits
    ∙ ap (absorbed ys) there
    ∙ sym (absorbed_append xs ys s)

-- m bytes from `at`, as a message, where those before `at` are in; `n`, `message` and `read` are what the code names
pub absorbs_on : (bytes : List ℕ) (s now : State) (at m : ℕ) {next : State} {n message read : ℕ} → at + m ≤ length bytes
    → Below 256 bytes → now ≡ absorbed (slice bytes 0 at) s → next ≡ updates (bits_up n message) now → n ≡ 8 * m
    → message ≡ read → read ≡ number 256 (reverse (slice bytes at m)) → next ≡ absorbed (slice bytes 0 (at + m)) s
absorbs_on bytes s now at m room b there moved bits same seen =
    let some : List ℕ = slice bytes at m in
    let low : ℕ = number 256 (reverse some) in
    let long : length some ≡ m = length_slice bytes at m room in
    takes_on s now (slice bytes 0 at) some (8 * m) low there
    (moved ∙ ap₂ (λ (k v : ℕ). updates (bits_up k v) now) bits (same ∙ seen))
    (ap (λ (k : ℕ). bits_up (8 * k) low) (sym long) ∙ bytes_up some (below_slice bytes at m b))
    ∙ ap (λ (p : ℕ). absorbed (slice bytes 0 at ++ slice bytes p m) s) (sym (zero-add at))
    ∙ ap (λ (l : List ℕ). absorbed l s) (sym (slice_add bytes 0 at m))

-- the same of bytes that are lent enciphered: the message is what was read under a word of their keystream
pub absorbs_under : (bytes : List ℕ) (k l : Keystream) (s now : State) (at m word : ℕ) {next : State}
    {n message read : ℕ}
    → m ≤ 8 → at + m ≤ length bytes → Below 256 bytes → now ≡ absorbed (enciphered k (slice bytes 0 at)) s
    → next ≡ updates (bits_up n message) now → n ≡ 8 * m → message ≡ bit_xor read word
    → read ≡ number 256 (reverse (slice bytes at m)) → l ≡ from at k → Lowly 8 word l
    → next ≡ absorbed (enciphered k (slice bytes 0 (at + m))) s
absorbs_under bytes k l s now at m word {message = message} few room b there moved bits mixed seen on gives =
    let some : List ℕ = slice bytes at m in
    let long : length some ≡ m = length_slice bytes at m room in
    let same : message ≡ bit_xor (number 256 (reverse some)) word = mixed ∙ ap (λ (v : ℕ). bit_xor v word) seen in
    takes_on s now (enciphered k (slice bytes 0 at)) (enciphered l some) (8 * m) message there
    (moved ∙ ap (λ (j : ℕ). updates (bits_up j message) now) bits)
    (ap₂ (λ (j v : ℕ). bits_up (8 * j) v) (sym long) same
    ∙ bytes_under l some word (below_slice bytes at m b) (λ i h. gives i (omega arith)))
    ∙ ap (λ (g : Keystream). absorbed (enciphered k (slice bytes 0 at) ++ enciphered g some) s) on
    ∙ ap (λ (p : ℕ). absorbed (enciphered k (slice bytes 0 at) ++ enciphered (from at k) (slice bytes p m)) s)
    (sym (zero-add at))
    ∙ ap (λ (j : List ℕ). absorbed j s) (runs_append k bytes 0 at m (front_room room))
  where
    front_room : at + m ≤ length bytes → 0 + (at + m) ≤ length bytes
    front_room h = omega arith
