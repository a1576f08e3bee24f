-- A run covered word by word, the bytes of each under a word of the keystream, where they stand.
use mathlib.Core.{Path.◌≡◌, Path.refl, Path.sym, Path.ap, Path.ap₂, Path.subst, Path.◌∙◌, List.List, List.◌++◌}
use mathlib.Core.List.{append_assoc}
use Prim.Native.Nat.{ℕ, ◌+◌, ◌*◌, ◌/◌, ◌%◌, ◌^◌, ◌≤◌}
use native.Mathlib.{Nat.zero-add, Omega.arith}
use borrow.Rule.Slice.PartMut.{put_mid}
use lib.{ListN.length, ListN.take, ListN.drop, Seq.drop-drop, Seq.take_all}
use Rattle.octets.specs.{Buffers.slice, Buffers.placed, Buffers.put, LowFirst.bits_up}
use Rattle.octets.specs.Stream.{Keystream, from, enciphered}
use Rattle.octets.proofs.Buffers.{goes_on, drop_placed, put_whole, put_placed}
use Rattle.octets.proofs.Slices.{length_slice}
use Rattle.octets.proofs.Streams.{byte_of_word, length_enciphered, length_run, enciphered_same, runs_append}
use Rattle.samples.specs.Words.{swapped}
use Rattle.shift_registers.specs.{Registers.State, Words.shifted}
use Rattle.triad.specs.State.{updates, zeros}
use Rattle.triad.proofs.{Bytes.Lowly, Steps.silent, Steps.bytes_on}
use Rattle.triad.proofs.Parts as parts

-- n bytes from a message of nothing, behind those that came before
pub gone_on : (s now : State) (at m : ℕ) {next : State} {n message : ℕ} → now ≡ updates (zeros (8 * at)) s
    → next ≡ updates (bits_up n message) now → n ≡ 8 * m → message ≡ 0 → next ≡ updates (zeros (8 * (at + m))) s
gone_on s now at m there moved few none =
    moved
    ∙ ap₂ (λ (k v : ℕ). updates (bits_up k v) now) few none
    ∙ silent (8 * m) now
    ∙ ap (updates (zeros (8 * m))) there
    ∙ sym (bytes_on at m s)

-- a word's bytes from the lowest on
abbrev pub bytes_of : ℕ → Keystream
bytes_of w i = w / 256 ^ i % 256

-- a part that was lent and came back as long as it was
in_middle : (e : List ℕ) (at m : ℕ) (part : List ℕ) → length part ≡ m → at + m ≤ length e → put_mid at m e part ≡ put e at part
unfolding placed
in_middle e at m part long room =
    ap (λ (l : List ℕ). take at e ++ (part ++ l)) (drop-drop m at e ∙ ap (λ (n : ℕ). drop (at + n) e) (sym long))
    ∙ sym (append_assoc (take at e) part (drop (at + length part) e))
    ∙ sym (put_placed e at part (omega arith))

-- m bytes from `at` under a word of the keystream l, where those before `at` are done
pub covers_on : (k l : Keystream) (d e : List ℕ) (at m w : ℕ) {part : List ℕ}
    → e ≡ placed d 0 (enciphered k (slice d 0 at)) → length e ≡ length d → at + m ≤ length d → l ≡ from at k → Lowly m w l
    → part ≡ enciphered (bytes_of w) (slice e at m)
    → put_mid at m e part ≡ placed d 0 (enciphered k (slice d 0 (at + m)))
covers_on k l d e at m w {part} there same room on gives done =
    let front : List ℕ = enciphered k (slice d 0 at) in
    let more : List ℕ = enciphered (from at k) (slice d at m) in
    let long : length front ≡ at = length_run k d 0 at (omega arith) in
    let short : length more ≡ m = length_run (from at k) d at m room in
    let some : length (slice d at m) ≡ m = length_slice d at m room in
    let behind : slice e at m ≡ slice d at m =
    ap (λ (l : List ℕ). slice l at m) there
    ∙ subst (λ (n : ℕ). slice (placed d 0 front) n m ≡ slice d n m) long
    (ap (take m) (drop_placed d front (omega arith))) in
    ap (put_mid at m e)
    (done
    ∙ ap (enciphered (bytes_of w)) behind
    ∙ enciphered_same (bytes_of w) l (slice d at m) (λ i h. gives i (omega arith)))
    ∙ in_middle e at m (enciphered l (slice d at m)) (length_run l d at m room) (omega arith)
    ∙ ap (λ (g : Keystream). put e at (enciphered g (slice d at m))) on
    ∙ goes_on d 0 front more there (sym long ∙ sym (zero-add (length front))) (omega arith)
    ∙ ap (placed d 0)
    (ap (λ (p : ℕ). front ++ enciphered (from at k) (slice d p m)) (sym (zero-add at))
    ∙ runs_append k d 0 at m (front_room room))
  where
    front_room : at + m ≤ length d → 0 + (at + m) ≤ length d
    front_room h = omega arith

-- the same of up to eight bytes, as they are under the first bytes of the word swapped; `stream` is what the code has
pub covers_part : (k l : Keystream) (d e : List ℕ) (at n z : ℕ) {part : List ℕ} {stream : ℕ} → n ≤ 8
    → e ≡ placed d 0 (enciphered k (slice d 0 at)) → length e ≡ length d → at + n ≤ length d → l ≡ from at k → Lowly 8 z l
    → part ≡ enciphered (bytes_of stream) (slice e at n) → stream ≡ z
    → put_mid at n e part ≡ placed d 0 (enciphered k (slice d 0 (at + n)))
covers_part k l d e at n z {part} {stream} few there same room on gives done given =
    let top : ℕ = shifted 0 (swapped z) (8 * n) in
    let some : length (slice e at n) ≡ n = length_slice e at n (omega arith) in
    let own : enciphered (byte_of_word n top) (slice e at n) ≡ enciphered (bytes_of z) (slice e at n) =
    enciphered_same (byte_of_word n top) (bytes_of z) (slice e at n)
    (λ i h. parts.first_bytes n z (bytes_of z) few (λ j b. refl) i (omega arith)) in
    let under : part ≡ enciphered (byte_of_word n top) (slice e at n) =
    done ∙ ap (λ (v : ℕ). enciphered (bytes_of v) (slice e at n)) given ∙ sym own in
    in_middle e at n part
    (ap length under ∙ length_enciphered (byte_of_word n top) (slice e at n) ∙ some) (omega arith)
    ∙ parts.covers_on k l d e at n top there room on (parts.first_bytes n z l few gives) (ap (put e at) under)

-- all of them
pub covers_all : (k : Keystream) (d : List ℕ) {e : List ℕ} {n : ℕ} → e ≡ placed d 0 (enciphered k (slice d 0 n))
    → n ≡ length d → e ≡ enciphered k d
covers_all k d {n = n} done whole =
    let long : length (enciphered k d) ≡ length d = length_enciphered k d in
    done
    ∙ ap (λ (l : List ℕ). placed d 0 (enciphered k l)) (take_all n d (omega arith))
    ∙ sym (put_placed d 0 (enciphered k d) (omega arith))
    ∙ put_whole d (enciphered k d) long
