-- Parts of a run under words of the keystream with the first byte as the most significant: all eight bytes of a word, the
-- first bytes of one, and each part behind those before it.
use mathlib.Core.{Path.◌≡◌, Path.refl, Path.sym, Path.ap, Path.ap₂, Path.subst, Path.◌∙◌, List.List, List.◌++◌}
use mathlib.Core.List.{reverse}
use Prim.Native.Nat.{ℕ, zero, suc, ◌+◌, ◌-◌, ◌*◌, ◌/◌, ◌%◌, ◌^◌, ◌<◌, ◌≤◌}
use native.Mathlib.{Nat.zero-add, Nat.mod-eq_of_lt, Nat.lt_of_le_of_lt, Omega.arith}
use lib.{ListN.length, ListN.get_or, ListN.take, Pow.shr-shr, Pow.shr_le}
use Rattle.octets.specs.{Buffers.slice, Buffers.placed, Buffers.put, Digits.digits}
use Rattle.octets.specs.Stream.{Keystream, from, enciphered}
use Rattle.octets.proofs.Buffers.{goes_on, drop_placed}
use Rattle.octets.proofs.LowFirst.{below_reverse, byte_up, length_reverse}
use Rattle.octets.proofs.Numbers.{Below, digit_at, length_digits, number_below}
use Rattle.octets.proofs.{Slices.length_slice, Streams.power_of_bytes}
use Rattle.octets.proofs.Streams.{Gives, byte_of_word, length_run, enciphered_same, runs_append}
use Rattle.samples.specs.Words.{swapped}
use Rattle.samples.proofs.Reversed.{swapped_digits}
use Rattle.shift_registers.specs.Words.{shifted}
use Rattle.triad.proofs.Bytes.{Lowly}

-- a word of bits swapped, its first byte the most significant
pub swap_gives : (z : ℕ) (k : Keystream) {w : ℕ} → w ≡ swapped z → Lowly 8 z k → Gives 8 w k
swap_gives z k e gives i h =
    ap (λ (v : ℕ). get_or (digits 256 8 v) i 0) e
    ∙ ap (λ (l : List ℕ). get_or l i 0) (swapped_digits z)
    ∙ byte_up 256 8 z i h ∙ gives i h

below_digits : (n x : ℕ) → Below 256 (digits 256 n x)
unfolding digits
below_digits zero x i = omega arith
below_digits (suc n) x zero = omega arith
below_digits (suc n) x (suc i) = below_digits n x i

swapped_below : (z : ℕ) → swapped z < 2 ^ 64
unfolding swapped
swapped_below z =
    let back : List ℕ = reverse (digits 256 8 z) in
    subst (λ (n : ℕ). swapped z < 256 ^ n) (length_reverse (digits 256 8 z) ∙ length_digits 256 8 z)
    (number_below 256 back (below_reverse (digits 256 8 z) (below_digits 8 z)))

-- and its first n bytes
pub part_gives : (n w : ℕ) (k : Keystream) {v bits : ℕ} → n ≤ 8 → w < 2 ^ 64 → Gives 8 w k → bits ≡ 8 * n
    → v ≡ shifted 0 w bits → Gives n v k
part_gives n w k {v} {bits} few small gives same e i h =
    let down : ℕ = 64 - bits in
    let whole : v ≡ w / 2 ^ down =
    e ∙ ap (λ (x : ℕ). x / 2 ^ down % 2 ^ 64) (nothing w) ∙ mod-eq_of_lt (lt_of_le_of_lt (shr_le w down) small) in
    let place : down + 8 * (n - 1 - i) ≡ 8 * (8 - 1 - i) = omega arith in
    digit_at 256 n v i h
    ∙ ap₂ (λ (x p : ℕ). x / p % 256) whole (power_of_bytes (n - 1 - i))
    ∙ ap (λ (x : ℕ). x % 256) (shr-shr w down (8 * (n - 1 - i)) ∙ ap (λ (x : ℕ). w / 2 ^ x) place)
    ∙ ap (λ (p : ℕ). w / p % 256) (sym (power_of_bytes (8 - 1 - i)))
    ∙ sym (digit_at 256 8 w i (omega arith))
    ∙ gives i (omega arith)
  where
    nothing : (x : ℕ) → 0 * 2 ^ 64 + x ≡ x
    nothing x = omega arith

-- both, of a word of bits
pub first_bytes : (n z : ℕ) (k : Keystream) → n ≤ 8 → Lowly 8 z k → Gives n (shifted 0 (swapped z) (8 * n)) k
first_bytes n z k few gives =
    part_gives n (swapped z) k few (swapped_below z) (swap_gives z k refl gives) refl refl

-- m bytes from `at` under a word, where those before `at` are done
pub covers_on : (k l : Keystream) (d e : List ℕ) (at m w : ℕ) {e' : List ℕ}
    → e ≡ placed d 0 (enciphered k (slice d 0 at)) → at + m ≤ length d → l ≡ from at k → Gives m w l
    → e' ≡ put e at (enciphered (byte_of_word m w) (slice e at m)) → e' ≡ placed d 0 (enciphered k (slice d 0 (at + m)))
covers_on k l d e at m w there room on gives done =
    let front : List ℕ = enciphered k (slice d 0 at) in
    let more : List ℕ = enciphered (from at k) (slice d at m) in
    let long : length front ≡ at = length_run k d 0 at (omega arith) in
    let short : length more ≡ m = length_run (from at k) d at m room in
    let some : length (slice d at m) ≡ m = length_slice d at m room in
    let behind : slice e at m ≡ slice d at m =
    ap (λ (l : List ℕ). slice l at m) there
    ∙ subst (λ (n : ℕ). slice (placed d 0 front) n m ≡ slice d n m) long
    (ap (take m) (drop_placed d front (omega arith))) in
    done
    ∙ ap (λ (l : List ℕ). put e at (enciphered (byte_of_word m w) l)) behind
    ∙ ap (put e at) (enciphered_same (byte_of_word m w) l (slice d at m) (λ i h. gives i (omega arith)))
    ∙ ap (λ (g : Keystream). put e at (enciphered g (slice d at m))) on
    ∙ goes_on d 0 front more there (sym long ∙ sym (zero-add (length front))) (omega arith)
    ∙ ap (placed d 0)
    (ap (λ (p : ℕ). front ++ enciphered (from at k) (slice d p m)) (sym (zero-add at))
    ∙ runs_append k d 0 at m (front_room room))
  where
    front_room : at + m ≤ length d → 0 + (at + m) ≤ length d
    front_room h = omega arith
