-- The keystream as bytes: eight bits at a time make the bytes, so a word of bits is a word of bytes, the first of them
-- its lowest.
use mathlib.Core.{Path.◌≡◌, Path.refl, Path.sym, Path.ap, Path.ap₂, Path.subst, Path.◌∙◌, List.List, List.◌++◌}
use mathlib.Core.List.{reverse}
use Prim.Native.Nat.{ℕ, zero, suc, ◌+◌, ◌-◌, ◌*◌, ◌/◌, ◌%◌, ◌^◌, ◌<◌}
use native.Mathlib.{Numerals.one-add, Omega.arith}
use lib.{ListN.length, ListN.get_or, ListN.length-replicate, Seq.ext_get_or}
use Rattle.octets.specs.{Digits.number, Digits.digits, LowFirst.bits_up, LowFirst.number_up, Stream.Keystream}
use Rattle.octets.specs.Stream.{from}
use Rattle.octets.proofs.LowFirst.{up_zeros, up_below, midst_up, byte_up, length_reverse}
use Rattle.octets.proofs.{Numbers.length_digits, Streams.power_of_bytes, Streams.OfBytes}
use Rattle.samples.specs.Words.{swapped}
use Rattle.shift_registers.specs.Registers.{State}
use Rattle.triad_taps.proofs.Strides.{outputs_append, length_outputs, outputs_below}
use Rattle.triad.specs.{Keystream.keystream, State.outputs, State.permuted, State.updates, State.zeros}
use Rattle.triad.specs.Tag.{first_of, tag_of}
use Rattle.triad.proofs.Steps.{bytes_on, zeros_add}

-- n bytes on, the keystream is that of the state 8n updates on
pub keystream_from : (n : ℕ) (s : State) → from n (keystream s) ≡ keystream (updates (zeros (8 * n)) s)
unfolding keystream
keystream_from n s = λ j i. number_up (outputs (zeros 8) (bytes_on n i s j))

-- so a state that has gone so far has the keystream from there on
pub gone : (s : State) (n : ℕ) {now : State} → now ≡ updates (zeros (8 * n)) s → keystream now ≡ from n (keystream s)
gone s n e = ap keystream e ∙ sym (keystream_from n s)

length_out : (n : ℕ) (s : State) → length (outputs (zeros n) s) ≡ n
length_out n s = length_outputs (zeros n) s ∙ length-replicate n 0

-- and its elements are bytes
pub keystream_bytes : (s : State) → OfBytes (keystream s)
unfolding keystream
keystream_bytes s n =
    let there : State = updates (zeros (8 * n)) s in
    subst (λ (k : ℕ). number_up (outputs (zeros 8) there) < 2 ^ k) (length_out 8 there)
    (up_below (outputs (zeros 8) there) (outputs_below (zeros 8) there))

-- ---- a word of them

-- byte number i of a word, from the lowest on, is the keystream's
abbrev pub Lowly : ℕ → ℕ → Keystream → Type 0
Lowly n z k = (i : ℕ) → i < n → z / 256 ^ i % 256 ≡ k i

pub word_gives : (s : State) {z message : ℕ} → z ≡ number_up (outputs (bits_up 64 message) s) → message ≡ 0
    → Lowly 8 z (keystream s)
unfolding keystream
word_gives s {z} {message} e none i h =
    let m : ℕ = 8 * (7 - i) in
    let there : State = updates (zeros (8 * i)) s in
    let front : List ℕ = outputs (zeros (8 * i)) s in
    let bits : List ℕ = outputs (zeros 8) there in
    let rest : List ℕ = outputs (zeros m) (updates (zeros 8) there) in
    let cut : 64 ≡ 8 * i + (8 + m) = omega arith in
    let all : outputs (bits_up 64 message) s ≡ front ++ (bits ++ rest) =
    ap (λ (v : ℕ). outputs (bits_up 64 v) s) none
    ∙ ap (λ (l : List ℕ). outputs l s)
    (up_zeros 64 ∙ ap zeros cut ∙ zeros_add (8 * i) (8 + m) ∙ ap (λ (l : List ℕ). zeros (8 * i) ++ l) (zeros_add 8 m))
    ∙ outputs_append (zeros (8 * i)) (zeros 8 ++ zeros m) s
    ∙ ap (λ (l : List ℕ). front ++ l) (outputs_append (zeros 8) (zeros m) there) in
    ap₂ (λ (v p : ℕ). v / p % 256) (e ∙ ap number_up all) (power_of_bytes i)
    ∙ ap₂ (λ (x y : ℕ). number_up (front ++ (bits ++ rest)) / 2 ^ x % 2 ^ y) (sym (length_out (8 * i) s))
    (sym (length_out 8 there))
    ∙ midst_up front bits rest (outputs_below (zeros (8 * i)) s) (outputs_below (zeros 8) there)

-- all eight of them, as bytes
first_at : (n : ℕ) (k : Keystream) (i : ℕ) → i < n → get_or (first_of n k) i 0 ≡ k i
unfolding first_of
first_at zero k i h = absurd (omega arith)
first_at (suc n) k zero h = refl
first_at (suc n) k (suc i) h = first_at n (from 1 k) i (omega arith) ∙ ap k (one-add i)

length_first : (n : ℕ) (k : Keystream) → length (first_of n k) ≡ n
unfolding first_of
length_first zero k = refl
length_first (suc n) k = ap suc (length_first n (from 1 k))

pub swapped_first : (z : ℕ) (k : Keystream) → Lowly 8 z k → swapped z ≡ number 256 (first_of 8 k)
unfolding swapped
swapped_first z k gives =
    let back : List ℕ = reverse (digits 256 8 z) in
    let long : length back ≡ 8 = length_reverse (digits 256 8 z) ∙ length_digits 256 8 z in
    ap (number 256)
    (ext_get_or 0 back (first_of 8 k) (long ∙ sym (length_first 8 k))
    (λ i h. byte_up 256 8 z i (omega arith) ∙ gives i (omega arith) ∙ sym (first_at 8 k i (omega arith))))

-- the tag: a word behind the permutation that takes a one
pub tag_word : (s : State) {t : State} {bit z message r : ℕ} → t ≡ permuted bit s → bit ≡ 1
    → z ≡ number_up (outputs (bits_up 64 message) t) → message ≡ 0 → r ≡ swapped z → r ≡ number 256 (tag_of s)
unfolding tag_of
tag_word s {t} {z = z} there one word none turned =
    turned
    ∙ swapped_first z (keystream t) (word_gives t word none)
    ∙ ap (λ (u : State). number 256 (first_of 8 (keystream u))) (there ∙ ap (λ (b : ℕ). permuted b s) one)
