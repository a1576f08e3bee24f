-- The keystream as bytes: eight bits at a time make the bytes, so a word of bits is a word of bytes.
use mathlib.Core.{Path.◌≡◌, Path.refl, Path.sym, Path.ap, Path.ap₂, Path.◌∙◌, List.List}
use Prim.Native.Nat.{ℕ, zero, suc, ◌+◌, ◌-◌, ◌*◌, ◌/◌, ◌%◌, ◌^◌, ◌≤◌}
use native.Mathlib.Omega.{arith}
use lib.{Bits.bit_xor, ListN.length, Pow.high, Pow.low}
use Rattle.octets.specs.Buffers.{slice, placed, put}
use Rattle.octets.specs.Digits.{number, number_after, number_at, digits, word, byte_of}
use Rattle.octets.specs.Stream.{from, enciphered}
use Rattle.octets.proofs.Numbers.{Below, digit_at}
use Rattle.octets.proofs.Streams.{byte_of_word, power_of_bytes, Gives}
use Rattle.octets.proofs.Streams.{OfBytes, under, run_under, two_under}
use Rattle.taps.specs.{Keystream.bits, Keystream.keystream}
use Rattle.taps.specs.Registers.{State, next, output_bit, steps}
use Rattle.taps.proofs.Steps.{steps_bytes, number_bits, bits_small}

-- n bytes on, the keystream is that of the state 8n steps on
pub keystream_from : (n : ℕ) (s : State) → from n (keystream s) ≡ keystream (steps (8 * n) s)
unfolding keystream steps
keystream_from n s = λ j i. keystream (steps_bytes n i s j) 0

-- so a state that has gone so far has the keystream from there on
pub gone : (s : State) (n : ℕ) {now : State} → now ≡ steps (8 * n) s → keystream now ≡ from n (keystream s)
gone s n e = ap keystream e ∙ sym (keystream_from n s)

-- and its elements are bytes
pub keystream_bytes : (s : State) → OfBytes (keystream s)
unfolding keystream
keystream_bytes s n = bits_small 8 (steps (8 * n) s)

-- the word that 8n bits make
word_gives : (n : ℕ) (s : State) → Gives n (number 2 (bits (8 * n) s)) (keystream s)
unfolding keystream
word_gives n s i h =
    let m : ℕ = 8 * (n - 1 - i) in
    let cut : 8 * n ≡ 8 * i + 8 + m = omega arith in
    digit_at 256 n (number 2 (bits (8 * n) s)) i h
    ∙ ap₂ (λ (k p : ℕ). number 2 (bits k s) / p % 256) cut (power_of_bytes (n - 1 - i))
    ∙ ap (λ (v : ℕ). v / 2 ^ m % 256) (number_bits (8 * i + 8) m s)
    ∙ ap (λ (v : ℕ). v % 256) (high (number 2 (bits (8 * i + 8) s)) m (bits_small m (steps (8 * i + 8) s)))
    ∙ ap (λ (v : ℕ). v % 256) (number_bits (8 * i) 8 s)
    ∙ low (number 2 (bits (8 * i) s)) 8 (bits_small 8 (steps (8 * i) s))

-- a part of the input read as a number, enciphered, and written back
module _ (input : List ℕ) (at n : ℕ) (s : State) (small : n ≤ 8) (hi : at + n ≤ length input)
    (bytes : Below 256 input) where
  pub run_read : digits 256 n (bit_xor (word (number_at input at n)) (number 2 (bits (8 * n) s)))
      ≡ enciphered (keystream s) (slice input at n)
  run_read = run_under (keystream s) input at n _ small hi bytes (word_gives n s)

-- two covers, the second from registers that have gone as far as the first came: m bytes under one word, and n more under
-- another
pub two_covers : (s mid : State) (input output left : List ℕ) (at m n one two : ℕ) → m ≤ 8 → n ≤ 8 → Below 256 input
    → at + (m + n) ≤ length input → at + (m + n) ≤ length output → mid ≡ steps (8 * m) s
    → one ≡ number 2 (bits (8 * m) s) → left ≡ put output at (under input at m one) → two ≡ number 2 (bits (8 * n) mid)
    → put left (at + m) (under input (at + m) n two)
    ≡ placed output at (enciphered (keystream s) (slice input at (m + n)))
two_covers s mid input output left at m n one two hm hn bytes hi ho gone e done f =
    let later = f ∙ ap (λ (t : State). number 2 (bits (8 * n) t)) gone in
    let on : (i : ℕ) → keystream (steps (8 * m) s) i ≡ keystream s (m + i) = λ i. sym (λ j. keystream_from m s j i) in
    two_under (keystream s) input output left at m n one two hm hn bytes hi ho
    (λ i h. ap (λ (z : ℕ). byte_of_word m z i) e ∙ word_gives m s i h) done
    (λ i h. ap (λ (z : ℕ). byte_of_word n z i) later ∙ word_gives n (steps (8 * m) s) i h ∙ on i)

-- ---- registers of zeros never move, and give a keystream of zeros

abbrev nothing : State
nothing = record { a = 0; b = 0; c = 0 }

still : (n : ℕ) → steps n nothing ≡ nothing
unfolding steps next
still zero = refl
still (suc n) = still n

pub zeros_silent : (n : ℕ) → keystream nothing n ≡ 0
unfolding keystream bits output_bit next number_after
zeros_silent n = ap (λ (s : State). byte_of (bits 8 s)) (still (8 * n))
