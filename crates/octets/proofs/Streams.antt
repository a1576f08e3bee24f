-- The laws of bytes under any keystream. Each goes along the bytes, and moves the keystream on by one at each.
use mathlib.Core.Path.{◌≡◌, refl, sym, ap, ap₂, subst, ◌∙◌}
use mathlib.Core.List.{List, [], ◌∷◌, ◌++◌, append_assoc}
use Prim.Native.Nat.{ℕ, zero, suc, ◌+◌, ◌*◌, ◌/◌, ◌%◌, ◌^◌, ◌<◌, ◌≤◌}
use native.Mathlib.{Nat.zero-add, Nat.add_assoc, Nat.pow-suc, Numerals.one-add, Omega.arith}
use lib.Bits.{bit_xor, xor_lt, xor_shr, xor_mod}
use lib.ListN.{length, get_or, set, take, drop}
use lib.{Pow.pow-add, Seq.take_at, Seq.drop_at, Seq.length-take-le, Seq.paste}
use Rattle.octets.specs.Digits.{number, digits, number_at, word}
use Rattle.octets.specs.Buffers.{slice, placed, put}
use Rattle.octets.specs.Stream.{Keystream, from, enciphered}
use Rattle.octets.proofs.{Bits.xor_twice, Slices.length_slice, Slices.slice_add}
use Rattle.octets.proofs.Buffers.{put_placed, length_put, placed_append, take_placed, drop_placed, placed_cut}
use Rattle.octets.proofs.Buffers.{put_whole, puts_on, paste_ahead, paste_front, paste_all}
use Rattle.octets.proofs.Numbers.{Below, below_slice, digits_number, number_read}

pub from_zero : (k : Keystream) → from 0 k ≡ k
from_zero k = λ i n. k (zero-add n i)

pub from_from : (m n : ℕ) (k : Keystream) → from m (from n k) ≡ from (n + m) k
from_from m n k = λ i j. k (sym (add_assoc n m j) i)

pub length_enciphered : (k : Keystream) (xs : List ℕ) → length (enciphered k xs) ≡ length xs
unfolding enciphered
length_enciphered k [] = refl
length_enciphered k (x ∷ xs) = ap suc (length_enciphered (from 1 k) xs)

-- byte number i
pub enciphered_at : (k : Keystream) (xs : List ℕ) (i : ℕ) → i < length xs
    → get_or (enciphered k xs) i 0 ≡ bit_xor (get_or xs i 0) (k i)
unfolding enciphered
enciphered_at k [] i h = absurd (omega arith)
enciphered_at k (x ∷ xs) zero h = refl
enciphered_at k (x ∷ xs) (suc i) h =
    enciphered_at (from 1 k) xs i (omega arith) ∙ ap (λ (n : ℕ). bit_xor (get_or xs i 0) (k n)) (one-add i)

-- a stream taken in two calls, cut anywhere, is the stream taken in one
pub enciphered_append : (k : Keystream) (xs ys : List ℕ)
    → enciphered k (xs ++ ys) ≡ enciphered k xs ++ enciphered (from (length xs) k) ys
unfolding enciphered
enciphered_append k [] ys = ap (λ (l : Keystream). enciphered l ys) (sym (from_zero k))
enciphered_append k (x ∷ xs) ys =
    ap (λ (l : List ℕ). bit_xor x (k 0) ∷ l)
    (enciphered_append (from 1 k) xs ys
    ∙ ap (λ (l : Keystream). enciphered (from 1 k) xs ++ enciphered l ys)
    (from_from (length xs) 1 k ∙ ap (λ (n : ℕ). from n k) (one-add (length xs))))

-- to encipher twice under the same keystream is to do nothing
pub enciphered_twice : (k : Keystream) (xs : List ℕ) → enciphered k (enciphered k xs) ≡ xs
unfolding enciphered
enciphered_twice k [] = refl
enciphered_twice k (x ∷ xs) = ap₂ (λ (y : ℕ) (l : List ℕ). y ∷ l) (xor_twice x (k 0)) (enciphered_twice (from 1 k) xs)

-- only as much of the keystream counts as there are bytes
pub enciphered_same : (k l : Keystream) (xs : List ℕ) → ((i : ℕ) → i < length xs → k i ≡ l i)
    → enciphered k xs ≡ enciphered l xs
unfolding enciphered
enciphered_same k l [] e = refl
enciphered_same k l (x ∷ xs) e =
    ap₂ (λ (y : ℕ) (zs : List ℕ). bit_xor x y ∷ zs) (e 0 (omega arith))
    (enciphered_same (from 1 k) (from 1 l) xs (λ i h. e (1 + i) (omega arith)))

-- ---- a number's bytes, enciphered all at once

pub power_of_bytes : (n : ℕ) → 256 ^ n ≡ 2 ^ (8 * n)
power_of_bytes zero = refl
power_of_bytes (suc n) =
    pow-suc 256 n ∙ ap (λ (v : ℕ). v * 256) (power_of_bytes n) ∙ sym (pow-add 2 (8 * n) 8)
    ∙ ap (λ (e : ℕ). 2 ^ e) (omega arith)

byte_xor : (x y n : ℕ) → bit_xor x y / 256 ^ n % 256 ≡ bit_xor (x / 256 ^ n % 256) (y / 256 ^ n % 256)
byte_xor x y n =
    rw (power_of_bytes n)
    (ap (λ (v : ℕ). v % 256) (xor_shr x y (8 * n)) ∙ xor_mod (x / 2 ^ (8 * n)) (y / 2 ^ (8 * n)) 8)

-- byte number i of the last n bytes of z
abbrev pub byte_of_word : ℕ → ℕ → Keystream
byte_of_word n z = λ i. get_or (digits 256 n z) i 0

pub digits_xor : (n x z : ℕ) → digits 256 n (bit_xor x z) ≡ enciphered (byte_of_word n z) (digits 256 n x)
unfolding digits enciphered
digits_xor zero x z = refl
digits_xor (suc n) x z =
    ap₂ (λ (d : ℕ) (ds : List ℕ). d ∷ ds) (byte_xor x z n)
    (digits_xor n x z
    ∙ ap (λ (k : Keystream). enciphered k (digits 256 n x)) (λ j i. get_or (digits 256 (suc n) z) (sym (one-add i) j) 0))

-- the exclusive or of two words, written as bytes, is the first word's bytes under the second's
pub word_enciphered : (xs : List ℕ) (z : ℕ) → Below 256 xs
    → digits 256 (length xs) (bit_xor (number 256 xs) z) ≡ enciphered (byte_of_word (length xs) z) xs
word_enciphered xs z b =
    digits_xor (length xs) (number 256 xs) z
    ∙ ap (λ (l : List ℕ). enciphered (byte_of_word (length xs) z) l) (digits_number 256 (omega arith) xs b)

-- a keystream's elements are bytes
abbrev pub OfBytes : Keystream → Type 0
OfBytes k = (n : ℕ) → k n < 256

pub below_enciphered : (k : Keystream) (xs : List ℕ) → OfBytes k → Below 256 xs → Below 256 (enciphered k xs)
unfolding enciphered
below_enciphered k [] h b i = b i
below_enciphered k (x ∷ xs) h b zero = xor_lt 8 x (k 0) (b 0) (h 0)
below_enciphered k (x ∷ xs) h b (suc i) = below_enciphered (from 1 k) xs (λ n. h (1 + n)) (λ j. b (suc j)) i

-- Bytes enciphered in two runs, the second from where the first left the keystream, and what they are read as put one
-- behind the other: it is what both runs in one are read as, if that can be cut between them.
pub read_on : {A : Type 0} (read : List ℕ → List A) (k : Keystream) (xs ys : List ℕ) (d : List A) (at : ℕ)
    {e : List A} {next : ℕ} {l : Keystream}
    → ((us vs : List ℕ) → length us ≡ length xs → read (us ++ vs) ≡ read us ++ read vs)
    → l ≡ from (length xs) k → e ≡ put d at (read (enciphered k xs)) → next ≡ at + length (read (enciphered k xs))
    → next + length (read (enciphered l ys)) ≤ length d
    → put e next (read (enciphered l ys)) ≡ put d at (read (enciphered k (xs ++ ys)))
read_on read k xs ys d at {l = l} cut gone done place room =
    puts_on d at (read (enciphered k xs)) (read (enciphered l ys)) done place room
    ∙ ap (put d at)
    (sym (cut (enciphered k xs) (enciphered l ys) (length_enciphered k xs))
    ∙ ap read
    (ap (λ (j : Keystream). enciphered k xs ++ enciphered j ys) gone ∙ sym (enciphered_append k xs ys)))

-- ---- parts of an input, enciphered in their place

pub length_run : (k : Keystream) (input : List ℕ) (at n : ℕ) → at + n ≤ length input
    → length (enciphered k (slice input at n)) ≡ n
length_run k input at n h = length_enciphered k (slice input at n) ∙ length_slice input at n h

-- a part, and the part behind it from where the keystream has come to
pub runs_append : (k : Keystream) (input : List ℕ) (at m n : ℕ) → at + (m + n) ≤ length input
    → enciphered k (slice input at m) ++ enciphered (from m k) (slice input (at + m) n)
    ≡ enciphered k (slice input at (m + n))
runs_append k input at m n h =
    ap (λ (p : ℕ). enciphered k (slice input at m) ++ enciphered (from p k) (slice input (at + m) n))
    (sym (length_slice input at m (omega arith)))
    ∙ sym (enciphered_append k (slice input at m) (slice input (at + m) n))
    ∙ ap (enciphered k) (sym (slice_add input at m n))

pub runs_placed : (k : Keystream) (input output : List ℕ) (at m n : ℕ)
    → at + (m + n) ≤ length input → at + (m + n) ≤ length output
    → let left = placed output at (enciphered k (slice input at m)) in
    placed left (at + m) (enciphered (from m k) (slice input (at + m) n))
    ≡ placed output at (enciphered k (slice input at (m + n)))
runs_placed k input output at m n hi ho =
    let front : List ℕ = enciphered k (slice input at m) in
    let more : List ℕ = enciphered (from m k) (slice input (at + m) n) in
    let long : length front ≡ m = length_run k input at m (omega arith) in
    let short : length more ≡ n = length_run (from m k) input (at + m) n (omega arith) in
    ap (λ (p : ℕ). placed (placed output at front) (at + p) more) (sym long)
    ∙ placed_append output at front more (omega arith)
    ∙ ap (placed output at) (runs_append k input at m n hi)

-- what was enciphered to the front of a buffer, and what stands behind it
pub enciphered_front : (k : Keystream) (xs d : List ℕ) → length xs ≤ length d
    → let e = placed d 0 (enciphered k xs) in
    (take (length xs) e ≡ enciphered k xs) × (drop (length xs) e ≡ drop (length xs) d)
enciphered_front k xs d h =
    let run : List ℕ = enciphered k xs in
    let room : length run ≤ length d = rw (length_enciphered k xs) h in
    subst (λ (n : ℕ). (take n (placed d 0 run) ≡ run) × (drop n (placed d 0 run) ≡ drop n d)) (length_enciphered k xs)
    (take_placed d run room, drop_placed d run room)

-- two runs, one after the other, to the front of a buffer
pub enciphered_cut : (k : Keystream) (xs ys d : List ℕ) → length xs + length ys ≤ length d
    → placed d 0 (enciphered k (xs ++ ys))
    ≡ enciphered k xs ++ placed (drop (length xs) d) 0 (enciphered (from (length xs) k) ys)
enciphered_cut k xs ys d h =
    let front : List ℕ = enciphered k xs in
    let more : List ℕ = enciphered (from (length xs) k) ys in
    let long : length front ≡ length xs = length_enciphered k xs in
    let rest : length more ≡ length ys = length_enciphered (from (length xs) k) ys in
    ap (placed d 0) (enciphered_append k xs ys)
    ∙ placed_cut d front more (omega arith)
    ∙ ap (λ (n : ℕ). front ++ placed (drop n d) 0 more) long

-- a run that stands in its place, lent by itself and enciphered
pub in_place : (k : Keystream) (d run e : List ℕ) (at n : ℕ) → e ≡ put d at run → length run ≡ n → at + n ≤ length d
    → take at e ++ (enciphered k (slice e at n) ++ drop n (drop at e)) ≡ put d at (enciphered k run)
unfolding placed
in_place k d run e at n done long room =
    let rest : List ℕ = drop (at + length run) d in
    let front : length (take at d) ≡ at = length-take-le at d (omega arith) in
    let same : length (enciphered k run) ≡ length run = length_enciphered k run in
    let there = done ∙ put_placed d at run (omega arith) ∙ append_assoc (take at d) run rest in
    let before = ap (take at) there ∙ take_at (take at d) (run ++ rest) at front in
    let on = ap (drop at) there ∙ drop_at (take at d) (run ++ rest) at front in
    let held = ap (take n) on ∙ take_at run rest n long in
    let behind = ap (drop n) on ∙ drop_at run rest n long ∙ ap (λ (m : ℕ). drop (at + m) d) (sym same) in
    (λ i. before i ++ (enciphered k (held i) ++ behind i))
    ∙ sym (append_assoc (take at d) (enciphered k run) (drop (at + length (enciphered k run)) d))
    ∙ sym (put_placed d at (enciphered k run) (omega arith))

-- ---- n bytes read as a number, under a word of keystream, and written back

-- the last n bytes of a word are the keystream's first
abbrev pub Gives : ℕ → ℕ → Keystream → Type 0
Gives n z k = (i : ℕ) → i < n → byte_of_word n z i ≡ k i

-- the bytes that `cover` writes
abbrev pub under : List ℕ → ℕ → ℕ → ℕ → List ℕ
under input at n z = digits 256 n (bit_xor (word (number_at input at n)) z)

module _ (k : Keystream) (input : List ℕ) (at n z : ℕ) (small : n ≤ 8) (hi : at + n ≤ length input)
    (bytes : Below 256 input) (gives : Gives n z k) where
  pub run_under : under input at n z ≡ enciphered k (slice input at n)
  run_under =
      let some : List ℕ = slice input at n in
      let long : length some ≡ n = length_slice input at n hi in
      ap (λ (v : ℕ). digits 256 n (bit_xor v z)) (number_read input at n bytes small)
      ∙ subst (λ (m : ℕ). digits 256 m (bit_xor (number 256 some) z) ≡ enciphered (byte_of_word m z) some) long
      (word_enciphered some z (below_slice input at n bytes))
      ∙ enciphered_same (byte_of_word n z) k some (λ i h. gives i (omega arith))

  pub run_put : (output : List ℕ) → at + n ≤ length output
      → put output at (under input at n z) ≡ placed output at (enciphered k (slice input at n))
  run_put output ho =
      let long : length (enciphered k (slice input at n)) ≡ n = length_run k input at n hi in
      ap (put output at) run_under ∙ put_placed output at (enciphered k (slice input at n)) (omega arith)

-- m bytes under one word, and n behind them under another
pub two_under : (k : Keystream) (input output left : List ℕ) (at m n one two : ℕ) → m ≤ 8 → n ≤ 8 → Below 256 input
    → at + (m + n) ≤ length input → at + (m + n) ≤ length output
    → Gives m one k → left ≡ put output at (under input at m one) → Gives n two (from m k)
    → put left (at + m) (under input (at + m) n two) ≡ placed output at (enciphered k (slice input at (m + n)))
two_under k input output left at m n one two hm hn bytes hi ho first done second =
    let long : length left ≡ length output = ap length done ∙ length_put output at _ in
    let so = done ∙ run_put k input at m one hm (omega arith) bytes first output (omega arith) in
    run_put (from m k) input (at + m) n two hn (omega arith) bytes second left (omega arith)
    ∙ ap (λ (d : List ℕ). placed d (at + m) (enciphered (from m k) (slice input (at + m) n))) so
    ∙ runs_placed k input output at m n hi ho

-- ---- bytes enciphered one by one where they stand

module _ (k : Keystream) (bytes : List ℕ) where
  -- the first i are enciphered, and byte number i, which stands there as it was, follows
  pub one_covered : (i : ℕ) {left : List ℕ} {place byte : ℕ} → left ≡ paste bytes 0 (enciphered k bytes) i
      → i < length bytes → place ≡ i → byte ≡ k i
      → set left i (bit_xor (get_or left place 0) byte) ≡ paste bytes 0 (enciphered k bytes) (i + 1)
  one_covered i {left} {place} {byte} done h there same =
      let run : List ℕ = enciphered k bytes in
      let long : length run ≡ length bytes = length_enciphered k bytes in
      let ahead : get_or left i 0 ≡ get_or bytes i 0 =
      ap (λ (l : List ℕ). get_or l i 0) done ∙ paste_ahead bytes run i 0 h (omega arith) in
      let new =
      (λ j. bit_xor (get_or left (there j) 0) (same j)) ∙ ap (λ (x : ℕ). bit_xor x (k i)) ahead
      ∙ sym (enciphered_at k bytes i h) in
      ap₂ (λ (l : List ℕ) (x : ℕ). set l i x) done new ∙ paste_front bytes run i 0 h (omega arith)

  pub all_covered : {i : ℕ} {left : List ℕ} → left ≡ paste bytes 0 (enciphered k bytes) i → i ≡ length bytes
      → left ≡ enciphered k bytes
  all_covered {i} done whole =
      let long : length (enciphered k bytes) ≡ length bytes = length_enciphered k bytes in
      done ∙ paste_all bytes 0 (enciphered k bytes) i (omega arith) (omega arith)
      ∙ put_whole bytes (enciphered k bytes) long
