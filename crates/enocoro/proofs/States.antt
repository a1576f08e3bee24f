-- How states move: a state of bytes stays one, packed and taken apart again it is the same, and rounds add up.
use mathlib.Core.{Path.◌≡◌, Path.refl, Path.sym, Path.ap, Path.◌∙◌, List.List, List.[], List.◌∷◌}
use mathlib.Core.List.{◌++◌}
use Prim.Native.Nat.{ℕ, zero, suc, ◌+◌, ◌^◌, ◌<◌, ◌≤◌}
use native.Mathlib.Nat.{mod-eq_of_lt, zero-add, suc-add}
use native.Mathlib.Omega.{arith}
use lib.Bits.{bit_xor, xor_lt}
use lib.ListN.{length, take, length-append, length-take}
use lib.Seq.{take_all}
use Rattle.octets.specs.{Buffers.slice, Digits.digits, Digits.number_at, Stream.from}
use Rattle.octets.proofs.LowFirst.{below_append}
use Rattle.octets.proofs.Numbers.{Below, below_take, digits_read}
use Rattle.octets.proofs.{Slices.slice_add, Streams.OfBytes}
use Rattle.sbox.specs.{Field.twice, S8.s8}
use Rattle.sbox.proofs.Tables.{s8_below, twice_below}
use Rattle.enocoro.specs.State.{State, ◌⟨◌⟩, u0, u1, next, rounds, loaded, constants, counted}
use Rattle.enocoro.specs.State.{blanks, warm_up, started}
use Rattle.enocoro.specs.{Calls.skipping, Keystream.keystream, Keystream.enocoro, Record.state, Record.packed}
use Rattle.enocoro.specs.declared.Registers.{Registers}
use Rattle.enocoro.proofs.Words.{◌and◌, nothing, below_digits, below_each, word_digits}

-- ---- the two bytes a stay bytes, whatever b is

pub record Small (s : State) : Type 0 where
  pub a0 : s.a0 < 256
  pub a1 : s.a1 < 256

pub small_next : (s : State) → Small s → Small (next s)
unfolding next
small_next s h =
    let x0 : u0 s < 256 = xor_lt 8 s.a0 (s8 (s.b ⟨ 2 ⟩)) h.a0 (s8_below (s.b ⟨ 2 ⟩)) in
    let x1 : u1 s < 256 = xor_lt 8 s.a1 (s8 (s.b ⟨ 7 ⟩)) h.a1 (s8_below (s.b ⟨ 7 ⟩)) in
    record {
      a0 =
          xor_lt 8 (bit_xor (u0 s) (u1 s)) (s8 (s.b ⟨ 16 ⟩)) (xor_lt 8 (u0 s) (u1 s) x0 x1)
          (s8_below (s.b ⟨ 16 ⟩));
      a1 =
          xor_lt 8 (bit_xor (u0 s) (twice (u1 s))) (s8 (s.b ⟨ 29 ⟩))
          (xor_lt 8 (u0 s) (twice (u1 s)) x0 (twice_below (u1 s) x1))
          (s8_below (s.b ⟨ 29 ⟩));
    }

pub small_rounds : (n : ℕ) (s : State) → Small s → Small (rounds n s)
unfolding rounds
small_rounds zero s h = h
small_rounds (suc n) s h = small_rounds n (next s) (small_next s h)

small_blanks : (n ctr : ℕ) (s : State) → Small s → Small (blanks n ctr s)
unfolding blanks counted
small_blanks zero ctr s h = h
small_blanks (suc n) ctr s h =
    small_blanks n (twice ctr) (next (counted ctr s))
    (small_next (counted ctr s) (record { a0 = h.a0; a1 = h.a1 }))

-- every key and every value give a keystream of bytes
pub keystream_bytes : (key iv : List ℕ) → OfBytes (enocoro.stream key iv)
unfolding keystream loaded
keystream_bytes key iv n =
    (small_rounds n (started key iv)
    (small_blanks warm_up 1 (loaded key iv) (record { a0 = omega arith; a1 = omega arith }))).a1

-- ---- all of a state is bytes

pub record Bytes (s : State) : Type 0 where
  pub small : Small s
  pub long : length s.b ≡ 32
  pub below : Below 256 s.b

pub bytes_next : (s : State) → Bytes s → Bytes (next s)
unfolding next
bytes_next s h =
    let x : Below 256 s.b = h.below in
    let xored : (i j : ℕ) → bit_xor (s.b ⟨ i ⟩) (s.b ⟨ j ⟩) < 256 =
    λ i j. xor_lt 8 (s.b ⟨ i ⟩) (s.b ⟨ j ⟩) (x i) (x j) in
    record {
      small = small_next s h.small;
      long = refl;
      below =
          below_each
          (xor_lt 8 (s.b ⟨ 31 ⟩) s.a0 (x 31) h.small.a0 and x 0 and x 1 and xored 2 6 and x 3 and x 4 and x 5
          and x 6 and xored 7 15 and x 8 and x 9 and x 10 and x 11 and x 12 and x 13 and x 14 and x 15 and xored 16 28
          and x 17 and x 18 and x 19 and x 20 and x 21 and x 22 and x 23 and x 24 and x 25 and x 26 and x 27 and x 28
          and x 29 and x 30 and nothing);
    }

pub bytes_rounds : (n : ℕ) (s : State) → Bytes s → Bytes (rounds n s)
unfolding rounds
bytes_rounds zero s h = h
bytes_rounds (suc n) s h = bytes_rounds n (next s) (bytes_next s h)

-- every record stands for bytes
pub bytes_state : (r : Registers) → Bytes (state r)
unfolding state digits
bytes_state r =
    let of : (w : ℕ) → Below 256 (digits 256 8 w) = below_digits 8 in
    let ds : ℕ → List ℕ = digits 256 8 in
    record {
      small = record { a0 = omega arith; a1 = omega arith };
      long = refl;
      below =
          below_append (ds r.b0) (ds r.b1 ++ ds r.b2 ++ ds r.b3) (of r.b0)
          (below_append (ds r.b1) (ds r.b2 ++ ds r.b3) (of r.b1)
          (below_append (ds r.b2) (ds r.b3) (of r.b2) (of r.b3)));
    }

pub bytes_loaded : (key iv : List ℕ) → length key ≡ 16 → length iv ≡ 8 → Below 256 key → Below 256 iv
    → Bytes (loaded key iv)
unfolding loaded
bytes_loaded key iv k v bk bv =
    record {
      small = record { a0 = omega arith; a1 = omega arith };
      long = simp (length-append) (omega arith);
      below =
          below_append (key ++ iv) constants (below_append key iv bk bv)
          (below_each
          (omega arith and omega arith and omega arith and omega arith and omega arith and omega arith and omega arith
          and omega arith and nothing));
    }

bytes_counted : (ctr : ℕ) (s : State) → ctr < 256 → Bytes s → Bytes (counted ctr s)
unfolding counted
bytes_counted ctr s small h =
    record {
      small = record { a0 = h.small.a0; a1 = h.small.a1 };
      long = simp (length-append, length-take) (omega (arith, h.long));
      below =
          below_append (take 31 s.b) (bit_xor (s.b ⟨ 31 ⟩) ctr ∷ []) (below_take 31 s.b h.below)
          (below_each (xor_lt 8 (s.b ⟨ 31 ⟩) ctr (h.below 31) small and nothing));
    }

pub bytes_blank : (ctr : ℕ) (s : State) → ctr < 256 → Bytes s → Bytes (next (counted ctr s))
bytes_blank ctr s small h = bytes_next (counted ctr s) (bytes_counted ctr s small h)

pub bytes_blanks : (n ctr : ℕ) (s : State) → ctr < 256 → Bytes s → Bytes (blanks n ctr s)
unfolding blanks
bytes_blanks zero ctr s small h = h
bytes_blanks (suc n) ctr s small h =
    bytes_blanks n (twice ctr) (next (counted ctr s)) (twice_below ctr small) (bytes_blank ctr s small h)

pub blanks_none : (n ctr : ℕ) (s : State) → n ≡ 0 → blanks n ctr s ≡ s
unfolding blanks
blanks_none zero ctr s e = refl
blanks_none (suc n) ctr s e = absurd (omega arith)

-- ---- packed, and taken apart again

pub state_packed : (s : State) → Bytes s → state (packed s) ≡ s
unfolding state packed
state_packed s h =
    let b : List ℕ = s.b in
    let word : (at : ℕ) → at + 8 ≤ length b → digits 256 8 (number_at b at 8) ≡ slice b at 8 =
    λ at room. digits_read b at 8 room h.below in
    let all : slice b 0 8 ++ slice b 8 8 ++ slice b 16 8 ++ slice b 24 8 ≡ b =
    ap (λ (l : List ℕ). l ++ slice b 16 8 ++ slice b 24 8) (sym (slice_add b 0 8 8))
    ∙ ap (λ (l : List ℕ). l ++ slice b 24 8) (sym (slice_add b 0 16 8))
    ∙ sym (slice_add b 0 24 8)
    ∙ take_all 32 b (omega (arith, h.long)) in
    λ i.
    record {
      a0 = mod-eq_of_lt h.small.a0 i;
      a1 = mod-eq_of_lt h.small.a1 i;
      b =
          ((λ j.
          word 0 (omega (arith, h.long)) j ++ word 8 (omega (arith, h.long)) j
          ++ word 16 (omega (arith, h.long)) j
          ++ word 24 (omega (arith, h.long)) j)
          ∙ all)
          i;
    }

-- what a record's fields hold
pub record Fitting (r : Registers) : Type 0 where
  pub a0 : r.a0 < 256
  pub a1 : r.a1 < 256
  pub b0 : r.b0 < 2 ^ 64
  pub b1 : r.b1 < 2 ^ 64
  pub b2 : r.b2 < 2 ^ 64
  pub b3 : r.b3 < 2 ^ 64

pub packed_state : (r : Registers) → Fitting r → packed (state r) ≡ r
unfolding state packed digits
packed_state r h =
    λ i.
    record {
      a0 = mod-eq_of_lt h.a0 i;
      a1 = mod-eq_of_lt h.a1 i;
      b0 = word_digits r.b0 h.b0 i;
      b1 = word_digits r.b1 h.b1 i;
      b2 = word_digits r.b2 h.b2 i;
      b3 = word_digits r.b3 h.b3 i;
    }

-- ---- rounds add up

pub rounds_none : (s : State) → rounds 0 s ≡ s
unfolding rounds
rounds_none s = refl

pub rounds_add : (m n : ℕ) (s : State) → rounds (m + n) s ≡ rounds n (rounds m s)
unfolding rounds
rounds_add zero n s = ap (λ (k : ℕ). rounds k s) (zero-add n)
rounds_add (suc m) n s = ap (λ (k : ℕ). rounds k s) (suc-add m n) ∙ rounds_add m n (next s)

-- one more, behind the others
pub rounds_more : (n : ℕ) (s : State) → next (rounds n s) ≡ rounds (n + 1) s
unfolding rounds
rounds_more n s = sym (rounds_add n 1 s)

pub keystream_from : (n : ℕ) (s : State) → from n (keystream s) ≡ keystream (rounds n s)
unfolding keystream
keystream_from n s = λ i k. (rounds_add n k s i).a1

-- the keystream of every record is one of bytes
pub record_bytes : (r : Registers) → OfBytes (keystream (state r))
unfolding keystream
record_bytes r n = (small_rounds n (state r) (bytes_state r).small).a1

-- ---- records moved on

pub state_skip : (r : Registers) (n : ℕ) → state (skipping r n) ≡ rounds n (state r)
unfolding skipping
state_skip r n = state_packed (rounds n (state r)) (bytes_rounds n (state r) (bytes_state r))

pub skip_add : (r : Registers) (n m : ℕ) → skipping (skipping r n) m ≡ skipping r (n + m)
unfolding skipping
skip_add r n m = ap (λ (s : State). packed (rounds m s)) (state_skip r n) ∙ ap packed (sym (rounds_add n m (state r)))

pub skip_none : (r : Registers) → Fitting r → r ≡ skipping r 0
unfolding skipping rounds
skip_none r h = sym (packed_state r h)
