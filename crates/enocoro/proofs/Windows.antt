-- A window whose bytes b begin one place earlier after each round: all but four of them stay where they are, so a round
-- is four stores, seen on the 32 bytes written out.
use mathlib.Core.{Path.◌≡◌, Path.refl, Path.sym, Path.ap, Path.◌∙◌}
use mathlib.Core.List.{List, ◌∷◌, ◌++◌, append_assoc}
use Prim.Native.Nat.{ℕ, zero, suc, ◌+◌, ◌-◌, ◌<◌, ◌≤◌}
use native.Mathlib.{Nat.mod-eq_of_lt, Omega.arith}
use lib.Bits.{bit_xor}
use lib.ListN.{length, get_or, set, take, drop}
use lib.Seq.{drop-cons, drop-drop, drop_at, take_at, take-set-lt, drop-set-add, length-take-le}
use Rattle.octets.specs.{Buffers.slice, Buffers.placed, Buffers.put, Digits.digits, Digits.number, Digits.number_at}
use Rattle.octets.specs.Digits.{word}
use Rattle.octets.proofs.{Buffers.put_placed, Buffers.puts_on, Numbers.Below, Numbers.number_read}
use Rattle.octets.proofs.Slices.{length_slice, slice_front, slice_rest, slice_read, neighbours}
use Rattle.sbox.specs.{Field.twice}
use Rattle.enocoro.specs.{Keystream.keystream, Record.state, Record.packed, State.State, State.next}
use Rattle.enocoro.specs.{State.rounds, State.counted, State.blanks, Window.mixing, Window.windowed}
use Rattle.enocoro.specs.{declared.Pair.Pair, declared.Registers.Registers}
use Rattle.enocoro.proofs.States.{rounds_more}

-- ---- what is done to a window

module _ (w : List ℕ) (at a0 a1 : ℕ) (room : at + 32 ≤ length w) where
  -- the byte b_j
  abbrev byte : ℕ → ℕ
  byte j = get_or w (at + j) 0

  -- the 32 bytes written out
  abbrev bytes : List ℕ
  bytes = get_or w at 0 ∷ neighbours w at 1 31 0

  there : bytes ≡ slice w at 32
  there = slice_read w at 31 0 room

  -- what the code takes and stores is given apart from its places, for the same
  pub slid : {p q3 q8 q17 x0 x3 x8 x17 p2 p7 p16 p29 : ℕ} {pair : Pair} → 1 ≤ at
      → pair ≡ mixing a0 a1 p2 p7 p16 p29
      → p2 ≡ byte 2 → p7 ≡ byte 7 → p16 ≡ byte 16 → p29 ≡ byte 29
      → p ≡ at - 1 → q3 ≡ at + 2 → q8 ≡ at + 7 → q17 ≡ at + 16
      → x0 ≡ bit_xor (byte 31) a0 → x3 ≡ bit_xor (byte 2) (byte 6) → x8 ≡ bit_xor (byte 7) (byte 15)
      → x17 ≡ bit_xor (byte 16) (byte 28)
      → windowed (set (set (set (set w p x0) q3 x3) q8 x8) q17 x17) (at - 1) pair.a0 pair.a1
      ≡ next (windowed w at a0 a1)
  unfolding next windowed
  slid {p} {q3} {q8} {q17} {x0} {x3} {x8} {x17} begun made f2 f7 f16 f29 ep e3 e8 e17 f0 f3 f8 f17 =
      let k : ℕ = at - 1 in
      let mixed = made ∙ (λ i. mixing a0 a1 (f2 i) (f7 i) (f16 i) (f29 i)) in
      let first : p ≡ k + 0 = omega arith in
      let third : q3 ≡ k + 3 = omega arith in
      let eighth : q8 ≡ k + 8 = omega arith in
      let last : q17 ≡ k + 17 = omega arith in
      let stored : List ℕ → List ℕ = λ l. set (set (set (set l 0 x0) 3 x3) 8 x8) 17 x17 in
      let moved : drop k (set (set (set (set w p x0) q3 x3) q8 x8) q17 x17) ≡ stored (drop k w) =
      (λ i. drop k (set (set (set (set w (first i) x0) (third i) x3) (eighth i) x8) (last i) x17))
      ∙ drop-set-add k _ 17 x17
      ∙ ap (λ (l : List ℕ). set l 17 x17)
      (drop-set-add k _ 8 x8
      ∙ ap (λ (l : List ℕ). set l 8 x8)
      (drop-set-add k _ 3 x3 ∙ ap (λ (l : List ℕ). set l 3 x3) (drop-set-add k w 0 x0))) in
      let on : suc k ≡ at = omega arith in
      let rest : List ℕ = drop (at + 32) w in
      let whole : List ℕ = get_or w k 0 ∷ (bytes ++ rest) in
      let held : drop k w ≡ whole =
      drop-cons w k 0 (omega arith)
      ∙ ap (λ (l : List ℕ). get_or w k 0 ∷ l)
      (ap (λ (n : ℕ). drop n w) on ∙ sym (slice_rest w at 32) ∙ ap (λ (l : List ℕ). l ++ rest) (sym there)) in
      (λ i.
      record {
        a0 = (mixed i).a0;
        a1 = (mixed i).a1;
        b =
            (ap (take 32) (moved ∙ ap stored held)
            ∙ (λ j. take 32 (set (set (set (set whole 0 (f0 j)) 3 (f3 j)) 8 (f8 j)) 17 (f17 j))))
            i;
      })
      ∙ ap (λ (l : List ℕ). next (record { a0 = a0; a1 = a1; b = l })) there

  -- the counter goes into b31
  counted_there : (ctr : ℕ)
      → windowed (set w (at + 31) (bit_xor (byte 31) ctr)) at a0 a1 ≡ counted ctr (windowed w at a0 a1)
  unfolding counted windowed
  counted_there ctr =
      let y : ℕ = bit_xor (byte 31) ctr in
      (λ i.
      record {
        a0 = a0;
        a1 = a1;
        b =
            (ap (take 32) (drop-set-add at w 31 y) ∙ take-set-lt 32 (drop at w) 31 y (omega arith)
            ∙ ap (λ (l : List ℕ). set l 31 y) (sym there))
            i;
      })
      ∙ ap (λ (l : List ℕ). counted ctr (record { a0 = a0; a1 = a1; b = l })) there

-- ---- into a window and out of it

-- a part of a part
slice_part : (w : List ℕ) (at n j m : ℕ) → at + n ≤ length w → j + m ≤ n
    → slice w (at + j) m ≡ slice (slice w at n) j m
slice_part w at n j m room inside =
    let long : length (slice w at n) ≡ n = length_slice w at n room in
    ap (take m) (sym (drop-drop j at w))
    ∙ ap (λ (l : List ℕ). slice l j m) (sym (slice_rest w at n))
    ∙ slice_front (slice w at n) (drop (at + n) w) j m (omega arith)

-- a word that is read there
read_there : (w : List ℕ) (at j : ℕ) {b : ℕ} → at + 32 ≤ length w → Below 256 w → j + 8 ≤ 32
    → b ≡ word (number_at w (at + j) 8) → b ≡ number_at (slice w at 32) j 8
read_there w at j room below inside e =
    e ∙ number_read w (at + j) 8 below (omega arith) ∙ ap (number 256) (slice_part w at 32 j 8 room inside)

pub taken_out : (w : List ℕ) (at a0 a1 : ℕ) {b0 b1 b2 b3 : ℕ} → at + 32 ≤ length w → Below 256 w
    → b0 ≡ word (number_at w at 8) → b1 ≡ word (number_at w (at + 8) 8)
    → b2 ≡ word (number_at w (at + 16) 8) → b3 ≡ word (number_at w (at + 24) 8)
    → ◌≡◌ {A = Registers} (record { a0 = a0; a1 = a1; b0 = b0; b1 = b1; b2 = b2; b3 = b3 })
    (packed (windowed w at a0 a1))
unfolding packed windowed
taken_out w at a0 a1 room below e0 e1 e2 e3 =
    let first : at ≡ at + 0 = omega arith in
    λ i.
    record {
      a0 = a0;
      a1 = a1;
      b0 = read_there w at 0 room below (omega arith) (e0 ∙ ap (λ (p : ℕ). word (number_at w p 8)) first) i;
      b1 = read_there w at 8 room below (omega arith) e1 i;
      b2 = read_there w at 16 room below (omega arith) e2 i;
      b3 = read_there w at 24 room below (omega arith) e3 i;
    }

-- a run that is put has its place
slice_put : (d : List ℕ) (at n : ℕ) (run : List ℕ) → length run ≡ n → at + n ≤ length d
    → slice (put d at run) at n ≡ run
unfolding placed
slice_put d at n run long room =
    let rest : List ℕ = drop (at + length run) d in
    ap (λ (l : List ℕ). slice l at n)
    (put_placed d at run (omega arith) ∙ append_assoc (take at d) run rest)
    ∙ ap (take n) (drop_at (take at d) (run ++ rest) at (length-take-le at d (omega arith)))
    ∙ take_at run rest n long

pub laid : (r : Registers) (d : List ℕ) {e f g h : List ℕ} {p0 p1 p2 p3 : ℕ} → length d ≡ 288
    → r.a0 < 256 → r.a1 < 256 → e ≡ put d p0 (digits 256 8 r.b0)
    → f ≡ put e p1 (digits 256 8 r.b1) → g ≡ put f p2 (digits 256 8 r.b2) → h ≡ put g p3 (digits 256 8 r.b3)
    → p0 ≡ 256 → p1 ≡ 264 → p2 ≡ 272 → p3 ≡ 280
    → windowed h 256 r.a0 r.a1 ≡ state r
unfolding state digits windowed
laid r d long small0 small1 e0 e1 e2 e3 q0 q1 q2 q3 =
    let ds : ℕ → List ℕ = digits 256 8 in
    let one = e0 ∙ ap (λ (p : ℕ). put d p (ds r.b0)) q0 in
    let two = e1 ∙ puts_on d 256 (ds r.b0) (ds r.b1) one q1 (omega arith) in
    let three = e2 ∙ puts_on d 256 (ds r.b0 ++ ds r.b1) (ds r.b2) two q2 (omega arith) in
    let all = e3 ∙ puts_on d 256 (ds r.b0 ++ ds r.b1 ++ ds r.b2) (ds r.b3) three q3 (omega arith) in
    let run : List ℕ = ds r.b0 ++ ds r.b1 ++ ds r.b2 ++ ds r.b3 in
    λ i.
    record {
      a0 = sym (mod-eq_of_lt small0) i;
      a1 = sym (mod-eq_of_lt small1) i;
      b = (ap (λ (l : List ℕ). slice l 256 32) all ∙ slice_put d 256 32 run refl (omega arith)) i;
    }

-- ---- round after round

-- the byte that a round gives is a1 before it
pub byte_there : (s : State) (n : ℕ) (w : List ℕ) (at a0 a1 : ℕ) → windowed w at a0 a1 ≡ rounds n s
    → a1 ≡ keystream s n
unfolding windowed keystream
byte_there s n w at a0 a1 e = ap (λ (t : State). t.a1) e

pub round_there : (s : State) (i : ℕ) (w v : List ℕ) (a0 a1 b0 b1 : ℕ) {at m : ℕ}
    → windowed w (256 - i) a0 a1 ≡ rounds i s → windowed v (at - 1) b0 b1 ≡ next (windowed w at a0 a1)
    → at ≡ 256 - i → m ≡ i + 1 → windowed v (256 - m) b0 b1 ≡ rounds m s
round_there s i w v a0 a1 b0 b1 {at} {m} here made place one =
    let lower : 256 - m ≡ at - 1 = omega arith in
    ap (λ (k : ℕ). windowed v k b0 b1) lower ∙ made ∙ ap (λ (k : ℕ). next (windowed w k a0 a1)) place ∙ ap next here
    ∙ rounds_more i s
    ∙ ap (λ (k : ℕ). rounds k s) (sym one)

-- one blank round of those that are left
pub blank_there : (w v : List ℕ) (at p a0 a1 b0 b1 left ctr : ℕ) {q x m k less after : ℕ} → at + 32 ≤ length w
    → windowed v (m - 1) b0 b1 ≡ next (windowed (set w q x) m a0 a1)
    → p ≡ at + 31 → q ≡ p → x ≡ bit_xor (get_or w p 0) ctr → m ≡ at → k ≡ at - 1
    → 0 < left → less ≡ left - 1 → after ≡ twice ctr
    → blanks less after (windowed v k b0 b1) ≡ blanks left ctr (windowed w at a0 a1)
unfolding blanks
blank_there w v at p a0 a1 b0 b1 zero ctr room made ep eq ex em ek some e turned = absurd (omega arith)
blank_there w v at p a0 a1 b0 b1 (suc n) ctr {m = m} {k = k} {less = less} room made ep eq ex em ek some e turned =
    let lower : k ≡ m - 1 = omega arith in
    let fewer : less ≡ n = omega arith in
    let so =
    ap (λ (j : ℕ). windowed v j b0 b1) lower ∙ made ∙ (λ i. next (windowed (set w (eq i) (ex i)) (em i) a0 a1))
    ∙ ap (λ (j : ℕ). next (windowed (set w j (bit_xor (get_or w j 0) ctr)) at a0 a1)) ep
    ∙ ap next (counted_there w at a0 a1 room ctr) in
    λ i. blanks (fewer i) (turned i) (so i)
