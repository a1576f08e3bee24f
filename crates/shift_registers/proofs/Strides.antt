-- 64 steps at once, for any cipher on three registers: no tap reaches a bit that comes in on the way, so what the steps
-- put out and push in are four words of what was there before; and n of the 64 put out and push in the first n bits of
-- these words.
use mathlib.Core.Path.{◌≡◌, refl, sym, ap, subst, ◌∙◌}
use mathlib.Core.List.{List, [], ◌∷◌, ◌++◌}
use Prim.Native.Nat.{ℕ, zero, suc, ◌+◌, ◌-◌, ◌*◌, ◌/◌, ◌%◌, ◌^◌, ◌<◌, ◌≤◌, min}
use native.Mathlib.{Nat.zero-add, Nat.mod-lt, Nat.mod-eq_of_lt, Nat.lt_of_le_of_lt, Omega.arith}
use lib.{Pow.pow_pos, Pow.shr_le}
use Rattle.octets.specs.Digits.{number, number_after, digits}
use Rattle.octets.proofs.Shifts.{front_small, moved_down}
use Rattle.shift_registers.specs.{Registers.State, Registers.moved, Steps.Mover, Steps.steps_by, Steps.bits_by}
use Rattle.shift_registers.specs.{Words.joined, Words.shifted, Words.newest_by, declared.Newest.Newest}
use Rattle.shift_registers.proofs.Steps.{digits_snoc, steps_snoc, number_by, Held, held_cut}
use Rattle.shift_registers.proofs.Words.{grown, run, Reads, tap_run, half, grown_more, lower_grown}
use Rattle.shift_registers.proofs.Words.{joined_strode, joined_part}

-- ---- what a cipher owes

-- four words of the message word and of each register's word for a tap: what comes out, and what a, b and c take in
abbrev pub Mixer : Type 0
Mixer = ℕ → (ℕ → ℕ) → (ℕ → ℕ) → (ℕ → ℕ) → Newest

-- each register with the lowest bit of its word as its newest
abbrev pub pushed : ℕ → ℕ → ℕ → State → Newest → State
pushed u v w s t =
    record { a = moved u s.a (t.a % 2); b = moved v s.b (t.b % 2); c = moved w s.c (t.c % 2) }

-- all words but their last k bits
abbrev pub down : ℕ → Newest → Newest
down k t = record { z = t.z / 2 ^ k; a = t.a / 2 ^ k; b = t.b / 2 ^ k; c = t.c / 2 ^ k }

abbrev pub Small : ℕ → Newest → Type 0
Small n t = (t.z < 2 ^ n) × (t.a < 2 ^ n) × (t.b < 2 ^ n) × (t.c < 2 ^ n)

-- p, q and r bits of the registers a, b and c are in their upper words
pub record Striding : Type 0 where
  pub p : ℕ
  pub q : ℕ
  pub r : ℕ
  pub fits : (p ≤ 64) × (q ≤ 64) × (r ≤ 64)
  pub mover : Mover
  pub mixed : Mixer
  -- if every tap is the lowest bit of its word, a step goes by the lowest bits of the four words
  pub by : (v : ℕ) (s : State) (f g h : ℕ → ℕ) → Reads (p + 64) s.a f → Reads (q + 64) s.b g
      → Reads (r + 64) s.c h
      → let t = mixed v f g h in
      (mover.out s ≡ t.z % 2) × (mover.next (v % 2) s ≡ pushed (p + 64) (q + 64) (r + 64) s t)
  -- the words are mixed bit by bit
  pub cut : (k v : ℕ) (f g h : ℕ → ℕ)
      → mixed (v / 2 ^ k) (λ j. f j / 2 ^ k) (λ j. g j / 2 ^ k) (λ j. h j / 2 ^ k) ≡ down k (mixed v f g h)
  -- and stay words
  pub small : (v : ℕ) (f g h : ℕ → ℕ) → v < 2 ^ 64 → ((j : ℕ) → f j < 2 ^ 64) → ((j : ℕ) → g j < 2 ^ 64)
      → ((j : ℕ) → h j < 2 ^ 64) → Small 64 (mixed v f g h)

-- ---- what follows

-- what n of the 64 steps leave newest, by the words that all of them push in
abbrev pub late : ℕ → ℕ → ℕ → ℕ → Newest → Newest
late n a0 b0 c0 t =
    record { z = shifted 0 t.z n; a = shifted a0 t.a n; b = shifted b0 t.b n; c = shifted c0 t.c n }

module _ (o : Striding) where
  abbrev pub wa : ℕ
  wa = o.p + 64

  abbrev pub wb : ℕ
  wb = o.q + 64

  abbrev pub wc : ℕ
  wc = o.r + 64

  -- the registers after n new bits in each
  abbrev pub entered : ℕ → Newest → State → State
  entered n t s = record { a = grown wa s.a n t.a; b = grown wb s.b n t.b; c = grown wc s.c n t.c }

  -- the words that 64 steps put out and push in
  unfoldable pub words : ℕ → State → Newest
  words v s = o.mixed v (λ j. run j s.a) (λ j. run j s.b) (λ j. run j s.c)

  -- the registers in six words, the upper of each first
  abbrev pub of_six : ℕ → ℕ → ℕ → ℕ → ℕ → ℕ → State
  of_six a1 a0 b1 b0 c1 c0 = record { a = joined wa a1 a0; b = joined wb b1 b0; c = joined wc c1 c0 }

  module _ (v : ℕ) (hv : v < 2 ^ 64) where
    pub small_words : (s : State) → Small 64 (words v s)
    unfolding words
    small_words s =
        let one : (x j : ℕ) → run j x < 2 ^ 64 = λ x j. mod-lt (x / 2 ^ (j - 64)) (pow_pos 64) in
        o.small v _ _ _ hv (one s.a) (one s.b) (one s.c)

    pub small_front : (n k : ℕ) (s : State) → n + k ≡ 64 → Small n (down k (words v s))
    small_front n k s e =
        let all = small_words s in
        let cut : (x : ℕ) → x < 2 ^ 64 → x / 2 ^ k < 2 ^ n = λ x h. front_small n k e h in
        (cut _ all.0, cut _ all.1, cut _ all.2, cut _ all.3)

    -- the first n bits of the message, all but its last k
    abbrev pub taken : ℕ → ℕ → List ℕ
    taken n k = digits 2 n (v / 2 ^ k)

    more_taken : (n k : ℕ) → taken (suc n) k ≡ taken n (suc k) ++ (v / 2 ^ k % 2 ∷ [])
    more_taken n k =
        digits_snoc n (v / 2 ^ k) ∙ ap (λ (x : ℕ). digits 2 n x ++ (v / 2 ^ k % 2 ∷ [])) (sym (half v k))

    module _ (s : State) where
      -- one of the 64 steps, with k behind it: its taps are bits of the runs
      module _ (n k : ℕ) (e : n + suc k ≡ 64) where
        there : State
        there = entered n (down (suc k) (words v s)) s

        step_there : let t = down k (words v s) in
            (o.mover.out there ≡ t.z % 2) × (o.mover.next (v / 2 ^ k % 2) there ≡ pushed wa wb wc there t)
        unfolding there words
        step_there =
            let small = small_front n (suc k) s e in
            let read : (w x y : ℕ) → y / 2 ^ suc k < 2 ^ n
            → Reads w (grown w x n (y / 2 ^ suc k)) (λ j. run j x / 2 ^ k) =
            λ w x y h j t. tap_run w j n k x _ t e h in
            let ra = read wa s.a _ small.1 in
            let rb = read wb s.b _ small.2 in
            let rc = read wc s.c _ small.3 in
            let got = o.by (v / 2 ^ k) there _ _ _ ra rb rc in
            let cut = o.cut k v (λ j. run j s.a) (λ j. run j s.b) (λ j. run j s.c) in
            (got.0 ∙ (λ i. (cut i).z % 2), got.1 ∙ (λ i. pushed wa wb wc there (cut i)))

        next_there : o.mover.next (v / 2 ^ k % 2) there ≡ entered (suc n) (down k (words v s)) s
        unfolding there
        next_there =
            step_there.1
            ∙ (λ i.
            record {
              a = grown_more wa s.a (words v s).a n k ((words v s).a / 2 ^ k % 2) refl i;
              b = grown_more wb s.b (words v s).b n k ((words v s).b / 2 ^ k % 2) refl i;
              c = grown_more wc s.c (words v s).c n k ((words v s).c / 2 ^ k % 2) refl i;
            })

      -- n of the steps, and the word that they put out
      module _ (held : Held wa wb wc s) where
        pub partly : (n k : ℕ) → n + k ≡ 64
            → steps_by o.mover (taken n k) s ≡ entered n (down k (words v s)) s
        unfolding steps_by digits there
        partly zero k e =
            let last : 64 ≡ k = omega arith in
            let none : (w x y : ℕ) → x < 2 ^ w → y < 2 ^ 64 → x ≡ grown w x 0 (y / 2 ^ 64) =
            λ w x y hx hy. sym (mod-eq_of_lt hx) ∙ ap (λ (z : ℕ). z % 2 ^ w) (omega arith) in
            let all = small_words s in
            (λ i.
            record {
              a = none wa s.a _ held.a all.1 i;
              b = none wb s.b _ held.b all.2 i;
              c = none wc s.c _ held.c all.3 i;
            })
            ∙ ap (λ (j : ℕ). entered 0 (down j (words v s)) s) last
        partly (suc n) k e =
            let rest : n + suc k ≡ 64 = omega arith in
            ap (λ (xs : List ℕ). steps_by o.mover xs s) (more_taken n k)
            ∙ steps_snoc o.mover (taken n (suc k)) (v / 2 ^ k % 2) s
            ∙ ap (o.mover.next (v / 2 ^ k % 2)) (partly n (suc k) rest)
            ∙ next_there n k rest

        pub put_out : (n k : ℕ) → n + k ≡ 64 → number 2 (bits_by o.mover (taken n k) s) ≡ (words v s).z / 2 ^ k
        unfolding bits_by digits number_after there
        put_out zero k e =
            let last : 64 ≡ k = omega arith in
            let none : 0 ≡ (words v s).z / 2 ^ 64 = omega (arith, (small_words s).0) in
            none ∙ ap (λ (j : ℕ). (words v s).z / 2 ^ j) last
        put_out (suc n) k e =
            let rest : n + suc k ≡ 64 = omega arith in
            let before : number 2 (bits_by o.mover (taken n (suc k)) s) ≡ (words v s).z / 2 ^ suc k =
            put_out n (suc k) rest in
            let new : o.mover.out (steps_by o.mover (taken n (suc k)) s) ≡ (words v s).z / 2 ^ k % 2 =
            ap o.mover.out (partly n (suc k) rest) ∙ (step_there n k rest).0 in
            ap (λ (xs : List ℕ). number 2 (bits_by o.mover xs s)) (more_taken n k)
            ∙ number_by o.mover (taken n (suc k)) (v / 2 ^ k % 2 ∷ []) s
            ∙ omega (arith, half (words v s).z k)

    -- ---- by words

    module _ (a1 a0 b1 b0 c1 c0 : ℕ) where
      abbrev six : State
      six = of_six a1 a0 b1 b0 c1 c0

      held : Held wa wb wc six
      held = held_cut wa wb wc _ _ _

      pub late_newest : (n : ℕ)
          → late n a0 b0 c0 (words v six) ≡ newest_by o.mover (taken (min n 64) (64 - n)) six
      unfolding newest_by
      late_newest n =
          let m : ℕ = min n 64 in
          let k : ℕ = 64 - n in
          let all : m + k ≡ 64 = omega arith in
          let there = sym (partly six held m k all) in
          let small = small_front m k six all in
          let low : (p upper lower x : ℕ) → p ≤ 64 → x / 2 ^ k < 2 ^ m
          → shifted lower x n ≡ grown (p + 64) (joined (p + 64) upper lower) m (x / 2 ^ k) % 2 ^ 64 =
          λ p upper lower x hp hx.
          ap (λ (y : ℕ). y % 2 ^ 64) (moved_down lower x m k all)
          ∙ sym (lower_grown p upper lower hp m (x / 2 ^ k) (omega arith) hx) in
          λ i.
          record {
            z = (out (words v six).z k (small_words six).0 ∙ sym (put_out six held m k all)) i;
            a = (low o.p a1 a0 _ o.fits.0 small.1 ∙ (λ j. (there j).a % 2 ^ 64)) i;
            b = (low o.q b1 b0 _ o.fits.1 small.2 ∙ (λ j. (there j).b % 2 ^ 64)) i;
            c = (low o.r c1 c0 _ o.fits.2 small.3 ∙ (λ j. (there j).c % 2 ^ 64)) i;
          }
        where
          out : (z k : ℕ) → z < 2 ^ 64 → (0 * 2 ^ 64 + z) / 2 ^ k % 2 ^ 64 ≡ z / 2 ^ k
          out z k h = ap (λ (y : ℕ). y / 2 ^ k % 2 ^ 64) (zero-add z) ∙ mod-eq_of_lt (lt_of_le_of_lt (shr_le z k) h)

      whole : taken 64 0 ≡ digits 2 64 v
      whole = ap (digits 2 64) (omega arith)

      -- all of them
      pub words_newest : words v six ≡ newest_by o.mover (digits 2 64 v) six
      words_newest =
          let all = small_words six in
          let same : (x y : ℕ) → y < 2 ^ 64 → y ≡ shifted x y 64 = λ x y h. omega arith in
          (λ i.
          record {
            z = same 0 _ all.0 i;
            a = same a0 _ all.1 i;
            b = same b0 _ all.2 i;
            c = same c0 _ all.3 i;
          })
          ∙ late_newest 64
          ∙ ap (λ (xs : List ℕ). newest_by o.mover xs six) whole

      -- the registers after all of them, by their newest words alone
      pub strode : let t = steps_by o.mover (digits 2 64 v) six in
          of_six a0 (t.a % 2 ^ 64) b0 (t.b % 2 ^ 64) c0 (t.c % 2 ^ 64) ≡ t
      strode =
          let small = small_front 64 0 six refl in
          subst (λ (t : State). of_six a0 (t.a % 2 ^ 64) b0 (t.b % 2 ^ 64) c0 (t.c % 2 ^ 64) ≡ t)
          (sym (partly six held 64 0 refl) ∙ ap (λ (xs : List ℕ). steps_by o.mover xs six) whole)
          (λ i.
          record {
            a = joined_strode o.p a1 a0 o.fits.0 _ small.1 i;
            b = joined_strode o.q b1 b0 o.fits.1 _ small.2 i;
            c = joined_strode o.r c1 c0 o.fits.2 _ small.3 i;
          })

      -- and after n of them, by all words moved up
      pub part_strode : (n : ℕ) → n ≤ 64
          → let t = words v six in
          of_six (shifted a1 a0 n) (shifted a0 t.a n) (shifted b1 b0 n) (shifted b0 t.b n) (shifted c1 c0 n)
          (shifted c0 t.c n)
          ≡ steps_by o.mover (taken n (64 - n)) six
      part_strode n few =
          let all = small_words six in
          (λ i.
          record {
            a = joined_part o.p a1 a0 o.fits.0 n _ few all.1 i;
            b = joined_part o.q b1 b0 o.fits.1 n _ few all.2 i;
            c = joined_part o.r c1 c0 o.fits.2 n _ few all.3 i;
          })
          ∙ sym (partly six held n (64 - n) (omega arith))
