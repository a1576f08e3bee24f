-- The map's laws, by halving: block j + 1 of a map is block j of its half, and all that is said of a map goes from its
-- half to it.
use mathlib.Core.{Path.◌≡◌, Path.refl, Path.sym, Path.ap, Path.subst, Path.◌∙◌, Logic.◌≢◌}
use mathlib.Core.Bool.{Bool, true, false, cond, true≢false}
use Prim.Native.Nat.{ℕ, zero, suc, ◌+◌, ◌-◌, ◌/◌, ◌%◌, ◌^◌, ◌<◌, ◌≤◌}
use native.Mathlib.{Nat.add-div_right, Nat.div-one, Omega.arith}
use borrow.Author.Tests.{eqb-true, eqb-false, eq-eqb}
use lib.{Arith.lt-one, Count.under, Count.count_trailing_zeros, Dec.eqb, Pow.pow_pos, Pow.shr_lt, Pow.shr-shr}
use Rattle.windows.specs.Windows.{window, marked, marking, run}

-- ---- a block of the map

-- a block that isn't placed has the bit 0
unmarked_bit : (map j : ℕ) → marked map j ≡ false → map / 2 ^ j % 2 ≡ 0
unmarked_bit map j e = omega (arith, eqb-false (map / 2 ^ j % 2) 1 e)

-- the count's own block is the map's lowest bit
pub lowest : (map : ℕ) → marked map 0 ≡ eqb (map % 2) 1
lowest map = ap (λ (n : ℕ). eqb (n % 2) 1) (div-one map)

marked_odd : (map : ℕ) → marked map 0 ≡ true → map % 2 ≡ 1
marked_odd map e = eqb-true _ _ (sym (lowest map) ∙ e)

unmarked_even : (map : ℕ) → marked map 0 ≡ false → map % 2 ≡ 0
unmarked_even map e = omega (arith, eqb-false (map % 2) 1 (sym (lowest map) ∙ e))

-- as the map moves along, so do its blocks
pub moved_along : (map n j : ℕ) → marked (map / 2 ^ n) j ≡ marked map (n + j)
moved_along map n j = ap (λ (q : ℕ). eqb (q % 2) 1) (shr-shr map n j)

shifted_half : (map n : ℕ) → map / 2 ^ suc n ≡ map / 2 / 2 ^ n
shifted_half map n =
    let next : suc n ≡ 1 + n = omega arith in
    ap (λ (e : ℕ). map / 2 ^ e) next ∙ sym (shr-shr map 1 n)

next_of_half : (map j : ℕ) → marked map (suc j) ≡ marked (map / 2) j
next_of_half map j = ap (λ (q : ℕ). eqb (q % 2) 1) (shifted_half map j)

-- a map of so many bits marks no block further ahead
pub marked_below : (map left j : ℕ) → map < 2 ^ left → marked map j ≡ true → j < left
marked_below map zero zero h e = absurd (omega (arith, marked_odd map e))
marked_below map zero (suc j) h e =
    omega (arith, marked_below (map / 2) zero j (omega arith) (sym (next_of_half map j) ∙ e))
marked_below map (suc left) zero h e = omega arith
marked_below map (suc left) (suc j) h e =
    omega (arith, marked_below (map / 2) left j (omega arith) (sym (next_of_half map j) ∙ e))

-- ---- a block more

half_of_marking : (map ahead : ℕ) → marking map (suc ahead) / 2 ≡ marking (map / 2) ahead
half_of_marking map ahead = omega arith

marking_half : (map ahead j : ℕ) → marked (marking map (suc ahead)) (suc j) ≡ marked (marking (map / 2) ahead) j
marking_half map ahead j = next_of_half _ j ∙ ap (λ (m : ℕ). marked m j) (half_of_marking map ahead)

-- the block that is marked is placed,
pub mark_own : (map ahead : ℕ) → marked map ahead ≡ false → marked (marking map ahead) ahead ≡ true
mark_own map ahead e =
    eq-eqb (marking map ahead / 2 ^ ahead % 2) 1
    (omega (arith, unmarked_bit map ahead e, add-div_right map (pow_pos ahead)))

-- and every other block is as it was
pub mark_other : (map ahead j : ℕ) → marked map ahead ≡ false → j ≢ ahead
    → marked (marking map ahead) j ≡ marked map j
mark_other map zero zero e other = absurd (other refl)
mark_other map zero (suc j) e other =
    let same : marking map 0 / 2 ≡ map / 2 = omega (arith, unmarked_even map e) in
    next_of_half (marking map 0) j ∙ ap (λ (m : ℕ). marked m j) same ∙ sym (next_of_half map j)
mark_other map (suc ahead) zero e other =
    let same : marking map (suc ahead) % 2 ≡ map % 2 = omega arith in
    lowest (marking map (suc ahead)) ∙ ap (λ (b : ℕ). eqb b 1) same ∙ sym (lowest map)
mark_other map (suc ahead) (suc j) e other =
    marking_half map ahead j
    ∙ mark_other (map / 2) ahead j (sym (next_of_half map ahead) ∙ e) (λ same. other (ap suc same))
    ∙ sym (next_of_half map j)

-- with one of the blocks that are left, the map goes no further than these
pub marking_below : (map ahead left : ℕ) → marked map ahead ≡ false → map < 2 ^ left → ahead < left
    → marking map ahead < 2 ^ left
marking_below map ahead zero e h near = absurd (omega arith)
marking_below map zero (suc left) e h near = omega (arith, unmarked_even map e)
marking_below map (suc ahead) (suc left) e h near =
    let free : marked (map / 2) ahead ≡ false = sym (next_of_half map ahead) ∙ e in
    omega (arith, marking_below (map / 2) ahead left free (omega arith) (omega arith))

-- ---- the run

-- what the run is: nothing where the first block isn't placed, and one more than the half's run where it is
by_first : (P : ℕ → Type 0) (most map : ℕ) → (marked map 0 ≡ false → P 0)
    → (marked map 0 ≡ true → P (suc (run most (map / 2)))) → P (run (suc most) map)
unfolding run
by_first P most map none more = go (marked map 0) none more
  where
    go : (first : Bool) → (first ≡ false → P 0) → (first ≡ true → P (suc (run most (map / 2))))
        → P (cond first (suc (run most (map / 2))) 0)
    go true none more = more refl
    go false none more = none refl

-- a run takes the first block in
pub run_own : (map : ℕ) → marked map 0 ≡ true → 1 ≤ run window map
run_own map e = by_first (λ (n : ℕ). 1 ≤ n) 15 map (λ none. absurd (true≢false (sym e ∙ none))) (λ more. omega arith)

-- all blocks of the run are placed,
pub run_marked : (most map j : ℕ) → j < run most map → marked map j ≡ true
unfolding run
run_marked zero map j h = absurd (omega arith)
run_marked (suc most) map zero h =
    by_first (λ (n : ℕ). 0 < n → marked map 0 ≡ true) most map (λ e near. absurd (omega arith)) (λ e near. e) h
run_marked (suc most) map (suc j) h =
    by_first (λ (n : ℕ). suc j < n → marked map (suc j) ≡ true) most map
    (λ e near. absurd (omega arith))
    (λ e near. next_of_half map j ∙ run_marked most (map / 2) j (omega arith)) h

-- and the next one isn't, in a map of no more bits than the run may count
gap : (most map : ℕ) → map < 2 ^ most → marked (map / 2 ^ run most map) 0 ≡ false
unfolding run
gap zero map h = ap (λ (m : ℕ). marked (m / 1) 0) (lt-one h)
gap (suc most) map h =
    by_first (λ (n : ℕ). marked (map / 2 ^ n) 0 ≡ false) most map
    (λ e. moved_along map 0 0 ∙ e)
    (λ e. ap (λ (m : ℕ). marked m 0) (shifted_half map (run most (map / 2))) ∙ gap most (map / 2) (omega arith))

pub run_gap : (map : ℕ) → map < 2 ^ window → marked (map / 2 ^ run window map) 0 ≡ false
run_gap map h = gap window map h

-- the run goes no further than the map's bits, and leaves the others
run_within : (most map left : ℕ) → map < 2 ^ left → run most map ≤ left
unfolding run
run_within zero map left h = omega arith
run_within (suc most) map zero h =
    by_first (λ (n : ℕ). n ≤ 0) most map (λ e. omega arith) (λ e. absurd (omega (arith, marked_below map 0 0 h e)))
run_within (suc most) map (suc left) h =
    by_first (λ (n : ℕ). n ≤ suc left) most map (λ e. omega arith)
    (λ e. omega (arith, run_within most (map / 2) left (omega arith)))

pub run_below : (map left : ℕ) → map < 2 ^ left
    → (run window map ≤ left) × (map / 2 ^ run window map < 2 ^ (left - run window map))
run_below map left h =
    let n : ℕ = run window map in
    let within : n ≤ left = run_within window map left h in
    let parts : left ≡ left - n + n = omega arith in
    (within, shr_lt (left - n) n (subst (λ (e : ℕ). map < 2 ^ e) parts h))

-- ---- the run as a count of zeros

-- a map turned over has the other lowest bit, and its half is the half turned over
module _ (k map : ℕ) (h : map < 2 ^ suc k) where
  turned_odd : map % 2 ≡ 0 → (2 ^ suc k - 1 - map) % 2 ≡ 1
  turned_odd even = omega arith

  turned_even : map % 2 ≡ 1 → (2 ^ suc k - 1 - map) % 2 ≡ 0
  turned_even odd = omega arith

  turned_half : (2 ^ suc k - 1 - map) / 2 ≡ 2 ^ k - 1 - map / 2
  turned_half = omega arith

-- the zeros at the low end of a map turned over are the run
pub trailing : (k map : ℕ) → map < 2 ^ k → count_trailing_zeros k (2 ^ k - 1 - map) ≡ run k map
unfolding count_trailing_zeros run
trailing zero map h = refl
trailing (suc k) map h =
    let over : ℕ = 2 ^ suc k - 1 - map in
    let rest : ℕ = count_trailing_zeros k (over / 2) in
    by_first (λ (n : ℕ). under (over % 2) rest ≡ n) k map
    (λ e. ap (λ (b : ℕ). under b rest) (turned_odd k map h (unmarked_even map e)))
    (λ e. ap (λ (b : ℕ). under b rest) (turned_even k map h (marked_odd map e))
    ∙ ap (λ (m : ℕ). suc (count_trailing_zeros k m)) (turned_half k map h)
    ∙ ap suc (trailing k (map / 2) (omega arith)))
