-- What a fresh block's arrival brings about: its map is the one before with that block marked, and the count moves past
-- that map's run. A block that isn't fresh changes nothing.
use mathlib.Core.{Path.◌≡◌, Path.refl, Path.sym, Path.ap, Path.◌∙◌, Logic.◌⊎◌, Logic.inl, Logic.inr}
use mathlib.Core.Bool.{Bool, true, false, not}
use Prim.Native.Nat.{ℕ, ◌+◌, ◌-◌, ◌/◌, ◌^◌, ◌<◌, ◌≤◌}
use native.Mathlib.{Nat.lt_of_lt_of_le, Omega.arith}
use borrow.Author.Tests.{eqb-true, eqb-false, leb-true, leb-false, ltb-true, lt-ltb, le-ltb, not-true}
use lib.{Dec.eqb, Dec.leb, Dec.ltb, Pow.pow_mono}
use Rattle.refusals.proofs.Tests.{and_first, and_second, and_not}
use Rattle.windows.specs.Windows.{window, marked, marking, run, is_fresh, Arrived, moving, arriving, map_in_rule}
use Rattle.windows.proofs.Windows.{moved_along, mark_own, mark_other, marking_below}
use Rattle.windows.proofs.Windows.{run_own, run_marked, run_gap, run_below}

-- ---- which blocks are fresh

-- what follows from a test either way
pub by_test : {P : Type 0} (b : Bool) → (b ≡ true → P) → (b ≡ false → P) → P
by_test true so other = so refl
by_test false so other = other refl

-- a fresh block is in the window and isn't placed,
fresh_near : (map ahead : ℕ) → is_fresh map ahead ≡ true → ahead < window
fresh_near map ahead e = ltb-true _ _ (and_first (ltb ahead window) (not (marked map ahead)) e)

fresh_free : (map ahead : ℕ) → is_fresh map ahead ≡ true → marked map ahead ≡ false
fresh_free map ahead e = not-true _ (and_second (ltb ahead window) (not (marked map ahead)) e)

-- and any such block is fresh
pub fresh_if : (map ahead : ℕ) → ahead < window → marked map ahead ≡ false → is_fresh map ahead ≡ true
fresh_if map ahead near free = rw (lt-ltb ahead window near, free)

pub stale_far : (map ahead : ℕ) → window ≤ ahead → is_fresh map ahead ≡ false
stale_far map ahead far = rw (le-ltb ahead window far)

pub stale_placed : (map ahead : ℕ) → marked map ahead ≡ true → is_fresh map ahead ≡ false
stale_placed map ahead placed = and_not (ltb ahead window) (λ _. rw placed)

-- ---- a fresh block

pub fresh_is : (map ahead : ℕ) → is_fresh map ahead ≡ true → arriving map ahead ≡ moving (marking map ahead)
unfolding arriving
fresh_is map ahead e = rw e

pub stale_is : (map ahead : ℕ) → is_fresh map ahead ≡ false
    → arriving map ahead ≡ record { fresh = false; moved = 0; map = map }
unfolding arriving
stale_is map ahead e = rw e

-- the arrival says whether the block is fresh
pub is_fresh_lem : (map ahead : ℕ) → (arriving map ahead).fresh ≡ is_fresh map ahead
is_fresh_lem map ahead =
    let says : Arrived → Bool = λ a. a.fresh in
    by_test (is_fresh map ahead) (λ e. ap says (fresh_is map ahead e) ∙ sym e)
    (λ e. ap says (stale_is map ahead e) ∙ sym e)

-- what is known of an arrival at a map of a block so far ahead
pub record Goes (map ahead : ℕ) (a : Arrived) : Type 0 where
  -- the block is in the window and wasn't placed, and what follows fits the window as well
  pub near : ahead < window
  pub free : marked map ahead ≡ false
  pub few : (a.moved ≤ window) × (a.map < 2 ^ window)
  -- the count's own block moves the count
  pub own : ahead ≡ 0 → 1 ≤ a.moved
  -- the next block isn't placed
  pub even : marked a.map 0 ≡ false
  -- neither the count nor the map goes past the end
  pub within : (left : ℕ) → map < 2 ^ left → ahead < left → (a.moved ≤ left) × (a.map < 2 ^ (left - a.moved))
  -- what the count moved past is the block itself, or was placed,
  pub held : (j : ℕ) → j < a.moved → (j ≡ ahead) ⊎ (marked map j ≡ true)
  -- and so is what is placed now
  pub placed : (j : ℕ) → marked a.map j ≡ true → (a.moved + j ≡ ahead) ⊎ (marked map (a.moved + j) ≡ true)
  -- the block itself is held or placed
  pub there : (ahead < a.moved) ⊎ (marked a.map (ahead - a.moved) ≡ true)

-- what is placed with a block more is that block, or was placed
either : (map ahead j : ℕ) → marked map ahead ≡ false → marked (marking map ahead) j ≡ true
    → (j ≡ ahead) ⊎ (marked map j ≡ true)
either map ahead j e placed =
    by_test (eqb j ahead) (λ same. inl (eqb-true j ahead same))
    (λ other. inr (sym (mark_other map ahead j e (eqb-false j ahead other)) ∙ placed))

-- a block that is placed is in the run or behind it
in_or_behind : (map ahead n : ℕ) → marked map ahead ≡ true → (ahead < n) ⊎ (marked (map / 2 ^ n) (ahead - n) ≡ true)
in_or_behind map ahead n e =
    by_test (leb n ahead)
    (λ behind.
    let back : n + (ahead - n) ≡ ahead = omega (arith, leb-true n ahead behind) in
    inr (moved_along map n (ahead - n) ∙ ap (marked map) back ∙ e))
    (λ inside. inl (leb-false n ahead inside))

goes_so : (map ahead : ℕ) → map < 2 ^ window → ahead < window → marked map ahead ≡ false
    → Goes map ahead (moving (marking map ahead))
goes_so map ahead h near e =
    let full : ℕ = marking map ahead in
    let n : ℕ = run window full in
    let most = run_below full window (marking_below map ahead window e h near) in
    let less : window - n ≤ window = omega arith in
    record {
      near = near;
      free = e;
      few = (most.0, lt_of_lt_of_le most.1 (pow_mono less));
      own = λ first. run_own full (ap (marked full) (sym first) ∙ mark_own map ahead e);
      even = run_gap full (marking_below map ahead window e h near);
      within = λ left few inside. run_below full left (marking_below map ahead left e few inside);
      held = λ j inside. either map ahead j e (run_marked window full j inside);
      placed = λ j so. either map ahead (n + j) e (sym (moved_along full n j) ∙ so);
      there = in_or_behind full ahead n (mark_own map ahead e);
    }

pub goes : (map ahead : ℕ) → map < 2 ^ window → (arriving map ahead).fresh ≡ true
    → Goes map ahead (arriving map ahead)
goes map ahead h e =
    let fresh = sym (is_fresh_lem map ahead) ∙ e in
    rw (fresh_is map ahead fresh) (goes_so map ahead h (fresh_near map ahead fresh) (fresh_free map ahead fresh))

-- ---- a map in rule

pub in_rule_facts : (map left : ℕ) → map_in_rule map left ≡ true → (marked map 0 ≡ false) × (map < 2 ^ left)
unfolding map_in_rule
in_rule_facts map left e = (
  not-true _ (and_first (not (marked map 0)) (ltb map (2 ^ left)) e),
  ltb-true _ _ (and_second (not (marked map 0)) (ltb map (2 ^ left)) e),
)

pub in_rule_if : (map left : ℕ) → marked map 0 ≡ false → map < 2 ^ left → map_in_rule map left ≡ true
unfolding map_in_rule
in_rule_if map left e h = rw (e, lt-ltb map (2 ^ left) h)
