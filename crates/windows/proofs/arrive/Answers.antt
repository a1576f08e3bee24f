-- The two tests find the blocks that aren't fresh, and the ones that it counts are the run.
use mathlib.Core.{Path.◌≡◌, Path.sym, Path.ap, Path.ap₂, Path.◌∙◌, Logic.◌≢◌, Bool.true, Bool.false}
use Prim.Native.Nat.{ℕ, ◌+◌, ◌-◌, ◌*◌, ◌/◌, ◌%◌, ◌^◌, ◌<◌, ◌≤◌}
use native.Mathlib.Omega.{arith}
use borrow.Author.{Tests.eq-eqb, Tests.ne_eqb}
use lib.{Count.count_trailing_zeros, Pow.pow_mono}
use mir.{Facts.Fits-div, Val.Fits}
use Rattle.std.specs.Int.{w16}
use Rattle.windows.specs.Windows.{window, marking, run, Arrived, arriving}
use Rattle.windows.proofs.Windows.{marking_below, trailing}
use Rattle.windows.proofs.Arrivals.{fresh_if, stale_far, stale_placed, fresh_is, stale_is}
use Rattle.windows.proofs.arrive.Goals as goal
use Rattle.windows.proofs.arrive.Goals.{then-ahead-ge-WINDOW-via-then-ahead-ge-WINDOW, then-ahead-ge-WINDOW-via-else-ahead-ge-WINDOW+then-map-ahead-eq1}

-- nothing changes
abbrev same : ℕ → Arrived
same map = record { fresh = false; moved = 0; map = map }

too_far : (map ahead : ℕ) → window ≤ ahead → same map ≡ arriving map ahead
too_far map ahead far = sym (stale_is map ahead (stale_far map ahead far))

placed_already : (map ahead : ℕ) → map / 2 ^ ahead % 2 ≡ 1 → same map ≡ arriving map ahead
placed_already map ahead bit = sym (stale_is map ahead (stale_placed map ahead (eq-eqb _ _ bit)))

-- the bit stays in its word as it moves up
moved_up : (ahead : ℕ) → ahead < window → 1 * 2 ^ ahead % 65536 ≡ 2 ^ ahead
moved_up ahead near = let low : ahead ≤ 15 = omega arith in omega (arith, pow_mono low)

-- a fresh block
module _ (map ahead : ℕ) (h : map < 65536) (near : ahead < window) (bit : map / 2 ^ ahead % 2 ≢ 1) where
  -- the map with it has 16 bits as well
  fits : marking map ahead < 65536
  fits = marking_below map ahead window (ne_eqb _ _ bit) h near

  full_fits : Fits w16 (map + 1 * 2 ^ ahead % 65536)
  full_fits = let up = moved_up ahead near in omega (arith, fits)

  -- what is counted is the run, and what is left is the map moved along
  arrives : (turned full places : ℕ) → turned ≡ 65535 - marking map ahead → full ≡ marking map ahead
      → places ≡ count_trailing_zeros 16 turned
      → record { fresh = true; moved = count_trailing_zeros 16 turned; map = full / 2 ^ places } ≡ arriving map ahead
  arrives turned full places turned_is full_is places_is =
      let run_is : count_trailing_zeros 16 turned ≡ run window (marking map ahead) =
      ap (count_trailing_zeros 16) turned_is ∙ trailing 16 (marking map ahead) fits in
      let map_is : full / 2 ^ places ≡ marking map ahead / 2 ^ run window (marking map ahead) =
      ap₂ (λ (m n : ℕ). m / 2 ^ n) full_is (places_is ∙ run_is) in
      (λ i. record { fresh = true; moved = run_is i; map = map_is i })
      ∙ sym (fresh_is map ahead (fresh_if map ahead near (ne_eqb _ _ bit)))

pub returns-then-ahead-ge-WINDOW : goal.returns-then-ahead-ge-WINDOW
returns-then-ahead-ge-WINDOW c =
    elim c.then-ahead-ge-WINDOW.branch [
      | then-ahead-ge-WINDOW-via-then-ahead-ge-WINDOW w ↦ too_far _ _ (omega arith)
      | then-ahead-ge-WINDOW-via-else-ahead-ge-WINDOW+then-map-ahead-eq1 w ↦ placed_already _ _ (omega arith)
    ]

pub overflow_add-full : goal.overflow_add-full
overflow_add-full c = full_fits _ _ (omega arith) (omega arith) (omega arith)

pub overflow_cast-result-3 : goal.overflow_cast-result-3
overflow_cast-result-3 c = Fits-div _ (full_fits _ _ (omega arith) (omega arith) (omega arith))

pub returns : goal.returns
returns c =
    let up = moved_up c.args.ahead (omega arith) in
    arrives _ _ (omega arith) (omega arith) (omega arith) _ _ _ (omega arith) (omega arith) (omega arith)
