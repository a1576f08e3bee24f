-- The lowest bit is the count's own block, and a word has no block further ahead than 16.
use mathlib.Core.{Path.◌≡◌, Path.sym, Path.ap, Path.◌∙◌, Logic.◌≢◌}
use mathlib.Core.Bool.{Bool, false, not, ◌&&◌}
use Prim.Native.Nat.{ℕ, ◌/◌, ◌%◌, ◌^◌, ◌<◌, ◌≤◌}
use native.Mathlib.{Nat.div-lt_iff_lt-mul, Omega.arith}
use borrow.Author.{Tests.eq-eqb, Tests.ne_eqb, Tests.le-leb, Tests.ltb-true, Tests.ltb-false}
use lib.{Arith.lt-one, Dec.eqb, Dec.leb, Dec.ltb, Pow.pow_mono, Pow.pow_pos}
use Rattle.windows.specs.Windows.{window, marked, map_in_rule}
use Rattle.windows.proofs.{Arrivals.by_test, Arrivals.in_rule_if, Windows.lowest}
use Rattle.windows.proofs.map_in_rule.Goals as goal

-- a map that marks the count's own block is out of rule, whatever is left: `own` is the number that tells
own_marked : (map left : ℕ) {own : ℕ} → own ≢ 0 → map % 2 ≡ 1 → eqb own 0 ≡ map_in_rule map left
unfolding map_in_rule
own_marked map left {own} some odd = rw (ne_eqb own 0 some, lowest map, odd)

own_free : (map : ℕ) → map % 2 ≢ 1 → marked map 0 ≡ false
own_free map even = lowest map ∙ ne_eqb _ _ even

-- a map has 16 bits, so with as many blocks left it marks none past the end
many_left : (map left : ℕ) → map % 2 ≢ 1 → map < 65536 → window ≤ left → leb window left ≡ map_in_rule map left
many_left map left even h many = le-leb window left many ∙ sym (in_rule_if map left (own_free map even) (omega (arith, pow_mono many)))

-- with fewer left, no bit past them may be set
none_past : (map left : ℕ) → eqb (map / 2 ^ left) 0 ≡ ltb map (2 ^ left)
none_past map left =
    let bound : ℕ = 2 ^ left in
    let inside = div-lt_iff_lt-mul {x = map} {y = 1} (pow_pos left) in
    by_test (ltb map bound)
    (λ less. eq-eqb (map / bound) 0 (lt-one (inside.1 (omega (arith, ltb-true map bound less)))) ∙ sym less)
    (λ more.
    ne_eqb (map / bound) 0 (λ none. omega (arith, inside.0 (omega (arith, none)), ltb-false map bound more))
    ∙ sym more)

few_left : (map left : ℕ) → map % 2 ≢ 1 → eqb (map / 2 ^ left) 0 ≡ map_in_rule map left
unfolding map_in_rule
few_left map left even =
    none_past map left
    ∙ ap (λ (b : Bool). not b && ltb map (2 ^ left)) (sym (own_free map even))

pub returns-else-map-eq0 : goal.returns-else-map-eq0
returns-else-map-eq0 c = own_marked _ _ (omega arith) (omega arith)

pub returns-then-left-ge-WINDOW : goal.returns-then-left-ge-WINDOW
returns-then-left-ge-WINDOW c = many_left _ _ (omega arith) (omega arith) (omega arith)

pub returns-else-left-ge-WINDOW : goal.returns-else-left-ge-WINDOW
returns-else-left-ge-WINDOW c = few_left _ _ (omega arith)
