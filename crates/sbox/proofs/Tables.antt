-- S8 in print is S8 as it is made, and both tables stay within a byte: all of it by computed tests.
use mathlib.Core.{Path.◌≡◌, Path.refl, Path.sym, Path.ap, Path.subst, Path.◌∙◌, Bool.Bool, Bool.true, Bool.false}
use mathlib.Core.List.{List}
use Prim.Native.Nat.{ℕ, ◌*◌, ◌/◌, ◌%◌, ◌<◌}
use native.Mathlib.Omega.{arith}
use borrow.Author.Tests.{eqb-true, ltb-true, ltb-false}
use lib.Bits.{bit_xor}
use lib.Dec.{ltb, eqb}
use lib.ListN.{get_or, get_or-eq_default}
use Rattle.std.proofs.lemmas.Bool.{agree_below, agree_below_at}
use Rattle.sbox.specs.{Field.doubled, Field.twice, Field.fourfold, S8.small_box, S8.s4, S8.y0, S8.y1, S8.s8}
use Rattle.sbox.specs.S8.{printed}

-- a test passes for each number below n: whether it does is computed, once for all
abbrev passes : ℕ → (ℕ → Bool) → Type 0
passes n test = agree_below test (λ x. true) n ≡ true

at_each : (n : ℕ) (test : ℕ → Bool) → passes n test → (x : ℕ) → x < n → test x ≡ true
at_each n test all x h = agree_below_at test (λ x. true) n x all h

-- an entry in print is the substitution of its index
abbrev entry_right : ℕ → Bool
entry_right i = eqb (get_or printed i 0) (s8 i)

entries_right : passes 256 entry_right
unfolding s8 y0 y1 doubled
entries_right = refl

printed_right : (x : ℕ) → x < 256 → get_or printed x 0 ≡ s8 x
printed_right x h = eqb-true (get_or printed x 0) (s8 x) (at_each 256 entry_right entries_right x h)

-- so what is looked up in a run that is the table is the substitution
pub looked_up : (table : List ℕ) (x : ℕ) → table ≡ printed → x < 256 → get_or table x 0 ≡ s8 x
looked_up table x e h = ap (λ (t : List ℕ). get_or t x 0) e ∙ printed_right x h

-- the code's way to double a byte, with the lower bits of a polynomial
abbrev pub shifted : ℕ → ℕ → ℕ
shifted bits x = bit_xor (x % 128 * 2) (x / 128 * bits)

abbrev shift_right : ℕ → Bool
shift_right x = eqb (shifted 29 x) (twice x)

shifts_right : passes 256 shift_right
unfolding doubled
shifts_right = refl

pub shifted_right : (bits x : ℕ) → bits ≡ 29 → x < 256 → shifted bits x ≡ twice x
shifted_right bits x e h =
    ap (λ (p : ℕ). shifted p x) e ∙ eqb-true (shifted 29 x) (twice x) (at_each 256 shift_right shifts_right x h)

-- ---- within a byte

twice_small : passes 256 (λ x. ltb (twice x) 256)
unfolding doubled
twice_small = refl

pub twice_below : (x : ℕ) → x < 256 → twice x < 256
twice_below x h = ltb-true (twice x) 256 (at_each 256 (λ x. ltb (twice x) 256) twice_small x h)

s4_small : passes 16 (λ x. ltb (s4 x) 16)
s4_small = refl

-- past its last entry S4 gives 0
s4_below : (x : ℕ) → s4 x < 16
s4_below x = go (ltb x 16) refl
  where
    go : (b : Bool) → ltb x 16 ≡ b → s4 x < 16
    go true e = ltb-true (s4 x) 16 (at_each 16 (λ x. ltb (s4 x) 16) s4_small x (ltb-true x 16 e))
    go false e = subst (λ (y : ℕ). y < 16) (sym (get_or-eq_default small_box 0 (ltb-false x 16 e))) (omega arith)

y0_below : (x0 x1 : ℕ) → y0 x0 x1 < 16
unfolding y0
y0_below x0 x1 = s4_below (bit_xor (bit_xor (s4 x0) (fourfold (s4 x1))) 0xa)

y1_below : (x0 x1 : ℕ) → y1 x0 x1 < 16
unfolding y1
y1_below x0 x1 = s4_below (bit_xor (bit_xor (fourfold (s4 x0)) (s4 x1)) 0x5)

-- of any number, byte or not
pub s8_below : (x : ℕ) → s8 x < 256
unfolding s8
s8_below x = omega (arith, y0_below (x / 16) (x % 16), y1_below (x / 16) (x % 16))
