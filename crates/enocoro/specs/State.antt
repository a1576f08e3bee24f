-- Enocoro-128v2's internal state and how it moves: ISO/IEC 29192-3, 6.1.1 to 6.1.7, over bytes as whole numbers.
use Rattle.std.specs.Prelude.{ℕ, zero, suc, List, [], ◌∷◌, ◌++◌}
use lib.{Bits.bit_xor, ListN.get_or, ListN.take}
use Rattle.sbox.specs.{Field.twice, S8.s8}

-- 6.1.1: two bytes a and 32 bytes b
pub record State : Type 0 where
  pub a0 : ℕ
  pub a1 : ℕ
  pub b : List ℕ

infixl 90 ◌⟨◌⟩
-- b_j
abbrev pub ◌⟨◌⟩ : List ℕ → ℕ → ℕ
b ⟨ j ⟩ = get_or b j 0

infixl 60 ◌⊕◌
abbrev pub ◌⊕◌ : ℕ → ℕ → ℕ
x ⊕ y = bit_xor x y

-- 6.1.7: the rows of L are 1, 1 and 1, 0x02
abbrev pub upper_l : ℕ → ℕ → ℕ
upper_l u0 u1 = u0 ⊕ u1

abbrev pub lower_l : ℕ → ℕ → ℕ
lower_l u0 u1 = u0 ⊕ twice u1

-- 6.1.5: what rho makes of a0 and of a1
abbrev pub u0 : State → ℕ
u0 s = s.a0 ⊕ s8 (s.b ⟨ 2 ⟩)

abbrev pub u1 : State → ℕ
u1 s = s.a1 ⊕ s8 (s.b ⟨ 7 ⟩)

abbrev pub new_a0 : State → ℕ
new_a0 s = upper_l (u0 s) (u1 s) ⊕ s8 (s.b ⟨ 16 ⟩)

abbrev pub new_a1 : State → ℕ
new_a1 s = lower_l (u0 s) (u1 s) ⊕ s8 (s.b ⟨ 29 ⟩)

-- 6.1.6: what lambda makes of b. Each byte moves on by one place; those that come to 0, 3, 8 and 17 are changed.
abbrev pub new_b : List ℕ → ℕ → List ℕ
new_b b a0 =
    (b ⟨ 31 ⟩ ⊕ a0) ∷ b ⟨ 0 ⟩ ∷ b ⟨ 1 ⟩ ∷ (b ⟨ 2 ⟩ ⊕ b ⟨ 6 ⟩) ∷ b ⟨ 3 ⟩ ∷ b ⟨ 4 ⟩ ∷ b ⟨ 5 ⟩ ∷ b ⟨ 6 ⟩
    ∷ (b ⟨ 7 ⟩ ⊕ b ⟨ 15 ⟩) ∷ b ⟨ 8 ⟩ ∷ b ⟨ 9 ⟩ ∷ b ⟨ 10 ⟩ ∷ b ⟨ 11 ⟩ ∷ b ⟨ 12 ⟩ ∷ b ⟨ 13 ⟩ ∷ b ⟨ 14 ⟩
    ∷ b ⟨ 15 ⟩ ∷ (b ⟨ 16 ⟩ ⊕ b ⟨ 28 ⟩) ∷ b ⟨ 17 ⟩ ∷ b ⟨ 18 ⟩ ∷ b ⟨ 19 ⟩ ∷ b ⟨ 20 ⟩ ∷ b ⟨ 21 ⟩ ∷ b ⟨ 22 ⟩
    ∷ b ⟨ 23 ⟩ ∷ b ⟨ 24 ⟩ ∷ b ⟨ 25 ⟩ ∷ b ⟨ 26 ⟩ ∷ b ⟨ 27 ⟩ ∷ b ⟨ 28 ⟩ ∷ b ⟨ 29 ⟩ ∷ b ⟨ 30 ⟩ ∷ []

-- 6.1.3: all of it from the old state
unfoldable pub next : State → State
next s = record { a0 = new_a0 s; a1 = new_a1 s; b = new_b s.b s.a0 }

unfoldable pub rounds : ℕ → State → State
rounds zero s = s
rounds (suc n) s = rounds n (next s)

-- 6.1.2 a) to c)
abbrev pub constants : List ℕ
constants = 0x66 ∷ 0xe9 ∷ 0x4b ∷ 0xd4 ∷ 0xef ∷ 0x8a ∷ 0x2c ∷ 0x3b ∷ []

unfoldable pub loaded : List ℕ → List ℕ → State
loaded key iv = record { a0 = 0x88; a1 = 0x4c; b = key ++ iv ++ constants }

-- 6.1.2 e), first: the counter goes into b31
unfoldable pub counted : ℕ → State → State
counted ctr s = record { a0 = s.a0; a1 = s.a1; b = take 31 s.b ++ ((s.b ⟨ 31 ⟩ ⊕ ctr) ∷ []) }

-- 6.1.2 e): n rounds from where the counter has come to
unfoldable pub blanks : ℕ → ℕ → State → State
blanks zero ctr s = s
blanks (suc n) ctr s = blanks n (twice ctr) (next (counted ctr s))

abbrev pub warm_up : ℕ
warm_up = 96

-- 6.1.2 d) to f)
abbrev pub started : List ℕ → List ℕ → State
started key iv = blanks warm_up 1 (loaded key iv)
