-- The state that the code's window stands for, and what rho makes of the two bytes a.
use Rattle.std.specs.Prelude.{ℕ, List}
use Rattle.octets.specs.Buffers.{slice}
use Rattle.sbox.specs.S8.{s8}
use Rattle.enocoro.specs.{State.State, State.◌⊕◌, State.upper_l, State.lower_l, declared.Pair.Pair}

-- the 32 bytes b stand in the window from `at` on
unfoldable pub windowed : List ℕ → ℕ → ℕ → ℕ → State
windowed w at a0 a1 = record { a0 = a0; a1 = a1; b = slice w at 32 }

-- by the bytes b that it reads
abbrev pub mixing : ℕ → ℕ → ℕ → ℕ → ℕ → ℕ → Pair
mixing a0 a1 b2 b7 b16 b29 =
    record {
      a0 = upper_l (a0 ⊕ s8 b2) (a1 ⊕ s8 b7) ⊕ s8 b16;
      a1 = lower_l (a0 ⊕ s8 b2) (a1 ⊕ s8 b7) ⊕ s8 b29;
    }
