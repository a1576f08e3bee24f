-- TRIAD's state as key and nonce make it, and its permutations: section 2.4 and Algorithm 2.
use Rattle.std.specs.Prelude.{ℕ, List, [], ◌∷◌, reverse, get_or, replicate}
use Rattle.octets.specs.{Buffers.slice, Digits.number, Digits.bits_of}
use Rattle.shift_registers.specs.Registers.{State}
pub use Rattle.triad_taps.specs.Update.{updates, outputs, triad_upd}
unfoldable pub use Rattle.triad_taps.specs.Update.{next, output_bit}
use Rattle.triad_taps.specs.Update.{updates}

-- the bytes con[0] to con[3]
abbrev pub con : List ℕ
con = 0xFE ∷ 0xFF ∷ 0xFF ∷ 0xFF ∷ []

infixl 90 ◌⟦◌⟧
-- X[i]
abbrev pub ◌⟦◌⟧ : List ℕ → ℕ → ℕ
xs ⟦ i ⟧ = get_or xs i 0

-- X[from + n - 1] || .. || X[from]
abbrev pub down_to : List ℕ → ℕ → ℕ → List ℕ
down_to xs from n = reverse (slice xs from n)

-- A register whose bits are those of a run of bytes, as they are printed, the most significant of a byte first: the
-- first of them, x1, is the newest.
abbrev pub register : List ℕ → ℕ
register bytes = number 2 (reverse (bits_of bytes))

-- Algorithms 4 and 5, lines 2 to 4
unfoldable pub loaded : List ℕ → List ℕ → State
loaded key nonce =
    record {
      a =
          register
          (nonce ⟦ 0 ⟧ ∷ key ⟦ 4 ⟧ ∷ con ⟦ 3 ⟧ ∷ key ⟦ 3 ⟧ ∷ con ⟦ 2 ⟧ ∷ key ⟦ 2 ⟧ ∷ con ⟦ 1 ⟧ ∷ key ⟦ 1 ⟧
          ∷ con ⟦ 0 ⟧ ∷ key ⟦ 0 ⟧ ∷ []);
      b = register (down_to nonce 1 11);
      c = register (down_to key 5 11);
    }

abbrev pub zeros : ℕ → List ℕ
zeros n = replicate n 0

-- 1,024 updates, of which the first takes a bit
unfoldable pub permuted : ℕ → State → State
permuted first s = updates (first ∷ zeros 1023) s

-- TriadP, and TriadPB for the tag
abbrev pub triad_p : State → State
triad_p = permuted 0

abbrev pub triad_pb : State → State
triad_pb = permuted 1
