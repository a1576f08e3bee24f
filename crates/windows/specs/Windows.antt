-- Sixteen blocks in the air: which of the blocks past the count held are placed already, as a map of 16 bits. Bit j
-- stands for the block that is j past the count.
use Rattle.std.specs.Prelude.{ℕ, zero, suc, ◌+◌, ◌/◌, ◌%◌, ◌^◌, Bool, true, false, cond, not, ◌&&◌, eqb, ltb, Option, Some, None}
use Rattle.windows.specs.declared.Arrival.{Arrival}

-- how many blocks may be in the air
abbrev pub window : ℕ
window = 16

-- the block so far past the count is placed
abbrev pub marked : ℕ → ℕ → Bool
marked map ahead = eqb (map / 2 ^ ahead % 2) 1

-- the map with that block placed as well
abbrev pub marking : ℕ → ℕ → ℕ
marking map ahead = map + 2 ^ ahead

-- how many blocks from the count on are placed with no gap between them, up to so many: the map's trailing ones
unfoldable pub run : ℕ → ℕ → ℕ
run zero map = 0
run (suc most) map = cond (marked map 0) (suc (run most (map / 2))) 0

-- a block that is in the window and isn't placed yet is fresh
abbrev pub is_fresh : ℕ → ℕ → Bool
is_fresh map ahead = ltb ahead window && not (marked map ahead)

-- what an arrival comes to: whether the block is fresh, by how much the count moves, and the map afterwards
pub record Arrived : Type 0 where
  pub fresh : Bool
  pub moved : ℕ
  pub map : ℕ

-- what the code answers for it, at a map
abbrev pub arrived : ℕ → Option Arrival → Arrived
arrived map None = record { fresh = false; moved = 0; map = map }
arrived map (Some a) = record { fresh = true; moved = a.moved; map = a.map }

-- the map moves along as the count moves past the run
abbrev pub moving : ℕ → Arrived
moving map = let n = run window map in record { fresh = true; moved = n; map = map / 2 ^ n }

-- A block arrives. One that isn't fresh changes nothing.
unfoldable pub arriving : ℕ → ℕ → Arrived
arriving map ahead =
    cond (is_fresh map ahead) (moving (marking map ahead)) (record { fresh = false; moved = 0; map = map })

-- in rule (27) a map marks neither the count's own block nor one past the end, with so many blocks left from the count
-- on
unfoldable pub map_in_rule : ℕ → ℕ → Bool
map_in_rule map left = not (marked map 0) && ltb map (2 ^ left)
