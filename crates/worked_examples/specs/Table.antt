-- The examples that the product's paper marks to be proved, in its order.
use mathlib.Core.{Path.◌≡◌, List.List, List.[], List.◌∷◌, List.map}
use Rattle.std.specs.Prelude.{ℕ, ◌+◌, ◌-◌, ◌^◌}
use lib.{IntN.pos, IntN.negsuc, ListN.replicate}
use Rattle.frames.specs.Frames.{opening, bytes}
use Rattle.blocks.specs.Blocks.{blocks}
use Rattle.samples.specs.Words.{word_of}
use Rattle.trivium.specs.Registers.{State, loaded, new_a, new_b, new_c, output_bit}

-- what the definition gives, beside what the paper says
pub data Example : Type 1 where
  example : {A : Type 0} → A → A → Example

-- The one statement: in every example the two are the same.
abbrev pub Holds : List Example → Type 0
Holds [] = Unit {0}
Holds (example gives says ∷ examples) = (gives ≡ says) × Holds examples

-- a register in which only x(i-k) is set
abbrev pub only : ℕ → ℕ
only k = 2 ^ (k - 1)

-- the output bit, then the new bits of a, b and c
abbrev pub seen : State → List ℕ
seen s = output_bit s ∷ new_a s ∷ new_b s ∷ new_c s ∷ []

-- only the two bits before the oldest, whose product makes the new bit
abbrev pub oldest_of_a : State
oldest_of_a = record { a = only 92 + only 91; b = 0; c = 0 }

abbrev pub oldest_of_c : State
oldest_of_c = record { a = 0; b = 0; c = only 110 + only 109 }

abbrev pub ten_zeros : List ℕ
ten_zeros = replicate 10 0

abbrev pub table : List Example
table =
    -- words: FF FE is -2, 80 00 is -32767, 00 80 is 128, 7F FF is 32767
    example (word_of 0xFF 0xFE) (negsuc 1)
    ∷ example (word_of 0x80 0x00) (negsuc 32766)
    ∷ example (word_of 0x00 0x80) (pos 128)
    ∷ example (word_of 0x7F 0xFF) (pos 32767)
    -- registers all 0: output 0, new bits 0, 0, 0
    ∷ example (seen (record { a = 0; b = 0; c = 0 })) (0 ∷ 0 ∷ 0 ∷ 0 ∷ [])
    -- only a(i-66) set: output 1, new b 1, new a and c 0
    ∷ example (seen (record { a = only 66; b = 0; c = 0 })) (1 ∷ 0 ∷ 1 ∷ 0 ∷ [])
    -- only a(i-92) and a(i-91) set: output 0, new b 1
    ∷ example (output_bit oldest_of_a ∷ new_b oldest_of_a ∷ []) (0 ∷ 1 ∷ [])
    -- only c(i-110) and c(i-109) set: output 0, new a 1
    ∷ example (output_bit oldest_of_c ∷ new_a oldest_of_c ∷ []) (0 ∷ 1 ∷ [])
    -- zero key and value just loaded: output 1, all new bits 0
    ∷ example (seen (loaded ten_zeros ten_zeros)) (1 ∷ 0 ∷ 0 ∷ 0 ∷ [])
    -- blocks: length 0 gives 0, 1 gives 1, 64 gives 1, 65 gives 2, 32,768 gives 512
    ∷ example (map blocks (0 ∷ 1 ∷ 64 ∷ 65 ∷ 32768 ∷ [])) (0 ∷ 1 ∷ 1 ∷ 2 ∷ 512 ∷ [])
    -- opening, session 1, length 65: 01 00 00 00 01 00 00 00 41
    ∷ example (bytes (opening 1 65)) (1 ∷ 0 ∷ 0 ∷ 0 ∷ 1 ∷ 0 ∷ 0 ∷ 0 ∷ 65 ∷ [])
    ∷ []
