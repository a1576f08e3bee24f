-- TRIAD's internal state and its update function, section 2.3, over whole numbers.
use Rattle.std.specs.Prelude.{ℕ, ◌+◌, ◌*◌, ◌%◌, List}
use Rattle.shift_registers.specs.{Registers.State, Registers.◌⟨i-◌⟩, Registers.moved, Steps.Mover, Steps.steps_by}
use Rattle.shift_registers.specs.Steps.{bits_by}

-- a of 80 bits, b and c of 88. a1 is the bit that came in last.
infixl 90 ◌⟨◌⟩
abbrev pub ◌⟨◌⟩ : ℕ → ℕ → ℕ
x ⟨ k ⟩ = x ⟨i- k ⟩

-- Algorithm 1, lines 2 to 4; line 2 as the relations of section 4 have it
abbrev pub t1 : State → ℕ
t1 s = s.a ⟨ 68 ⟩ + s.a ⟨ 80 ⟩ + s.b ⟨ 85 ⟩ * s.c ⟨ 85 ⟩

abbrev pub t2 : State → ℕ
t2 s = s.b ⟨ 64 ⟩ + s.b ⟨ 88 ⟩

abbrev pub t3 : State → ℕ
t3 s = s.c ⟨ 68 ⟩ + s.c ⟨ 88 ⟩

-- line 5
unfoldable pub output_bit : State → ℕ
output_bit s = (t1 s + t2 s + t3 s) % 2

-- lines 6 to 8
abbrev pub new1 : ℕ → State → ℕ
new1 msg s = (t1 s + s.a ⟨ 73 ⟩ * s.a ⟨ 79 ⟩ + s.b ⟨ 66 ⟩ + msg) % 2

abbrev pub new2 : ℕ → State → ℕ
new2 msg s = (t2 s + s.b ⟨ 65 ⟩ * s.b ⟨ 87 ⟩ + s.c ⟨ 84 ⟩ + msg) % 2

abbrev pub new3 : ℕ → State → ℕ
new3 msg s = (t3 s + s.c ⟨ 77 ⟩ * s.c ⟨ 87 ⟩ + s.a ⟨ 74 ⟩ + msg) % 2

-- lines 9 to 11
unfoldable pub next : ℕ → State → State
next msg s =
    record {
      a = moved 80 s.a (new3 msg s);
      b = moved 88 s.b (new1 msg s);
      c = moved 88 s.c (new2 msg s);
    }

abbrev pub triad_upd : Mover
triad_upd = record { out = output_bit; next = next }

-- an update for each bit of a message
abbrev pub updates : List ℕ → State → State
updates = steps_by triad_upd

-- and the bits that they put out
abbrev pub outputs : List ℕ → State → List ℕ
outputs = bits_by triad_upd
