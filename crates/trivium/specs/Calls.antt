-- What each public call owes: its answer, and what a lent buffer holds afterwards, for every input.
use Rattle.std.specs.Prelude.{ℕ, ◌*◌, ◌%◌, ◌^◌, min, List}
use Rattle.octets.specs.{Digits.number, Stream.Keystream}
use Rattle.refusals.specs.{Numbers.accepted, Answers.Answer, Answers.answer, Outcome.Outcome, Rules.settled}
use Rattle.ciphers.specs.Calls.{make_faults, covers_by, enciphers_by}
use Rattle.taps.specs.Keystream.{bits, keystream, trivium}
use Rattle.taps.specs.Registers.{State, output_bit, next, steps, started}
use Rattle.trivium.specs.{Record.state, Record.packed}
use Rattle.trivium.specs.{declared.Ran.Ran, declared.Registers.Registers, declared.Running.Running}
use Rattle.trivium.specs.{declared.Stepped.Stepped, declared.Strode.Strode}

-- the record that a refused making leaves
abbrev pub blank : Registers
blank = record { words = record { a1 = 0; a0 = 0; b1 = 0; b0 = 0; c1 = 0; c0 = 0 } }

abbrev pub refused_making : ℕ → Answer Registers
refused_making number = answer number blank

unfoldable pub making_cipher : List ℕ → List ℕ → Answer Registers
making_cipher key iv =
    settled (make_faults trivium key iv) (answer accepted (packed (started key iv))) refused_making

-- the same, moved on by n strides
unfoldable pub making_at : List ℕ → List ℕ → ℕ → Answer Registers
making_at key iv n =
    settled (make_faults trivium key iv) (answer accepted (packed (steps (64 * n) (started key iv)))) refused_making

-- one bit, the plain reading
unfoldable pub stepping : Registers → Stepped
stepping r = record { bit = output_bit (state r); next = packed (next (state r)) }

-- n bits, the first of them the most significant, and n steps; 64 are a stride
abbrev pub strides : ℕ → Registers → Strode
strides n r = record { word = number 2 (bits n (state r)); next = packed (steps n (state r)) }

abbrev pub striding : Registers → Strode
striding r = strides 64 r

-- a part of one
abbrev pub short_striding : Registers → ℕ → Strode
short_striding r n = strides (min n 64) r

-- a run of strides begins with every word of a record
abbrev pub running_from : Registers → Running
running_from r = record { registers = r }

-- 64 bits in a run: a register's upper word is, whole, what was its newest word
unfoldable pub running : Running → Ran
running w =
    let r : Registers = w.registers in
    let later : State = steps 64 (state r) in
    record {
      word = number 2 (bits 64 (state r));
      next =
          record {
            registers =
                record {
                  words =
                      record {
                        a1 = r.words.a0;
                        a0 = later.a % 2 ^ 64;
                        b1 = r.words.b0;
                        b0 = later.b % 2 ^ 64;
                        c1 = r.words.c0;
                        c0 = later.c % 2 ^ 64;
                      };
                };
          };
    }

-- and at its end the record has every spare bit zero
unfoldable pub stopping : Running → Registers
stopping w = packed (state w.registers)

-- whole bytes passed over
unfoldable pub skipping : Registers → ℕ → Registers
skipping r bytes = packed (steps (8 * bytes) (state r))

-- the keystream from the place where a record stands
abbrev pub ahead : Registers → Keystream
ahead r = keystream (state r)

-- bytes under the keystream where they stand
abbrev pub covering : Registers → List ℕ → Outcome Registers ℕ
covering = covers_by ahead skipping

-- the bytes under the keystream, at the front of the output
abbrev pub enciphering : Registers → List ℕ → List ℕ → Outcome (Answer Registers) ℕ
enciphering = enciphers_by answer ahead skipping
