-- What each public call owes: its answer, and what a lent buffer holds afterwards, for every input.
use Rattle.std.specs.Prelude.{ℕ, ◌*◌, ◌%◌, min, List}
use Rattle.octets.specs.{Digits.number, LowFirst.bits_up, LowFirst.number_up, Stream.Keystream, Stream.enciphered}
use Rattle.refusals.specs.{Numbers.accepted, Outcome.Outcome, Rules.settled}
use Rattle.refusals.specs.Answers.{Answer, answer}
use Rattle.ciphers.specs.Calls.{make_faults, covers_by, enciphers_by}
use Rattle.triad.specs.{Keystream.keystream, Record.state, Record.packed, Tag.absorbed, Tag.tag_of, Tag.triad}
use Rattle.triad.specs.State.{loaded, next, output_bit, outputs, permuted, updates, zeros}
use Rattle.triad.specs.{declared.Registers.Registers, declared.Stepped.Stepped, declared.Strode.Strode}

-- the record that a refused making answers
abbrev pub blank : Registers
blank = record { words = record { a1 = 0; a0 = 0; b1 = 0; b0 = 0; c1 = 0; c0 = 0 } }

abbrev pub refused_making : ℕ → Answer Registers
refused_making number = answer number blank

-- the registers behind the permutation whose first update takes this bit
abbrev pub making_by : ℕ → List ℕ → List ℕ → Answer Registers
making_by bit key nonce =
    settled (make_faults triad key nonce)
    (answer accepted (packed (permuted bit (loaded key nonce))))
    refused_making

-- for the keystream, and for the tag
unfoldable pub making_cipher : List ℕ → List ℕ → Answer Registers
making_cipher = making_by 0

unfoldable pub making_tag : List ℕ → List ℕ → Answer Registers
making_tag = making_by 1

-- one update, the plain reading; it takes the lowest bit of the message
unfoldable pub stepping : Registers → ℕ → Stepped
stepping r message = record { bit = output_bit (state r); next = packed (next (message % 2) (state r)) }

-- 64 updates, which take the message's bits from the lowest on; what they put out, the first bit as the lowest
unfoldable pub striding : Registers → ℕ → Strode
striding r message =
    record {
      word = number_up (outputs (bits_up 64 message) (state r));
      next = packed (updates (bits_up 64 message) (state r));
    }

-- the same in a loop: a register's older word is, whole, what was its newer
unfoldable pub running : Registers → ℕ → Strode
running r message =
    let strode : Strode = striding r message in
    record {
      word = strode.word;
      next =
          record {
            words =
                record {
                  a1 = r.words.a0;
                  a0 = strode.next.words.a0;
                  b1 = r.words.b0;
                  b0 = strode.next.words.b0;
                  c1 = r.words.c0;
                  c0 = strode.next.words.c0;
                };
          };
    }

-- the same word, and only n of the 64 updates
unfoldable pub short_striding : Registers → ℕ → ℕ → Strode
short_striding r message n =
    record { word = (striding r message).word; next = packed (updates (bits_up (min n 64) message) (state r)) }

-- whole bytes passed over
unfoldable pub skipping : Registers → ℕ → Registers
skipping r bytes = packed (updates (zeros (8 * bytes)) (state r))

-- the keystream from the place where the record stands
abbrev pub ahead : Registers → Keystream
ahead r = keystream (state r)

-- the bytes under the keystream, at the front of the output
unfoldable pub enciphering : Registers → List ℕ → List ℕ → Outcome (Answer Registers) ℕ
enciphering = enciphers_by answer ahead skipping

-- the same where the bytes stand
unfoldable pub covering : Registers → List ℕ → Outcome Registers ℕ
covering = covers_by ahead skipping

-- a piece of what the tag is over
unfoldable pub absorbing : Registers → List ℕ → Registers
absorbing r bytes = packed (absorbed bytes (state r))

-- a piece that is lent enciphered, from the place in its keystream where the cipher stands
unfoldable pub absorbing_under : Registers → Registers → List ℕ → Registers
absorbing_under r cipher bytes = absorbing r (enciphered (ahead cipher) bytes)

-- the tag of all pieces, its eight bytes as a number
unfoldable pub tagging : Registers → ℕ
tagging r = number 256 (tag_of (state r))
