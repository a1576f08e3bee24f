-- What the reading program prints of its input, 168 bytes of keys and then a pack: lines of ASCII codes.
use Rattle.std.specs.Prelude.{ℕ, zero, suc, ◌+◌, List, [], ◌∷◌, ◌++◌, map, length, take, drop}
use Rattle.octets.specs.{Buffers.slice, Buffers.put, Digits.digits}
use Rattle.refusals.specs.{Numbers.bad_key, Outcome.Outcome, Outcome.outcome}
use Rattle.refusals.specs.Rules.{◌under◌, Fault, ◌says◌, lacking, settled}
use Rattle.pack.specs.{Ciphers.cipher_in, Ciphers.ring_in, declared.Rings.Rings, Faults.keyed_faults, Places.name_count}
use Rattle.pack.specs.Places.{key_number, sample_count, loop_count}
use Rattle.rings.specs.Ring.{keys_bytes, rings_of}

-- digits without the zeros at their front, as long as one is left
unfoldable pub trimmed : List ℕ → List ℕ
trimmed [] = []
trimmed (d ∷ []) = d ∷ []
trimmed (zero ∷ e ∷ ds) = trimmed (e ∷ ds)
trimmed (suc d ∷ e ∷ ds) = suc d ∷ e ∷ ds

-- a number in decimal, `0` being 48: no word has more than twenty digits
unfoldable pub decimal : ℕ → List ℕ
decimal x = map (λ d. 48 + d) (trimmed (digits 10 20 x))

-- a word, what it is about, and the line's end
abbrev pub line : List ℕ → List ℕ → List ℕ
line word about = word ++ about ++ (10 ∷ [])

-- the words, each with its space
abbrev pub name_word : List ℕ
name_word = 110 ∷ 97 ∷ 109 ∷ 101 ∷ 32 ∷ []

abbrev pub key_word : List ℕ
key_word = 107 ∷ 101 ∷ 121 ∷ 32 ∷ []

abbrev pub samples_word : List ℕ
samples_word = 115 ∷ 97 ∷ 109 ∷ 112 ∷ 108 ∷ 101 ∷ 115 ∷ 32 ∷ []

abbrev pub loops_word : List ℕ
loops_word = 108 ∷ 111 ∷ 111 ∷ 112 ∷ 115 ∷ 32 ∷ []

abbrev pub refused_word : List ℕ
refused_word = 114 ∷ 101 ∷ 102 ∷ 117 ∷ 115 ∷ 101 ∷ 100 ∷ 32 ∷ []

-- an accepted pack: its name, and three numbers
unfoldable pub pack_lines : List ℕ → ℕ → ℕ → ℕ → List ℕ
pack_lines name key samples loops =
    line name_word name ++ line key_word (decimal key) ++ line samples_word (decimal samples)
    ++ line loops_word (decimal loops)

-- how many bytes are missing, if any are: a space, and their number
unfoldable pub lacking_text : ℕ → List ℕ
lacking_text zero = []
lacking_text (suc n) = 32 ∷ decimal (suc n)

-- a refusal: its number, and behind it what a file lacks that breaks off
unfoldable pub refused_line : ℕ → ℕ → List ℕ
refused_line lacks number = line refused_word (decimal number ++ lacking_text lacks)

-- the keys, and what stands behind them
abbrev pub keys_in : List ℕ → Rings
keys_in input = rings_of (take keys_bytes input)

abbrev pub pack_in : List ℕ → List ℕ
pack_in input = drop keys_bytes input

-- the keys have to be all there, and then the pack decides
abbrev pub input_faults : List ℕ → List Fault
input_faults input =
    let file = pack_in input in
    (length input under keys_bytes says bad_key) ∷ keyed_faults (cipher_in file) (ring_in (keys_in input) file) file

unfoldable pub text_of : List ℕ → List ℕ
text_of input =
    let file = pack_in input in
    settled (input_faults input)
    (pack_lines (slice file 1 (name_count file)) (key_number file) (sample_count (cipher_in file) file)
    (loop_count (cipher_in file) file))
    (refused_line (lacking (input_faults input)))

-- the text's length, room or not, and the text at the buffer's front if it has room there
abbrev pub writing : List ℕ → List ℕ → Outcome ℕ ℕ
writing text buffer = outcome (length text) (put buffer 0 text)
