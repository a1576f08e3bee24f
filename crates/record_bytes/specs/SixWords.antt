-- Six words of 64 bits as bytes, one after the other: the records of the ciphers on three registers, each register in
-- two words.
use Rattle.std.specs.Prelude.{ℕ, List, [], ◌∷◌, length, get_or}
use Rattle.octets.specs.Rows.{row, numbers_at}
use Rattle.refusals.specs.{Numbers.not_a_cipher, Rules.◌under◌, Rules.◌says◌, Rules.settled}
use Rattle.shift_registers.specs.declared.SixWords.{SixWords}

abbrev pub six_widths : List ℕ
six_widths = 8 ∷ 8 ∷ 8 ∷ 8 ∷ 8 ∷ 8 ∷ []

abbrev pub six_size : ℕ
six_size = 48

abbrev pub six_numbers : SixWords → List ℕ
six_numbers w = w.a1 ∷ w.a0 ∷ w.b1 ∷ w.b0 ∷ w.c1 ∷ w.c0 ∷ []

unfoldable pub six_bytes : SixWords → List ℕ
six_bytes w = row six_widths (six_numbers w)

-- the words that numbers are; one that isn't given is 0
abbrev pub six_of : List ℕ → SixWords
six_of x =
    record { a1 = get_or x 0 0; a0 = get_or x 1 0; b1 = get_or x 2 0; b0 = get_or x 3 0; c1 = get_or x 4 0; c0 = get_or x 5 0 }

-- what is read back; from bytes that are too few, zeros
unfoldable pub six_in : List ℕ → SixWords
six_in bytes =
    settled ((length bytes under six_size says not_a_cipher) ∷ []) (six_of (numbers_at six_widths bytes 0))
    (λ number. six_of [])
