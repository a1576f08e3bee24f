-- TRIAD-MAC, Algorithm 5, and both together, TRIAD-AE.
use Rattle.std.specs.Prelude.{ℕ, zero, suc, List, [], ◌∷◌, ◌++◌, reverse, length}
use Rattle.octets.specs.{Digits.number, Digits.digits, LowFirst.bits_up_of, Stream.Keystream, Stream.Cipher, Stream.from}
use Rattle.shift_registers.specs.Registers.{State}
use Rattle.triad.specs.{Keystream.keystream, Keystream.started, State.loaded, State.triad_pb, State.updates}

-- the associated data, and how many bytes they are: seven bytes, the low one first
abbrev pub padded : List ℕ → List ℕ
padded associated = associated ++ reverse (digits 256 7 (length associated))

-- bytes taken in, bit by bit
unfoldable pub absorbed : List ℕ → State → State
absorbed bytes s = updates (bits_up_of bytes) s

-- the first n bytes of a keystream
unfoldable pub first_of : ℕ → Keystream → List ℕ
first_of zero k = []
first_of (suc n) k = k 0 ∷ first_of n (from 1 k)

-- lines 5 to 15, and 16 to 21: the tag's eight bytes
abbrev pub tag_started : List ℕ → List ℕ → State
tag_started key nonce = triad_pb (loaded key nonce)

unfoldable pub tag_of : State → List ℕ
tag_of s = first_of 8 (keystream (triad_pb s))

abbrev pub triad_mac : List ℕ → List ℕ → List ℕ → List ℕ → List ℕ
triad_mac key nonce associated message =
    tag_of (absorbed (padded associated ++ message) (tag_started key nonce))

-- a key of 16 bytes, a nonce of twelve, and a tag of eight
abbrev pub triad : Cipher
triad =
    record {
      key_bytes = 16;
      value_bytes = 12;
      stream = λ key nonce. keystream (started key nonce);
      tag_bytes = 8;
      tag = λ key nonce associated message. number 256 (triad_mac key nonce associated message);
    }
