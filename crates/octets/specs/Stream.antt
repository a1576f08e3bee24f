-- Bytes under a keystream, whatever cipher makes it.
use Rattle.std.specs.Prelude.{ℕ, ◌+◌, List, [], ◌∷◌}
use Rattle.std.specs.Int.Bits.{bit_xor}

-- a keystream says its byte number n, counted from 0
abbrev pub Keystream : Type 0
Keystream = ℕ → ℕ

-- What packs and the link need of a cipher: how many bytes its keys and its initial values have, and the keystream of
-- each two. It may bring a tag of so many bytes, a number: what it is by key, initial value, associated data and
-- message.
pub record Cipher : Type 0 where
  pub key_bytes : ℕ
  pub value_bytes : ℕ
  pub stream : List ℕ → List ℕ → Keystream
  pub tag_bytes : ℕ
  pub tag : List ℕ → List ℕ → List ℕ → List ℕ → ℕ

-- a cipher that brings none
abbrev pub untagged : ℕ → ℕ → (List ℕ → List ℕ → Keystream) → Cipher
untagged keys values stream =
    record {
      key_bytes = keys;
      value_bytes = values;
      stream = stream;
      tag_bytes = 0;
      tag = λ key value associated message. 0;
    }

-- the keystream from its byte number n on
abbrev pub from : ℕ → Keystream → Keystream
from n k = λ i. k (n + i)

-- each byte's exclusive or with the keystream's byte of the same number
unfoldable pub enciphered : Keystream → List ℕ → List ℕ
enciphered k [] = []
enciphered k (x ∷ xs) = bit_xor x (k 0) ∷ enciphered (from 1 k) xs
