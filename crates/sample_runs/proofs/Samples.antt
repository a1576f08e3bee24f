-- What was taken unturned is turned: a number's two bytes are those that it was made of.
use mathlib.Core.{Path.◌≡◌, Path.ap, Path.ap₂, Path.◌∙◌, List.List, List.map}
use Prim.Native.Nat.{ℕ, ◌+◌, ◌*◌, ◌/◌, ◌%◌, ◌<◌}
use native.Mathlib.Omega.{arith}
use Rattle.octets.specs.Digits.{number_after}
use Rattle.octets.proofs.Numbers.{Below}
use Rattle.samples.specs.Words.{plain_word, word_of, words_of}
use Rattle.samples.proofs.Words.{unsigned_signed, word_small, twos_map}
use Rattle.sample_runs.specs.Unturned.{low_first, unturned, turned}

-- the two bytes of a number that was made of two
parted : (first second : ℕ) → first < 256 → second < 256 → turned (low_first first second) ≡ word_of first second
unfolding number_after
parted first second h k =
    ap (λ (n : ℕ). word_of (n % 256) (n / 256))
    (unsigned_signed (plain_word second first) (word_small second first k h))
    ∙ ap₂ word_of lower upper
  where
    lower : ((0 * 256 + second) * 256 + first) % 256 ≡ first
    lower = omega arith

    upper : ((0 * 256 + second) * 256 + first) / 256 ≡ second
    upper = omega arith

pub turned_samples : (bytes : List ℕ) → Below 256 bytes → map turned (unturned bytes) ≡ words_of bytes
turned_samples bytes b = twos_map low_first turned word_of bytes b parted
