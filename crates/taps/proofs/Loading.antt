-- Key and initial value as numbers: ten bytes are two and eight, and zeros before them change nothing.
use mathlib.Core.{Path.◌≡◌, Path.sym, Path.ap, Path.ap₂, Path.subst, Path.◌∙◌, List.List}
use Prim.Native.Nat.{ℕ, ◌+◌, ◌*◌, ◌%◌, ◌^◌, ◌<◌, ◌≤◌}
use native.Mathlib.{Nat.mod-eq_of_lt, Nat.lt_of_lt_of_le, Omega.arith}
use lib.{ListN.length, Pow.pow_mono, Seq.take_all}
use Rattle.octets.specs.Digits.{number, number_at, number_after, word}
use Rattle.octets.proofs.Numbers.{Below, number_below, number_read, numbers_joined, bits_number}
use Rattle.taps.specs.{Registers.loaded, Words.joined, Words.of_words}

-- a register of w bits with ten bytes as its newest
tenth : (w : ℕ) (bytes : List ℕ) → 80 ≤ w → length bytes ≡ 10 → Below 256 bytes
    → joined w (word (number_at bytes 0 2)) (word (number_at bytes 2 8)) ≡ number 256 bytes
tenth w bytes wide ten below =
    let small : number 256 bytes < 256 ^ 10 =
    subst (λ (n : ℕ). number 256 bytes < 256 ^ n) ten (number_below 256 bytes below) in
    let word_of : (at n : ℕ) → n ≤ 8 → _ = λ at n h. number_read bytes at n below h in
    ap₂ (λ (x y : ℕ). (x * 2 ^ 64 + y) % 2 ^ w) (word_of 0 2 (omega arith)) (word_of 2 8 (omega arith))
    ∙ ap (λ (v : ℕ). v % 2 ^ w)
    (numbers_joined bytes 0 2 8 (omega arith) ∙ ap (number 256) (take_all 10 bytes (omega arith)))
    ∙ mod-eq_of_lt (lt_of_lt_of_le small (pow_mono wide))

pub loaded_words : (key iv : List ℕ) → length key ≡ 10 → length iv ≡ 10 → Below 256 key → Below 256 iv
    → let part : List ℕ → ℕ → ℕ → ℕ = λ xs at n. word (number_at xs at n) in
    of_words
    (record {
      a1 = part key 0 2;
      a0 = part key 2 8;
      b1 = part iv 0 2;
      b0 = part iv 2 8;
      c1 = 7 * 2 ^ 44;
      c0 = 0;
    })
    ≡ loaded key iv
unfolding loaded number_after
loaded_words key iv tenk teni keys values =
    λ i.
    record {
      a = (tenth 93 key (omega arith) tenk keys ∙ sym (bits_number 0 key keys)) i;
      b = (tenth 84 iv (omega arith) teni values ∙ sym (bits_number 0 iv values)) i;
      c = 7 * 2 ^ 108;
    }
