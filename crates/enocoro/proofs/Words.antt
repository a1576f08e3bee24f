-- Runs of bytes, and the eight in a word.
use mathlib.Core.{Path.◌≡◌, Path.◌∙◌, List.List, List.[], List.◌∷◌}
use Prim.Native.Nat.{ℕ, zero, suc, ◌^◌, ◌<◌}
use native.Mathlib.{Nat.mod-eq_of_lt, Omega.arith}
use Rattle.octets.specs.Digits.{number, digits}
use Rattle.octets.proofs.Numbers.{Below, number_digits}

pub below_digits : (n w : ℕ) → Below 256 (digits 256 n w)
unfolding digits
below_digits zero w i = omega arith
below_digits (suc n) w zero = omega arith
below_digits (suc n) w (suc i) = below_digits n w i

-- the same said of each element in turn, for lists that are written out
infixr 40 ◌and◌
pub data EachByte : List ℕ → Type 0 where
  nothing : EachByte []
  ◌and◌ : {x : ℕ} {xs : List ℕ} → x < 256 → EachByte xs → EachByte (x ∷ xs)

pub below_each : {xs : List ℕ} → EachByte xs → Below 256 xs
below_each nothing i = omega arith
below_each (h and hs) zero = h
below_each (h and hs) (suc i) = below_each hs i

-- a word's eight bytes make the word
pub word_digits : (w : ℕ) → w < 2 ^ 64 → number 256 (digits 256 8 w) ≡ w
word_digits w h = number_digits 256 (omega arith) 8 w ∙ mod-eq_of_lt h
