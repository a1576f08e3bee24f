-- Key and nonce as words: eight bytes are a word turned, and zeros behind two or three change nothing.
use mathlib.Core.{Path.◌≡◌, Path.refl, Path.sym, Path.ap, Path.ap₂, Path.subst, Path.◌∙◌, List.List, List.[], List.◌∷◌}
use mathlib.Core.List.{◌++◌, reverse, reverse-append}
use Prim.Native.Nat.{ℕ, zero, suc, ◌+◌, ◌*◌, ◌%◌, ◌^◌, ◌<◌, ◌≤◌}
use native.Mathlib.{Nat.mod-eq_of_lt, Omega.arith}
use lib.ListN.{length, replicate, length-append, length-replicate}
use Rattle.std.specs.Int.{w64, from_be_bytes}
use Rattle.octets.specs.{Buffers.slice, Digits.number, Digits.number_after, Digits.digits, Digits.bits_of}
use Rattle.octets.specs.LowFirst.{number_up, turned}
use Rattle.octets.proofs.LowFirst.{numbers_up, number_back, up_below, word_turned, length_bits, bits_below, bits_append}
use Rattle.octets.proofs.LowFirst.{length_reverse, below_reverse, below_append}
use Rattle.octets.proofs.{Numbers.Below, Numbers.below_slice, Numbers.digits_read}
use Rattle.octets.proofs.Slices.{length_slice, slice_add, slice_read}
use Rattle.samples.specs.Words.{swapped, eight_from}
use Rattle.samples.proofs.Reversed.{eight_there}
use Rattle.shift_registers.specs.Words.{joined}
use Rattle.triad_taps.specs.Words.{of_words}
use Rattle.triad.specs.State.{◌⟦◌⟧, loaded, register, down_to}

blank : (n : ℕ) → number_up (bits_of (replicate n 0)) ≡ 0
unfolding bits_of number_up digits
blank zero = refl
blank (suc n) = omega (arith, blank n)

pub below_blank : (n : ℕ) → Below 256 (replicate n 0)
below_blank zero i = omega arith
below_blank (suc n) zero = omega arith
below_blank (suc n) (suc i) = below_blank n i

-- fewer than eight bytes at the top of a word
upper_word : (n m : ℕ) (xs : List ℕ) → length xs ≡ n → n + m ≡ 8 → Below 256 xs
    → turned (number 256 (xs ++ replicate m 0)) ≡ number_up (bits_of xs)
upper_word n m xs long all b =
    let pads : List ℕ = replicate m 0 in
    let few : length pads ≡ m = length-replicate m 0 in
    let eight : length (xs ++ pads) ≡ 8 = length-append xs pads ∙ omega arith in
    sym (word_turned (xs ++ pads) eight (below_append xs pads b (below_blank m)))
    ∙ ap number_up (bits_append xs pads)
    ∙ numbers_up (bits_of xs) (bits_of pads)
    ∙ ap (λ (v : ℕ). v * 2 ^ length (bits_of xs) + number_up (bits_of xs)) (blank m)
    ∙ nought (2 ^ length (bits_of xs)) (number_up (bits_of xs))
  where
    nought : (p v : ℕ) → 0 * p + v ≡ v
    nought p v = omega arith

-- eight bytes of a run as they are loaded
pub low_eight : (bytes : List ℕ) (at : ℕ) → at + 8 ≤ length bytes → Below 256 bytes
    → eight_from bytes at ≡ number 256 (reverse (slice bytes at 8))
unfolding swapped
low_eight bytes at room b =
    eight_there bytes at room ∙ ap (λ (l : List ℕ). number 256 (reverse l)) (digits_read bytes at 8 room b)

-- ---- registers

-- eight bytes as they are printed
pub printed : (a b c d e f g h : ℕ)
    → from_be_bytes w64 (a ∷ b ∷ c ∷ d ∷ e ∷ f ∷ g ∷ h ∷ []) ≡ number 256 (a ∷ b ∷ c ∷ d ∷ e ∷ f ∷ g ∷ h ∷ [])
unfolding number_after
printed a b c d e f g h = omega arith

-- a register of 8 * (8 + n) bits, its first eight bytes as the newer word
pub register_words : (n m : ℕ) (xs ys : List ℕ) {older newer : ℕ} → length xs ≡ 8 → length ys ≡ n → n + m ≡ 8
    → Below 256 xs → Below 256 ys → older ≡ number 256 (ys ++ replicate m 0) → newer ≡ number 256 xs
    → joined (8 * n + 64) (turned older) (turned newer) ≡ register (xs ++ ys)
register_words n m xs ys eight long all bx by up down =
    let first : List ℕ = bits_of xs in
    let second : List ℕ = bits_of ys in
    let wide : length (first ++ second) ≡ 8 * n + 64 =
    length-append first second ∙ ap₂ (λ (x y : ℕ). x + y) (length_bits xs) (length_bits ys) ∙ omega arith in
    let whole : length first ≡ 64 = length_bits xs ∙ ap (λ (k : ℕ). 8 * k) eight in
    let small : number_up (first ++ second) < 2 ^ (8 * n + 64) =
    subst (λ (k : ℕ). number_up (first ++ second) < 2 ^ k) wide
    (up_below (first ++ second) (subst (Below 2) (bits_append xs ys) (bits_below (xs ++ ys)))) in
    ap₂ (λ (x y : ℕ). (x * 2 ^ 64 + y) % 2 ^ (8 * n + 64))
    (ap turned up ∙ upper_word n m ys long all by) (ap turned down ∙ sym (word_turned xs eight bx))
    ∙ ap (λ (k : ℕ). (number_up second * 2 ^ k + number_up first) % 2 ^ (8 * n + 64)) (sym whole)
    ∙ ap (λ (v : ℕ). v % 2 ^ (8 * n + 64)) (sym (numbers_up first second))
    ∙ mod-eq_of_lt small
    ∙ ap number_up (sym (bits_append xs ys))
    ∙ sym (number_back (bits_of (xs ++ ys)))

-- eleven bytes of a run, the last of them first: eight of them as the code reads them, and three
pub register_down : (bytes : List ℕ) (at : ℕ) {older newer : ℕ} → at + 11 ≤ length bytes → Below 256 bytes
    → older ≡ number 256 (bytes ⟦ at + 2 ⟧ ∷ bytes ⟦ at + 1 ⟧ ∷ bytes ⟦ at ⟧ ∷ replicate 5 0)
    → newer ≡ eight_from bytes (at + 3) → joined 88 (turned older) (turned newer) ≡ register (down_to bytes at 11)
register_down bytes at room b up down =
    let three : List ℕ = slice bytes at 3 in
    let eight : List ℕ = slice bytes (at + 3) 8 in
    let few : length (reverse three) ≡ 3 = length_reverse three ∙ length_slice bytes at 3 (omega arith) in
    let many : length (reverse eight) ≡ 8 = length_reverse eight ∙ length_slice bytes (at + 3) 8 (omega arith) in
    register_words 3 5 (reverse eight) (reverse three) many few refl
    (below_reverse eight (below_slice bytes (at + 3) 8 b)) (below_reverse three (below_slice bytes at 3 b))
    (up ∙ ap (λ (l : List ℕ). number 256 (reverse l ++ replicate 5 0)) (slice_read bytes at 2 0 (omega arith)))
    (down ∙ low_eight bytes (at + 3) (omega arith) b)
    ∙ ap register (sym (reverse-append three eight) ∙ ap reverse (sym (slice_add bytes at 3 8)))

-- bytes that are known one by one
abbrev Each : List ℕ → Type 0
Each [] = Unit
Each (x ∷ xs) = (x < 256) × Each xs

each_below : (xs : List ℕ) → Each xs → Below 256 xs
each_below [] h i = omega arith
each_below (x ∷ xs) h zero = h.0
each_below (x ∷ xs) h (suc i) = each_below xs h.1 i

-- the first register, byte by byte
ten : (n0 k0 k1 k2 k3 k4 : ℕ) → n0 < 256 → k0 < 256 → k1 < 256 → k2 < 256 → k3 < 256 → k4 < 256 → {older newer : ℕ}
    → older ≡ number 256 (0xFE ∷ k0 ∷ replicate 6 0)
    → newer ≡ number 256 (n0 ∷ k4 ∷ 0xFF ∷ k3 ∷ 0xFF ∷ k2 ∷ 0xFF ∷ k1 ∷ [])
    → joined 80 (turned older) (turned newer)
    ≡ register (n0 ∷ k4 ∷ 0xFF ∷ k3 ∷ 0xFF ∷ k2 ∷ 0xFF ∷ k1 ∷ 0xFE ∷ k0 ∷ [])
ten n0 k0 k1 k2 k3 k4 hn h0 h1 h2 h3 h4 =
    let ff : 0xFF < 256 = omega arith in
    let fe : 0xFE < 256 = omega arith in
    let first : List ℕ = n0 ∷ k4 ∷ 0xFF ∷ k3 ∷ 0xFF ∷ k2 ∷ 0xFF ∷ k1 ∷ [] in
    register_words 2 6 first (0xFE ∷ k0 ∷ []) refl refl refl
    (each_below first (hn, (h4, (ff, (h3, (ff, (h2, (ff, (h1, tt))))))))) (each_below (0xFE ∷ k0 ∷ []) (fe, (h0, tt)))

-- all six words
pub loaded_words : (key nonce : List ℕ) → length key ≡ 16 → length nonce ≡ 12 → Below 256 key → Below 256 nonce
    → {a1 a0 b1 b0 c1 c0 : ℕ} → a1 ≡ number 256 (0xFE ∷ key ⟦ 0 ⟧ ∷ replicate 6 0)
    → a0
    ≡ number 256
    (nonce ⟦ 0 ⟧ ∷ key ⟦ 4 ⟧ ∷ 0xFF ∷ key ⟦ 3 ⟧ ∷ 0xFF ∷ key ⟦ 2 ⟧ ∷ 0xFF ∷ key ⟦ 1 ⟧ ∷ [])
    → b1 ≡ number 256 (nonce ⟦ 3 ⟧ ∷ nonce ⟦ 2 ⟧ ∷ nonce ⟦ 1 ⟧ ∷ replicate 5 0) → b0 ≡ eight_from nonce 4
    → c1 ≡ number 256 (key ⟦ 7 ⟧ ∷ key ⟦ 6 ⟧ ∷ key ⟦ 5 ⟧ ∷ replicate 5 0) → c0 ≡ eight_from key 8
    → of_words (record { a1 = a1; a0 = a0; b1 = b1; b0 = b0; c1 = c1; c0 = c0 }) ≡ loaded key nonce
unfolding loaded
loaded_words key nonce long short keys values a1 a0 b1 b0 c1 c0 =
    let a = ten _ _ _ _ _ _ (values 0) (keys 0) (keys 1) (keys 2) (keys 3) (keys 4) a1 a0 in
    let b = register_down nonce 1 (omega arith) values b1 b0 in
    let c = register_down key 5 (omega arith) keys c1 c0 in
    λ i. record { a = a i; b = b i; c = c i }
