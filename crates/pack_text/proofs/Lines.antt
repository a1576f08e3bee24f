-- Lines behind each other: a word, what it is about and the line's end are put each where the one before it ended, and
-- so are the lines.
use mathlib.Core.{Path.◌≡◌, Path.refl, Path.sym, Path.ap, Path.ap₂, Path.◌∙◌, Logic.◌≢◌}
use mathlib.Core.List.{List, [], ◌∷◌, ◌++◌, append_assoc, append-nil}
use Prim.Native.Nat.{ℕ, zero, suc, ◌+◌, ◌≤◌}
use native.Mathlib.{Nat.zero-add, Omega.arith}
use lib.ListN.{length, length-append}
use Rattle.octets.specs.Buffers.{put}
use Rattle.octets.proofs.Buffers.{length_put, puts_on}
use Rattle.refusals.specs.Outcome.{Outcome, outcome}
use Rattle.pack_text.specs.Text.{decimal, line, refused_word, lacking_text, refused_line, writing}

pub length_line : (word about : List ℕ) → length (line word about) ≡ length word + length about + 1
length_line word about = simp length-append (omega arith)

pub line_written : (d : List ℕ) (at : ℕ) (word about : List ℕ) {e₁ e₂ e₃ : List ℕ} {place end : ℕ}
    → at + length word + length about + 1 ≤ length d
    → e₁ ≡ put d at word
    → place ≡ at + length word
    → e₂ ≡ put e₁ place about
    → end ≡ place + length about
    → e₃ ≡ put e₂ end (10 ∷ [])
    → outcome (end + 1) e₃ ≡ outcome (at + length (line word about)) (put d at (line word about))
line_written d at word about room p₁ q₂ p₂ q₃ p₃ =
    let both = length-append word about in
    ap₂ (λ (n : ℕ) (e : List ℕ). outcome n e) (omega (arith, length_line word about))
    (p₃
    ∙ puts_on d at (word ++ about) (10 ∷ []) (p₂ ∙ puts_on d at word about p₁ q₂ (omega arith)) (omega arith)
    (omega arith))

-- a text's end, and the buffer's length as it was
pub text_ends : (d xs : List ℕ) {e : List ℕ} {end : ℕ} → outcome end e ≡ writing xs d
    → (end ≡ length xs) × (length e ≡ length d)
text_ends d xs p =
    (ap (λ (o : Outcome ℕ ℕ). o.answer) p, ap (λ (o : Outcome ℕ ℕ). length o.buffer) p ∙ length_put d 0 xs)

-- what is written from 0 is a text
pub text_first : (d xs : List ℕ) → outcome (0 + length xs) (put d 0 xs) ≡ writing xs d
text_first d xs = ap (λ (n : ℕ). outcome n (put d 0 xs)) (zero-add (length xs))

-- a number that was written is the one meant, shown by arithmetic
pub number_so : (d : List ℕ) (at x y : ℕ) {end : ℕ} {e : List ℕ}
    → outcome end e ≡ outcome (at + length (decimal x)) (put d at (decimal x))
    → x ≡ y
    → outcome end e ≡ outcome (at + length (decimal y)) (put d at (decimal y))
number_so d at x y p same = p ∙ ap (λ (n : ℕ). outcome (at + length (decimal n)) (put d at (decimal n))) same

-- a run behind a text
pub text_on : (d xs ys : List ℕ) {e₁ e₂ : List ℕ} {end next : ℕ} → length (xs ++ ys) ≤ length d
    → outcome end e₁ ≡ writing xs d
    → outcome next e₂ ≡ outcome (end + length ys) (put e₁ end ys)
    → outcome next e₂ ≡ writing (xs ++ ys) d
text_on d xs ys room p q =
    let at = ap (λ (o : Outcome ℕ ℕ). o.answer) p in
    let both = length-append xs ys in
    q
    ∙ ap₂ (λ (n : ℕ) (e : List ℕ). outcome n e) (omega arith)
    (puts_on d 0 xs ys (ap (λ (o : Outcome ℕ ℕ). o.buffer) p) (omega arith) (omega arith))

-- a refusal's line, with what is lacking or without
pub refused_plain : (lacks number : ℕ) → lacks ≡ 0 → line refused_word (decimal number) ≡ refused_line lacks number
unfolding refused_line lacking_text
refused_plain zero number e = ap (line refused_word) (sym (append-nil (decimal number)))
refused_plain (suc n) number e = absurd (omega arith)

pub refused_lacking : (lacks number : ℕ) → lacks ≢ 0
    → (refused_word ++ decimal number) ++ line (32 ∷ []) (decimal lacks) ≡ refused_line lacks number
unfolding refused_line lacking_text
refused_lacking zero number h = absurd (h refl)
refused_lacking (suc n) number h =
    ap (λ (t : List ℕ). refused_word ++ t) (sym (append_assoc (decimal number) (32 ∷ decimal (suc n)) (10 ∷ [])))
