-- One number is a line, and two are a word, a number and a line.
use Rattle.std.proofs.Common.{◌≡◌, ℕ, ◌+◌, ◌≤◌, List, [], ◌∷◌, ◌++◌, length, ap, ◌∙◌, arith}
use lib.ListN.{length-append}
use Rattle.octets.specs.Buffers.{put}
use Rattle.refusals.specs.{Outcome.outcome, Answers.number_of}
use Rattle.pack_text.specs.Text.{decimal, line, refused_word, writing}
use Rattle.pack_text.proofs.Decimals.{length_decimal}
use Rattle.pack_text.proofs.Lines.{length_line, text_first, text_ends, number_so, text_on, refused_plain, refused_lacking}
use Rattle.pack_text.proofs.write_refused.Goals as goal

pub returns-then-flaw-eq0 : goal.returns-then-flaw-eq0
returns-then-flaw-eq0 c =
    let d = c.args.d.now in
    let number = number_of c.args.flaw.refusal in
    c.write_line.ensures
    ∙ ap (λ (n : ℕ). outcome (0 + length (line refused_word (decimal n))) (put d 0 (line refused_word (decimal n))))
    c.number-number.ensures
    ∙ text_first d (line refused_word (decimal number))
    ∙ ap (λ (t : List ℕ). writing t d) (refused_plain c.args.flaw.lacks number (omega arith))

-- as far as the first number
module _ (d : List ℕ) (number lacks : ℕ) (room : 128 ≤ length d) {n end : ℕ} {d₁ d₂ : List ℕ} (same : n ≡ number)
    (copied : d₁ ≡ put d 0 refused_word) (ended : outcome end d₂ ≡ outcome (8 + length (decimal n)) (put d₁ 8 (decimal n)))
  where
    numbered : outcome end d₂ ≡ writing (refused_word ++ decimal number) d
    numbered =
        text_on d refused_word (decimal number)
        (omega (arith, length-append refused_word (decimal number), length_decimal number))
        (ap (λ (e : List ℕ). outcome 8 e) copied) (number_so _ _ _ number ended same)

    ends : (end + 1 + 21 ≤ length d₂)
    ends =
        omega (
          arith,
          text_ends d (refused_word ++ decimal number) numbered,
          length-append refused_word (decimal number),
          length_decimal number,
        )

    two : {next : ℕ} {d₃ : List ℕ}
        → outcome next d₃
        ≡ outcome (end + length (line (32 ∷ []) (decimal lacks))) (put d₂ end (line (32 ∷ []) (decimal lacks)))
        → outcome next d₃ ≡ writing ((refused_word ++ decimal number) ++ line (32 ∷ []) (decimal lacks)) d
    two e =
        let word : List ℕ = refused_word ++ decimal number in
        let lacking : List ℕ = line (32 ∷ []) (decimal lacks) in
        text_on d word lacking
        (omega (
          arith,
          length-append word lacking,
          length-append refused_word (decimal number),
          length_line (32 ∷ []) (decimal lacks),
          length_decimal number,
          length_decimal lacks,
        )) numbered e

pub write_line-requires-2 : goal.write_line-requires-2
write_line-requires-2 c =
    ends c.args.d.now (number_of c.args.flaw.refusal) c.args.flaw.lacks c.requires c.number-number.ensures c.copy.ensures
    c.write_decimal-end.ensures

pub returns : goal.returns
returns c =
    let d = c.args.d.now in
    let flaw = c.args.flaw in
    two d (number_of flaw.refusal) flaw.lacks c.requires c.number-number.ensures c.copy.ensures c.write_decimal-end.ensures
    c.write_line-2.ensures
    ∙ ap (λ (t : List ℕ). writing t d) (refused_lacking flaw.lacks (number_of flaw.refusal) (omega arith))
