-- What is taken in piece by piece is taken in as one run.
use mathlib.Core.{Path.◌≡◌, Path.refl, Path.sym, Path.ap, Path.ap₂, Path.◌∙◌, List.List, List.◌++◌, List.reverse}
use Prim.Native.Nat.{ℕ, ◌+◌}
use native.Mathlib.Omega.{arith}
use lib.ListN.{length, length-append}
use Rattle.octets.specs.Digits.{digits}
use Rattle.triad.specs.{Calls.absorbing, Tag.padded, declared.Registers.Registers}
use Rattle.triad.proofs.Theorems.{in_pieces}
use Rattle.triad_tags.proofs.with_data.Goals as goal

-- three pieces, each as the code names it; `n` is the length that the code tells
taken : (start : Registers) (front loops : List ℕ) {one two three : Registers} {xs ys zs : List ℕ} {n : ℕ}
    → one ≡ absorbing start xs → xs ≡ front → two ≡ absorbing one ys → ys ≡ loops → three ≡ absorbing two zs
    → zs ≡ reverse (digits 256 7 n) → n ≡ length front + length loops → three ≡ absorbing start (padded (front ++ loops))
taken start front loops first isFront second isLoops third isSize count =
    third
    ∙ ap₂ absorbing
    (second ∙ ap₂ absorbing (first ∙ ap (absorbing start) isFront) isLoops ∙ in_pieces start front loops)
    (isSize ∙ ap (λ (m : ℕ). reverse (digits 256 7 m)) (count ∙ sym (length-append front loops)))
    ∙ in_pieces start (front ++ loops) _

pub returns : goal.returns
returns c =
    taken c.args.start c.args.front.now c.args.loops.now c.absorb-one.ensures refl c.absorb-two.ensures refl
    c.absorb.ensures c.length_bytes-size.ensures (omega arith)
