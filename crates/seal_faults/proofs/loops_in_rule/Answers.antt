-- Each pair of numbers passes the test exactly if the whole run is in rule.
use Rattle.std.proofs.Common.{◌≡◌, ℕ, zero, suc, ◌*◌, ◌/◌, Bool, ◌&&◌, List, [], ◌∷◌, length, get_or, ltb, leb, refl, ap, ◌∙◌, arith, rules, tests}
use Rattle.std.specs.List.{list_all}
use Rattle.std.specs.Simd.{first_chunks}
use Rattle.std.proofs.lemmas.Iterator.{YieldsList-from_slice}
use Rattle.std.proofs.lemmas.Iterator.Search.{all_from_yields_List}
use Rattle.pack.specs.Layout.{loops_good}
use Rattle.seal_faults.proofs.loops_in_rule.Goals as goal

abbrev in_rule : ℕ → List ℕ → Bool
in_rule samples pair = ltb (get_or pair 0 0) (get_or pair 1 0) && leb (get_or pair 1 0) samples

all_in_rule : (samples n : ℕ) (loops : List ℕ) → length loops ≡ 2 * n
    → list_all (in_rule samples) (first_chunks 2 n loops) ≡ loops_good samples loops
unfolding loops_good
all_in_rule samples zero [] e = refl
all_in_rule samples zero (start ∷ loops) e = absurd (omega arith)
all_in_rule samples (suc n) [] e = absurd (omega arith)
all_in_rule samples (suc n) (start ∷ []) e = absurd (omega arith)
all_in_rule samples (suc n) (start ∷ end ∷ loops) e =
    ap (λ (b : Bool). in_rule samples (start ∷ end ∷ []) && b) (all_in_rule samples n loops (omega arith))

pub returns : goal.returns
returns c =
    let loops = c.args.loops.now in
    let all = all_from_yields_List (in_rule c.args.samples) _ _ c.all.result c.all.ensures.ran
    (YieldsList-from_slice c.as_chunks.result.0.now cc) (λ x b q k. search (rules, tests)) in
    all ∙ ap (list_all (in_rule c.args.samples)) c.as_chunks.ensures.front
    ∙ all_in_rule c.args.samples (length loops / 2) loops (omega arith)
