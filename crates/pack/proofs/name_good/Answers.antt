-- Each byte passes the test exactly if the whole name does.
use Rattle.std.proofs.Common.{ℕ, ◌≡◌, leb, Bool, ◌&&◌, List, [], ◌∷◌, refl, ap, rules, tests}
use Rattle.std.specs.List.{list_all}
use Rattle.std.proofs.lemmas.Iterator.{YieldsList-from_slice}
use Rattle.std.proofs.lemmas.Iterator.Search.{all_from_yields_List}
use Rattle.pack.specs.Layout.{name_good}
use Rattle.pack.proofs.name_good.Goals as goal

abbrev printed : ℕ → Bool
printed x = leb 32 x && leb x 126

all_printed : (name : List ℕ) → list_all printed name ≡ name_good name
unfolding name_good
all_printed [] = refl
all_printed (x ∷ xs) = ap (λ (b : Bool). printed x && b) (all_printed xs)

pub returns : goal.returns
returns c =
    let all = all_from_yields_List printed _ _ c.all.result c.all.ensures.ran (YieldsList-from_slice c.args.name.now cc)
    (λ x b q k. search (rules, tests)) in
    let good = all_printed c.args.name.now in
    cc
