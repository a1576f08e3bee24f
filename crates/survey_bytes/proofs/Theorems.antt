-- A refused call leaves all that it was lent as it was. The loops are those of the parts that opening puts in hand.
use mathlib.Core.{Path.◌≡◌, Path.refl, List.List}
use Prim.Native.Nat.{ℕ}
use Rattle.octets.specs.Rows.{numbers_at}
use Rattle.refusals.specs.{Outcome.outcome, Rules.Leaves}
use Rattle.refusals.proofs.Settled.{settled_leaves}
use Rattle.pack.specs.Ciphers.{cipher_in}
use Rattle.pack.specs.{Layout.fours, Places.loops_place, Places.parts_of}
use Rattle.record_bytes.specs.Written.{wrote}
use Rattle.survey_bytes.specs.Calls.{pack_survey, loop_numbers, pack_loops}

pub pack_survey_leaves : (file answer : List ℕ)
    → Leaves (λ o. o.answer) (λ n. outcome n answer) (pack_survey file answer)
unfolding pack_survey
pack_survey_leaves file answer = settled_leaves _ _ _ (λ o. o.answer) refl (λ n. refl)

pub pack_loops_leaves : (file loops : List ℕ) (before : ℕ)
    → Leaves (λ w. w.number) (wrote loops before) (pack_loops file loops before)
unfolding pack_loops
pack_loops_leaves file loops before = settled_leaves _ _ _ (λ w. w.number) refl (λ n. refl)

pub loops_of_parts : (ring : List (List ℕ)) (file : List ℕ)
    → numbers_at (fours (loop_numbers file)) file (loops_place (cipher_in file) file) ≡ (parts_of (cipher_in file) ring file).loops
unfolding parts_of
loops_of_parts ring file = refl
