-- First the name's rules, and then the tests are the rules, one after the other.
use Rattle.std.proofs.Common.{◌≡◌, refl, sym, ◌∙◌, ◌<◌, ◌≤◌, Bool, true, false, cond, ℕ, List, arith}
use Rattle.refusals.specs.{Numbers.accepted, Rules.AllRight, Rules.first}
use Rattle.refusals.proofs.Faults.{all_right, none_wrong, refused_so_lem}
use Rattle.refusals.proofs.{Answers.never_accepted, Settled.first_here}
use Rattle.pack.specs.{Faults.part_name_faults, Faults.seal_faults, Layout.samples_good}
use Rattle.pack.proofs.{Answers.number_passed, Picking.short_value}
use Rattle.seal_faults.proofs.seal_fault.Goals as goal
use Rattle.seal_faults.proofs.seal_fault.Goals.{then-sound-via-then-sound, then-sound-via-else-sound+then-sound-ne0}

-- what the tests that aren't of numbers alone have told
named : (name : List ℕ) → accepted ≡ first (part_name_faults name) → AllRight (part_name_faults name)
named name told = none_wrong _ tt (sym told)

none_found : (good : Bool) → cond good 0 1 ≤ 0 → good ≡ true
none_found true h = refl
none_found false h = absurd (omega arith)

one_found : (good : Bool) → 0 < cond good 0 1 → good ≡ false
one_found true h = absurd (omega arith)
one_found false h = refl

pub returns-in_err-name_fault : goal.returns-in_err-name_fault
unfolding seal_faults
returns-in_err-name_fault c =
    sym (number_passed c.from_residual.result _ c.from_residual.ensures.1)
    ∙ first_here (part_name_faults c.args.sound.name.now) _ tt _ (never_accepted c.in_err-name_fault.field-0.0)
    c.in_err-name_fault.ensures

pub returns-then-sound-value_bytes : goal.returns-then-sound-value_bytes
unfolding seal_faults
returns-then-sound-value_bytes c =
    let n = named c.args.sound.name.now c.in_ok-name_fault.ensures in
    refused_so_lem 2 _ (n.0, (n.1.0, omega arith)) (omega arith)

pub returns-then-sound-gt-LAST_KEY : goal.returns-then-sound-gt-LAST_KEY
unfolding seal_faults
returns-then-sound-gt-LAST_KEY c =
    let n = named c.args.sound.name.now c.in_ok-name_fault.ensures in
    refused_so_lem 3 _ (n.0, (n.1.0, omega arith)) (omega arith)

pub returns-then-sound-gt-MOST_SAMPLES : goal.returns-then-sound-gt-MOST_SAMPLES
unfolding seal_faults
returns-then-sound-gt-MOST_SAMPLES c =
    let n = named c.args.sound.name.now c.in_ok-name_fault.ensures in
    refused_so_lem 4 _ (n.0, (n.1.0, omega arith)) (omega arith)

pub returns-then-lowest-gt0 : goal.returns-then-lowest-gt0
unfolding seal_faults
returns-then-lowest-gt0 c =
    let n = named c.args.sound.name.now c.in_ok-name_fault.ensures in
    let bad = one_found (samples_good c.args.sound.samples.now) (omega (arith, c.lowest_found-lowest.ensures)) in
    refused_so_lem 5 _ (n.0, (n.1.0, (omega arith, (omega arith, (omega arith, bad))))) (omega arith)

-- the rules behind the samples', with what the tests before them have told
pub returns-then-sound : goal.returns-then-sound
unfolding seal_faults
returns-then-sound c =
    let n = named c.args.sound.name.now c.in_ok-name_fault.ensures in
    let good = none_found (samples_good c.args.sound.samples.now) (omega (arith, c.lowest_found-lowest.ensures)) in
    elim c.then-sound.branch [
      | then-sound-via-then-sound w ↦
          refused_so_lem 6 _ (n.0, (n.1.0, (omega arith, (omega arith, (omega arith, (good, omega arith)))))) (omega arith)
      | then-sound-via-else-sound+then-sound-ne0 w ↦
          refused_so_lem 7 _ (n.0, (n.1.0, (omega arith, (omega arith, (omega arith, (good, omega arith)))))) (omega arith)
    ]

pub returns-then-not-loops_in_rule : goal.returns-then-not-loops_in_rule
unfolding seal_faults
returns-then-not-loops_in_rule c =
    let n = named c.args.sound.name.now c.in_ok-name_fault.ensures in
    let good = none_found (samples_good c.args.sound.samples.now) (omega (arith, c.lowest_found-lowest.ensures)) in
    let bad = sym c.loops_in_rule.ensures ∙ c.if-not-loops_in_rule.true in
    refused_so_lem 8 _
    (n.0, (n.1.0, (omega arith, (omega arith, (omega arith, (good, (omega arith, (omega arith, bad))))))))
    (omega arith)

pub file_length-requires : goal.file_length-requires
file_length-requires c =
    omega (arith, short_value c.args.kind, named c.args.sound.name.now c.in_ok-name_fault.ensures)

pub returns-then-room-file_length : goal.returns-then-room-file_length
unfolding seal_faults
returns-then-room-file_length c =
    let n = named c.args.sound.name.now c.in_ok-name_fault.ensures in
    let good = none_found (samples_good c.args.sound.samples.now) (omega (arith, c.lowest_found-lowest.ensures)) in
    let right = sym c.loops_in_rule.ensures ∙ c.if-not-loops_in_rule.false in
    refused_so_lem 9 _
    (n.0, (n.1.0, (omega arith, (omega arith, (omega arith, (good, (omega arith, (omega arith, (right, omega arith)))))))))
    (omega arith)

pub returns : goal.returns
unfolding seal_faults
returns c =
    let n = named c.args.sound.name.now c.in_ok-name_fault.ensures in
    let good = none_found (samples_good c.args.sound.samples.now) (omega (arith, c.lowest_found-lowest.ensures)) in
    let right = sym c.loops_in_rule.ensures ∙ c.if-not-loops_in_rule.false in
    all_right _
    (n.0, (n.1.0, (omega arith, (omega arith, (omega arith, (good, (omega arith, (omega arith, (right, omega arith)))))))))
