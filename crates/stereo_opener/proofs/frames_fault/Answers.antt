-- Each test is the rule of its place, behind what was told.
use mathlib.Core.Path.{◌≡◌, ap}
use Rattle.std.proofs.Common.{arith, rules}
use Rattle.std.specs.Prelude.{Result, Ok}
use Rattle.refusals.specs.{Answers.number_of, Answers.verdict_in, declared.Flaw.Flaw, Rules.Verdict}
use Rattle.refusals.proofs.Faults.{all_right, refused_so_lem}
use Rattle.stereo_opener.proofs.frames_fault.Goals as goal

pub returns-then-samples-ne0 : goal.returns-then-samples-ne0
returns-then-samples-ne0 c =
    let none : c.args.keyed ≡ Ok tt = search rules in
    let told = ap (λ (r : Result Unit Flaw). verdict_in r) none in
    record {
      order =
          refused_so_lem 1 _ (omega (arith, ap (λ (v : Verdict). v.number) told), omega arith)
          (omega (arith, ap (λ (f : Flaw). number_of f.refusal) c.into.ensures));
      lacks = omega (arith, ap (λ (f : Flaw). f.lacks) c.into.ensures, ap (λ (v : Verdict). v.lacks) told);
    }

pub returns-then-room-samples : goal.returns-then-room-samples
returns-then-room-samples c =
    let none : c.args.keyed ≡ Ok tt = search rules in
    let told = ap (λ (r : Result Unit Flaw). verdict_in r) none in
    record {
      order =
          refused_so_lem 2 _ (omega (arith, ap (λ (v : Verdict). v.number) told), (omega arith, omega arith))
          (omega (arith, ap (λ (f : Flaw). number_of f.refusal) c.into-then-room-samples.ensures));
      lacks = omega (arith, ap (λ (f : Flaw). f.lacks) c.into-then-room-samples.ensures, ap (λ (v : Verdict). v.lacks) told);
    }

pub returns : goal.returns
returns c =
    let none : c.args.keyed ≡ Ok tt = search rules in
    let told = ap (λ (r : Result Unit Flaw). verdict_in r) none in
    record {
      order = all_right _ (omega (arith, ap (λ (v : Verdict). v.number) told), (omega arith, (omega arith, tt)));
      lacks = omega (arith, ap (λ (v : Verdict). v.lacks) told);
    }
