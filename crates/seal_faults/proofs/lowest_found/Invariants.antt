use Rattle.std.proofs.Common.{◌≡◌, Bool, cond, ◌&&◌, drop}
use Rattle.pack.specs.Layout.{samples_good}
use Rattle.seal_faults.proofs.lowest_found.Given as goal

-- whether all that is passed was good is known, and with that the whole is as good as what is left
abbrev pub invariant-loop-sample : goal.invariant-loop-sample
invariant-loop-sample l =
    (good : Bool) × (l.found ≡ cond good 0 1)
    × (samples_good l.samples ≡ (good && samples_good (drop l.sample-index l.samples)))
