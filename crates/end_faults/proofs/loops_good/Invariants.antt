use Rattle.std.proofs.Common.{◌≡◌, ◌*◌, drop}
use Rattle.octets.specs.Rows.{numbers_at}
use Rattle.pack.specs.Layout.{loops_good, fours}
use Rattle.end_faults.proofs.loops_good.Given as goal

-- what is passed was in rule, so the whole is as good as what is left
abbrev pub invariant-loop-i : goal.invariant-loop-i
invariant-loop-i l =
    let loops = numbers_at (fours (2 * l.count)) l.file l.at in
    loops_good l.samples loops ≡ loops_good l.samples (drop (2 * l.i) loops)
