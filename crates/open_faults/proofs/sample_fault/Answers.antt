-- The tests are the rules, one after the other, and then the loops' rules decide. The four bytes that are lent make the
-- number that they make where they stand.
use Rattle.std.proofs.Common.{ℕ, ◌+◌, ◌*◌, refl, ap, ◌∙◌, arith}
use Rattle.octets.proofs.Numbers.{number_lent}
use Rattle.refusals.specs.Rules.{verdict}
use Rattle.refusals.proofs.Faults.{verdict_from}
use Rattle.pack.specs.{Ciphers.cipher_of, Faults.faults_from_loops, Faults.faults_from_samples}
use Rattle.end_faults.proofs.Exits.{cut_at, no_at}
use Rattle.open_faults.proofs.sample_fault.Goals as goal

pub returns-in_err-reach : goal.returns-in_err-reach
unfolding faults_from_samples
returns-in_err-reach c =
    let cut = c.in_err-reach.ensures in
    cut_at 0 _ c.from_residual.result c.from_residual.ensures.1 cut.0 (omega (arith, cut)) refl (omega (arith, cut))

pub returns-then-count-gt-MOST_SAMPLES : goal.returns-then-count-gt-MOST_SAMPLES
unfolding faults_from_samples
returns-then-count-gt-MOST_SAMPLES c =
    let count = c.four_at-count.ensures ∙ number_lent c.args.file.now c.args.at 4 in
    no_at 1 _ c.into.ensures (omega arith) refl refl

pub returns-in_err-reach-2 : goal.returns-in_err-reach-2
unfolding faults_from_samples
returns-in_err-reach-2 c =
    let count = c.four_at-count.ensures ∙ number_lent c.args.file.now c.args.at 4 in
    let cut = c.in_err-reach-2.ensures in
    cut_at 2 _ c.from_residual-in_err-reach-2.result c.from_residual-in_err-reach-2.ensures.1 cut.0
    (omega (arith, cut)) refl (omega (arith, cut))

pub returns : goal.returns
unfolding faults_from_samples
returns c =
    let a = c.args in
    let count = c.four_at-count.ensures ∙ number_lent a.file.now a.at 4 in
    c.loop_fault.ensures
    ∙ ap (λ (n : ℕ). verdict (faults_from_loops (cipher_of a.kind) a.file.now (a.at + 4 + 2 * n) n)) count
    ∙ verdict_from 3 _ (omega arith)
