-- The tests are the rules, one after the other, and then the samples' rules decide. A count that names a cipher is the
-- one that is read by.
use Rattle.std.proofs.Common.{ℕ, ◌≡◌, ◌+◌, refl, ap, ◌∙◌, arith}
use Rattle.refusals.specs.Rules.{verdict}
use Rattle.refusals.proofs.Faults.{verdict_from}
use Rattle.pack.specs.{Ciphers.cipher_of, Faults.faults_from_samples, Faults.faults_from_key}
use Rattle.pack.specs.Places.{byte_at, key_end}
use Rattle.refusals.specs.Answers.{number_of}
use Rattle.pack.proofs.Picking.{is_named, is_unnamed}
use Rattle.end_faults.proofs.Exits.{cut_at, no_at, passed_at}
use Rattle.open_faults.proofs.key_fault.Goals as goal

pub returns-in_err-reach : goal.returns-in_err-reach
unfolding faults_from_key
returns-in_err-reach c =
    let cut = c.in_err-reach.ensures in
    cut_at 0 _ c.from_residual.result c.from_residual.ensures.1 cut.0 (omega (arith, cut)) refl (omega (arith, cut))

pub returns-in_err-kind : goal.returns-in_err-kind
unfolding faults_from_key
returns-in_err-kind c =
    let no = is_unnamed (byte_at c.args.file.now c.args.at) c.in_err-kind.ensures in
    passed_at 1 _ c.from_residual-in_err-kind.result _ c.from_residual-in_err-kind.ensures.1 (omega arith, no.1)
    (ap number_of no.0) refl

pub returns-in_err-reach-2 : goal.returns-in_err-reach-2
unfolding faults_from_key
returns-in_err-reach-2 c =
    let is = is_named (byte_at c.args.file.now c.args.at) c.in_ok-kind.ensures in
    let cut = c.in_err-reach-2.ensures in
    rw (← is.0)
    (cut_at 2 _ c.from_residual-in_err-reach-2.result c.from_residual-in_err-reach-2.ensures.1 cut.0
    (omega (arith, is, cut)) refl (omega (arith, cut)))

pub returns-then-file-at-gt-LAST_KEY : goal.returns-then-file-at-gt-LAST_KEY
unfolding faults_from_key
returns-then-file-at-gt-LAST_KEY c =
    let is = is_named (byte_at c.args.file.now c.args.at) c.in_ok-kind.ensures in
    rw (← is.0) (no_at 3 _ c.into.ensures (omega (arith, is)) refl refl)

pub returns : goal.returns
unfolding faults_from_key
returns c =
    let a = c.args in
    let kind = c.in_ok-kind.kind in
    let is = is_named (byte_at a.file.now a.at) c.in_ok-kind.ensures in
    let end : a.at + 2 + c.value_bytes.result ≡ key_end (cipher_of kind) a.at = omega arith in
    rw (← is.0)
    (c.sample_fault.ensures
    ∙ ap (λ (e : ℕ). verdict (faults_from_samples (cipher_of kind) a.file.now e)) end
    ∙ verdict_from 4 _ (omega (arith, is)))
