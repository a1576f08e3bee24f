-- The tests are the rules, one after the other, and then the key's rules decide.
use Rattle.std.proofs.Common.{◌≡◌, ℕ, ◌+◌, ◌-◌, List, take, drop, refl, sym, ap, ◌∙◌, arith}
use Rattle.refusals.specs.{Answers.number_of, declared.Flaw.Flaw}
use Rattle.refusals.proofs.Faults.{verdict_at, verdict_from}
use Rattle.octets.specs.Buffers.{slice}
use Rattle.pack.specs.{Faults.file_faults, Layout.name_good, Places.byte_at}
use Rattle.end_faults.proofs.Exits.{cut_at, no_at}
use Rattle.open_faults.proofs.file_fault.Goals as goal

-- the name, as it is lent
name_lent : (file : List ℕ) (count : ℕ)
    → name_good (take (1 + count - 1) (drop 1 file)) ≡ name_good (slice file 1 count)
name_lent file count = let same : 1 + count - 1 ≡ count = omega arith in ap (λ (n : ℕ). name_good (take n (drop 1 file))) same

pub returns-in_err-reach : goal.returns-in_err-reach
unfolding file_faults
returns-in_err-reach c =
    let cut = c.in_err-reach.ensures in
    cut_at 0 _ c.from_residual.result c.from_residual.ensures.1 cut.0 (omega (arith, cut)) refl (omega (arith, cut))

pub returns-then-count-gt-MOST_NAME : goal.returns-then-count-gt-MOST_NAME
unfolding file_faults
returns-then-count-gt-MOST_NAME c =
    verdict_at 1 _ (omega arith) (ap (λ (f : Flaw). number_of f.refusal) c.into.ensures)
    (omega (arith, ap (λ (f : Flaw). f.lacks) c.into.ensures))

pub returns-in_err-reach-2 : goal.returns-in_err-reach-2
unfolding file_faults
returns-in_err-reach-2 c =
    let cut = c.in_err-reach-2.ensures in
    cut_at 2 _ c.from_residual-in_err-reach-2.result c.from_residual-in_err-reach-2.ensures.1 cut.0
    (omega (arith, cut)) refl (omega (arith, cut))

pub returns-then-not-name_good : goal.returns-then-not-name_good
unfolding file_faults
returns-then-not-name_good c =
    let f = c.args.file.now in
    let bad = sym (c.name_good.ensures ∙ name_lent f (byte_at f 0)) ∙ c.if-not-name_good.true in
    no_at 3 _ c.into-then-not-name_good.ensures (omega arith, (omega arith, (omega arith, bad))) refl refl

pub returns : goal.returns
unfolding file_faults
returns c =
    let f = c.args.file.now in
    let good = sym (c.name_good.ensures ∙ name_lent f (byte_at f 0)) ∙ c.if-not-name_good.false in
    c.key_fault.ensures ∙ verdict_from 4 _ (omega arith, (omega arith, (omega arith, (good, tt))))
