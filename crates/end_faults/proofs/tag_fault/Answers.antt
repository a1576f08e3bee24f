-- The tests are the rules, one after the other. Without a tag no rule but the last can be broken, since what has to be
-- there is nothing.
use Rattle.std.proofs.Common.{◌≡◌, ℕ, ◌+◌, ◌<◌, List, length, take, min, refl, ap, ◌∙◌, arith, drop-cons}
use Rattle.octets.specs.{Digits.number, Digits.number_at, Digits.number_after, Stream.Cipher}
use Rattle.refusals.specs.Rules.{verdict}
use Rattle.refusals.proofs.Faults.{verdict_from}
use Rattle.pack.specs.{Faults.end_faults, Layout.tag_length, Places.byte_at, Places.tag_count_in}
use Rattle.pack.specs.Places.{tag_end}
use Rattle.end_faults.proofs.Exits.{cut_at, no_at}
use Rattle.end_faults.proofs.tag_fault.Goals as goal

-- a count of one byte is that byte, and a count of none is 0
one_byte : (file : List ℕ) (at : ℕ) → at < length file → number_at file at 1 ≡ byte_at file at
unfolding number_after
one_byte file at h = ap (λ (l : List ℕ). number 256 (take 1 l)) (drop-cons file at 0 h) ∙ omega arith

count_there : (cipher : Cipher) (file : List ℕ) (at : ℕ) → 0 < tag_length cipher → at < length file
    → tag_count_in cipher file at ≡ byte_at file at
count_there cipher file at some h = ap (number_at file at) one ∙ one_byte file at h
  where
    one : min cipher.tag_bytes 1 ≡ 1
    one = omega arith

count_none : (cipher : Cipher) (file : List ℕ) (at : ℕ) → tag_length cipher ≡ 0 → tag_count_in cipher file at ≡ 0
unfolding number_after
count_none cipher file at none = ap (number_at file at) zero
  where
    zero : min cipher.tag_bytes 1 ≡ 0
    zero = omega arith

pub returns-then-size-eq0 : goal.returns-then-size-eq0
returns-then-size-eq0 c cipher e =
    let f = c.args.file.now in
    let ends : c.args.at ≡ tag_end cipher c.args.at = omega arith in
    let count = count_none cipher f c.args.at (omega arith) in
    c.end_fault.ensures
    ∙ ap (λ (n : ℕ). verdict (end_faults f n)) ends
    ∙ verdict_from 3 _ (omega arith, (omega arith, (omega arith, tt)))

pub returns-in_err-reach : goal.returns-in_err-reach
returns-in_err-reach c cipher e =
    let cut = c.in_err-reach.ensures in
    cut_at 0 _ c.from_residual.result c.from_residual.ensures.1 cut.0 (omega (arith, cut)) refl (omega (arith, cut))

pub returns-then-file-at : goal.returns-then-file-at
returns-then-file-at c cipher e =
    let count = count_there cipher c.args.file.now c.args.at (omega arith) (omega arith) in
    no_at 1 _ c.into.ensures (omega arith, λ same. omega arith) refl refl

pub returns-in_err-reach-2 : goal.returns-in_err-reach-2
returns-in_err-reach-2 c cipher e =
    let cut = c.in_err-reach-2.ensures in
    let count = count_there cipher c.args.file.now c.args.at (omega arith) (omega arith) in
    cut_at 2 _ c.from_residual-in_err-reach-2.result c.from_residual-in_err-reach-2.ensures.1 cut.0
    (omega arith, (omega arith, omega (arith, cut))) refl (omega (arith, cut))

pub returns : goal.returns
returns c cipher e =
    let f = c.args.file.now in
    let ends : c.args.at + c.args.size ≡ tag_end cipher c.args.at = omega arith in
    let count = count_there cipher f c.args.at (omega arith) (omega arith) in
    c.end_fault-2.ensures
    ∙ ap (λ (n : ℕ). verdict (end_faults f n)) ends
    ∙ verdict_from 3 _ (omega arith, (omega arith, (omega arith, tt)))
