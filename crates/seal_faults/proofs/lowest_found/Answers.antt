-- Whether all that is passed was good is known, and with that the whole is as good as what is left.
use Rattle.std.proofs.Common.{◌≡◌, refl, sym, ap, ◌∙◌, ◌<◌, ◌≤◌, ◌+◌, ◌&&◌, Bool, true, false, cond, ℕ, List, length, get_or, drop, ◌≢◌, arith}
use Rattle.std.proofs.lemmas.Int.{ints}
use mir.Syntax.{w16}
use mir.Val.{of_z}
use lib.{IntN.ℤ, IntN.pos, IntN.negsuc, IntN.nat_abs, Signed.mag}
use Rattle.pack.specs.{Layout.samples_good, Limits.highest_sample}
use Rattle.pack.proofs.Samples.{no_sample_left, bad_sample, good_sample}
use Rattle.seal_faults.proofs.lowest_found.Goals as goal
use Rattle.seal_faults.proofs.lowest_found.Goals.{then-sample, else-sample}

none : (b : Bool) → (b && false) ≡ false
none true = refl
none false = refl

all : (b : Bool) → b ≡ (b && true)
all true = refl
all false = refl

-- of all numbers of 16 bits only that of 80 00 has no opposite
lowest : (z : ℤ) → mag z < 32768 → of_z w16 z ≡ 0x8000 → highest_sample < nat_abs z
lowest (pos n) small e = omega arith
lowest (negsuc n) small e = omega arith

other : (z : ℤ) → mag z < 32768 → of_z w16 z ≢ 0x8000 → nat_abs z ≤ highest_sample
other (pos n) small e = omega arith
other (negsuc n) small e = omega (arith, e)

-- one sample more
module _ (zs : List ℤ) (i : ℕ) (good : Bool) (there : i < length zs)
    (so : samples_good zs ≡ (good && samples_good (drop i zs))) where
  abbrev z : ℤ
  z = get_or zs i (pos 0)

  bad_more : highest_sample < nat_abs z → samples_good zs ≡ false
  bad_more h = so ∙ ap (λ (b : Bool). good && b) (bad_sample zs i there refl h) ∙ none good

  good_more : nat_abs z ≤ highest_sample → samples_good zs ≡ (good && samples_good (drop (i + 1) zs))
  good_more h = so ∙ ap (λ (b : Bool). good && b) (good_sample zs i there refl h)

pub loop-sample-preserved : goal.loop-sample-preserved
loop-sample-preserved c =
    let zs : List ℤ = c.args.samples.now in
    let i = c.loop-sample.sample-index in
    let good = c.loop-sample.invariant in
    let small : mag (get_or zs i (pos 0)) < 32768 = omega (arith, ints) in
    elim c.if-sample.branch [
      | then-sample w ↦ (
        false,
        w.found-is,
        bad_more zs i good.0 (omega arith) good.2 (lowest (get_or zs i (pos 0)) small w.if-sample.true),
      )
      | else-sample w ↦ (
        good.0,
        w.found-is ∙ good.1,
        good_more zs i good.0 (omega arith) good.2 (other (get_or zs i (pos 0)) small w.if-sample.false),
      )
    ]

pub returns : goal.returns
returns c =
    let zs : List ℤ = c.args.samples.now in
    let good : Bool = c.loop-sample.invariant.0 in
    c.loop-sample.invariant.1
    ∙ ap (λ (b : Bool). cond b 0 1)
    (all good ∙ ap (λ (b : Bool). good && b) (sym (no_sample_left zs c.loop-sample.sample-index (omega arith)))
    ∙ sym c.loop-sample.invariant.2)
