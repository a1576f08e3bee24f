use Rattle.std.proofs.Common.{◌≡◌, ◌-◌, min, length, arith, refl, ap, ◌∙◌}
use Rattle.octets.specs.Stream.{enciphered}
use Rattle.enocoro.specs.Calls.{skipping}
use Rattle.enocoro.proofs.{States.skip_none, Stretches.front_covered, Stretches.stretch_more, Stretches.cover_done}
use Rattle.enocoro.proofs.RegistersStreamCipher.cover.Goals as goal

pub loop-at-init : goal.loop-at-init
unfolding enciphered
loop-at-init c =
    let none : 0 ≡ min 0 (length c.args.bytes.now) = omega arith in (
      skip_none c.args.self
          (record {
            a0 = omega arith;
            a1 = omega arith;
            b0 = omega arith;
            b1 = omega arith;
            b2 = omega arith;
            b3 = omega arith;
          })
          ∙ ap (skipping c.args.self) none,
      ap (front_covered c.args.self c.args.bytes.now) none,
    )

pub loop-at-preserved : goal.loop-at-preserved
loop-at-preserved c =
    let l = c.loop-at in
    stretch_more c.args.self c.args.bytes.now l.at (c.min-end.result - l.at) _ (omega arith) l.invariant.0 l.invariant.1
    c.cover_stretch-registers.ensures refl (omega arith) (omega arith)

pub returns : goal.returns
returns c = cover_done c.args.self c.args.bytes.now c.loop-at.invariant.0 c.loop-at.invariant.1 (omega arith)

pub returns-2 : goal.returns-2
returns-2 c =
    let l = c.loop-at in
    let bytes = c.args.bytes.now in
    let done = stretch_more c.args.self bytes l.at (c.min-end.result - l.at) _ {m = length bytes} (omega arith)
    l.invariant.0 l.invariant.1 c.cover_stretch-registers.ensures refl (omega arith) (omega arith) in
    cover_done c.args.self bytes done.0 done.1 refl
