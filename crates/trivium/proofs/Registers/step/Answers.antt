-- One bit fits its type.
use mathlib.Core.Path.{◌∙◌}
use Prim.Native.Nat.{◌^◌, ◌<◌}
use native.Mathlib.{Nat.zero-add, Omega.arith}
use Rattle.octets.specs.Digits.{number_after}
use Rattle.taps.specs.{Keystream.bits, Registers.steps}
use Rattle.taps.proofs.Steps.{bits_small}
use Rattle.trivium.specs.{Calls.stepping, Record.state}
use Rattle.trivium.proofs.Registers.step.Goals as goal

pub moved-word-requires : goal.moved-word-requires
unfolding state
moved-word-requires c = c.step.ensures

pub overflow_cast-result : goal.overflow_cast-result
overflow_cast-result c =
    let one : c.moved-word.result.word < 2 ^ 1 = rw c.moved-word.ensures (bits_small 1 (state c.args.self)) in
    record { fits = omega arith }

pub returns : goal.returns
unfolding stepping bits number_after steps
returns c =
    let got = c.moved-word.ensures in
    λ i. record { bit = ((λ j. (got j).word) ∙ zero-add _) i; next = (got i).next }
