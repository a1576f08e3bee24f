-- Each older word takes in the bit that leaves the newer one, and one bit fits its type.
use mathlib.Core.Path.{◌≡◌, ap, ◌∙◌}
use Prim.Native.Nat.{◌%◌}
use native.Mathlib.Omega.{arith}
use Rattle.triad_taps.specs.Words.{newest, of_words}
use Rattle.triad.specs.{Calls.stepping, Record.state, Record.packed}
use Rattle.triad.proofs.Steps.{stepped, one_out, out_below}
use Rattle.triad.proofs.Registers.step.Goals as goal

pub overflow_cast-result : goal.overflow_cast-result
unfolding newest state
overflow_cast-result c =
    let bit : c.step-new.result.z ≡ _ = λ i. (c.step-new.ensures i).z in
    let small = out_below (c.args.message % 2) (state c.args.self) in
    record { fits = omega arith }

pub returns : goal.returns
unfolding stepping newest state
returns c =
    let new = c.step-new.result in
    let there =
    (λ i.
    of_words
    (record {
      a1 = c.shifted.ensures i;
      a0 = new.a;
      b1 = c.shifted-2.ensures i;
      b0 = new.b;
      c1 = c.shifted-3.ensures i;
      c0 = new.c;
    }))
    ∙ stepped c.args.self.words c.args.message (omega arith) (omega arith) (omega arith) (omega arith) (omega arith)
    (omega arith) c.step-new.ensures in
    λ i.
    record {
      bit = ((λ j. (c.step-new.ensures j).z) ∙ one_out _ (state c.args.self)) i;
      next = (c.cleared.ensures ∙ ap packed there) i;
    }
