-- Of 64 updates, the words after fewer are two shifts each.
use mathlib.Core.Path.{ap, ◌∙◌}
use Prim.Native.Nat.{ℕ}
use native.Mathlib.Omega.{arith}
use Rattle.octets.specs.LowFirst.{bits_up}
use Rattle.triad_taps.specs.Words.{of_words, newest}
use Rattle.triad_taps.proofs.Strides.{part_strode}
use Rattle.triad.specs.{Calls.short_striding, Calls.striding, Record.state, Record.packed, State.updates}
use Rattle.triad.proofs.Registers.short_stride.Goals as goal

pub returns : goal.returns
unfolding short_striding striding state newest
returns c =
    let new = c.stride-new.ensures in
    let moved =
    (λ i.
    of_words
    (record {
      a1 = c.shifted.ensures i;
      a0 = c.shifted-2.ensures i;
      b1 = c.shifted-3.ensures i;
      b0 = c.shifted-4.ensures i;
      c1 = c.shifted-5.ensures i;
      c0 = c.shifted-6.ensures i;
    }))
    ∙ part_strode c.args.self.words c.args.message new (omega arith) (omega arith) (omega arith) (omega arith)
    (omega arith) (omega arith) c.min-left.result (omega arith)
    ∙ ap (λ (n : ℕ). updates (bits_up n c.args.message) (state c.args.self)) c.min-left.ensures in
    λ i. record { word = (new i).z; next = (c.cleared.ensures ∙ ap packed moved) i }
