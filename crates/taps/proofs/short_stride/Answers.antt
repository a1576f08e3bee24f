-- `taps::short_stride`: n of the 64 steps push in the first n bits of each word.
use mathlib.Core.Path.{sym, ap, ◌∙◌}
use Rattle.shift_registers.proofs.Strides.{late}
use Rattle.taps.proofs.Strides.{words_newest, late_newest}
use Rattle.taps.proofs.short_stride.Goals as goal

pub returns : goal.returns
returns c =
    let w = c.args.words in
    (λ i.
    record {
      z = c.shifted.ensures i;
      a = c.shifted-2.ensures i;
      b = c.shifted-3.ensures i;
      c = c.shifted-4.ensures i;
    })
    ∙ ap (late c.args.n w.a0 w.b0 w.c0) (c.stride-all.ensures ∙ sym (words_newest w))
    ∙ late_newest w c.args.n
