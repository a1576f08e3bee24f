-- Each tap is a bit of a word, and each register takes in its new bit.
use mathlib.Core.Path.{sym, ◌∙◌}
use native.Mathlib.{Nat.add-zero, Omega.arith}
use Rattle.octets.specs.LowFirst.{number_up}
use Rattle.shift_registers.specs.{Registers.State, Steps.steps_by, Steps.bits_by}
use Rattle.triad_taps.specs.{Update.next, Update.output_bit, Words.of_words, Words.newest}
use Rattle.triad_taps.proofs.{Turned.reads_turned, Turned.bit_in, Words.bits_by_lem}
use Rattle.triad_taps.proofs.step.Goals as goal

pub returns : goal.returns
unfolding newest steps_by bits_by number_up next
returns c =
    let w = c.args.words in
    let s : State = of_words w in
    let ra = reads_turned 80 w.a1 w.a0 (omega arith) (omega arith) in
    let rb = reads_turned 88 w.b1 w.b0 (omega arith) (omega arith) in
    let rc = reads_turned 88 w.c1 w.c0 (omega arith) (omega arith) in
    let got = bits_by_lem c.args.message s _ _ _ ra rb rc in
    λ i.
    record {
      z = (sym got.0 ∙ sym (add-zero (output_bit s))) i;
      a = bit_in 16 w.a1 w.a0 _ _ (omega arith) (omega arith) got.1 i;
      b = bit_in 24 w.b1 w.b0 _ _ (omega arith) (omega arith) got.2 i;
      c = bit_in 24 w.c1 w.c0 _ _ (omega arith) (omega arith) got.3 i;
    }
