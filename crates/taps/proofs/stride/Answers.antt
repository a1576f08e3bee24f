-- `taps::stride`: two shifts take each run of 64 bits, and `words_newest` says what the runs make.
use mathlib.Core.Path.{◌∙◌}
use Prim.Native.Nat.{ℕ}
use native.Mathlib.Omega.{arith}
use Rattle.shift_registers.proofs.{Strides.words, Words.Within, Words.here, Words.run_joined}
use Rattle.taps.proofs.{Strides.words_newest, Words.rule, Words.sum}
use Rattle.taps.proofs.stride.Goals as goal

pub returns : goal.returns
unfolding words
returns c =
    let w = c.args.words in
    let a : (j : ℕ) → Within 93 j → _ = λ j h. run_joined 93 j w.a1 w.a0 h (omega arith) (omega arith) in
    let b : (j : ℕ) → Within 84 j → _ = λ j h. run_joined 84 j w.b1 w.b0 h (omega arith) (omega arith) in
    let d : (j : ℕ) → Within 111 j → _ = λ j h. run_joined 111 j w.c1 w.c0 h (omega arith) (omega arith) in
    (λ i.
    record {
      z = sum (d 66 here i) (d 111 here i) (a 66 here i) (a 93 here i) (b 69 here i) (b 84 here i);
      a = rule (d 66 here i) (d 111 here i) (d 110 here i) (d 109 here i) (a 69 here i);
      b = rule (a 66 here i) (a 93 here i) (a 92 here i) (a 91 here i) (b 78 here i);
      c = rule (b 69 here i) (b 84 here i) (b 83 here i) (b 82 here i) (d 87 here i);
    })
    ∙ words_newest w
