-- Two shifts take each run of 64 bits, turned as the words are, and `words_newest` says what the runs make.
use mathlib.Core.Path.{◌≡◌, sym, ◌∙◌}
use Prim.Native.Nat.{ℕ}
use native.Mathlib.Omega.{arith}
use Rattle.octets.specs.LowFirst.{turned}
use Rattle.octets.proofs.LowFirst.{turned_twice}
use Rattle.shift_registers.proofs.{Strides.words, Words.Within, Words.here, Words.run}
use Rattle.shift_registers.specs.Registers.{State}
use Rattle.triad_taps.specs.Words.{of_words}
use Rattle.triad_taps.proofs.{Strides.words_newest, Turned.tap_turned, Turned.tap_newer}
use Rattle.triad_taps.proofs.{Words.pair, Words.triple, Words.sum, Words.new, Words.mixed_turned}
use Rattle.triad_taps.proofs.stride.Goals as goal

pub returns : goal.returns
unfolding words
returns c =
    let w = c.args.words in
    let message : ℕ = c.args.message in
    let s : State = of_words w in
    let a : (j : ℕ) → Within 80 j → _ =
    λ j h. tap_turned 80 j w.a1 w.a0 h (omega arith) (omega arith) (omega arith) in
    let b : (j : ℕ) → Within 88 j → _ =
    λ j h. tap_turned 88 j w.b1 w.b0 h (omega arith) (omega arith) (omega arith) in
    let d : (j : ℕ) → Within 88 j → _ =
    λ j h. tap_turned 88 j w.c1 w.c0 h (omega arith) (omega arith) (omega arith) in
    let near = tap_newer 88 w.b1 w.b0 here (omega arith) (omega arith) (omega arith) in
    let msg : message ≡ turned (turned message) = sym (turned_twice message (omega arith)) in
    (λ i.
    let w1 : ℕ = triple (a 68 here i) (a 80 here i) (b 85 here i) (d 85 here i) in
    let w2 : ℕ = pair (near i) (b 88 here i) in
    let w3 : ℕ = pair (d 68 here i) (d 88 here i) in
    record {
      z = sum w1 w2 w3;
      a = new w3 (d 77 here i) (d 87 here i) (a 74 here i) (msg i);
      b = new w1 (a 73 here i) (a 79 here i) (b 66 here i) (msg i);
      c = new w2 (b 65 here i) (b 87 here i) (d 84 here i) (msg i);
    })
    ∙ mixed_turned (turned message) (λ j. run j s.a) (λ j. run j s.b) (λ j. run j s.c)
    ∙ words_newest w message
