-- `taps::step`: each tap is a bit of an upper word, and each register moves up by one bit.
use mathlib.Core.{Bool.cond, Path.◌≡◌, Path.refl, Path.sym, Path.ap, Path.◌∙◌}
use Prim.Native.Nat.{ℕ, ◌+◌, ◌-◌, ◌*◌, ◌/◌, ◌%◌, ◌^◌, ◌<◌, ◌≤◌}
use native.Mathlib.{Nat.zero-add, Omega.arith}
use lib.{Bits.bit_or, Dec.leb}
use Rattle.octets.specs.Digits.{number_after}
use Rattle.taps.specs.Keystream.{bits}
use Rattle.taps.specs.Registers.{State, moved, next, steps, output_bit}
use Rattle.taps.specs.Words.{joined, of_words, newest}
use Rattle.shift_registers.proofs.Words.{Reads, reads_words, lower_moved}
use Rattle.taps.proofs.Words.{bits_by_lem}
use Rattle.taps.proofs.step.Goals as goal

-- one bit comes in, whatever the register: p is what its upper word has of it
bit_in : (p upper lower new code : ℕ) → p ≤ 64 → new ≡ code % 2
    → bit_or (lower * 2 % 2 ^ 64) (code % 2) ≡ moved (p + 64) (joined (p + 64) upper lower) new % 2 ^ 64
bit_in p upper lower new code hp e =
    ap (bit_or (lower * 2 % 2 ^ 64)) (sym e) ∙ lower_moved p upper lower new hp (omega arith)

reads : (w upper lower : ℕ) → lower < 2 ^ 64
    → Reads w (joined w upper lower) (λ j. cond (leb j 64) (lower / 2 ^ 63) (upper / 2 ^ (j - 1 - 64)))
reads w upper lower h = reads_words w upper lower _ _ h (omega arith) (λ j more le. refl)

pub returns : goal.returns
unfolding newest bits number_after steps next
returns c =
    let w = c.args.words in
    let s : State = of_words w in
    let ra = reads 93 w.a1 w.a0 (omega arith) in
    let rb = reads 84 w.b1 w.b0 (omega arith) in
    let rc = reads 111 w.c1 w.c0 (omega arith) in
    let got = bits_by_lem s _ _ _ ra rb rc in
    λ i.
    record {
      z = (sym got.0 ∙ sym (zero-add (output_bit s))) i;
      a = bit_in 29 w.a1 w.a0 _ _ (omega arith) got.1 i;
      b = bit_in 20 w.b1 w.b0 _ _ (omega arith) got.2 i;
      c = bit_in 47 w.c1 w.c0 _ _ (omega arith) got.3 i;
    }
