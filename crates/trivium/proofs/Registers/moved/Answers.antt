-- The upper words take in what leaves the lower ones, less spare bits.
use mathlib.Core.Path.{◌≡◌, sym, ap, ◌∙◌}
use Prim.Native.Nat.{ℕ, ◌+◌, ◌-◌, ◌/◌, ◌%◌, ◌*◌, ◌^◌, min}
use native.Mathlib.Omega.{arith}
use Rattle.shift_registers.proofs.Words.{upper_grown}
use Rattle.taps.specs.{Registers.State, Words.newest}
use Rattle.taps.proofs.Strides.{partly, small_front}
use Rattle.trivium.specs.Record.{state, packed}
use Rattle.trivium.proofs.Steps.{held_state}
use Rattle.trivium.proofs.Registers.moved.Goals as goal

pub returns : goal.returns
unfolding state packed newest
returns c =
    let w = c.args.self.words in
    let n : ℕ = min c.args.n 64 in
    let most : 64 - c.args.n ≡ 64 - n = omega arith in
    let k : ℕ = 64 - n in
    let s : State = state c.args.self in
    let all : n + k ≡ 64 = omega arith in
    let there = sym (partly s (held_state c.args.self) n k all) in
    let small = small_front n k s all in
    let a1 = upper_grown 29 w.a1 w.a0 (omega arith) n _ (omega arith) small.1 in
    let b1 = upper_grown 20 w.b1 w.b0 (omega arith) n _ (omega arith) small.2 in
    let c1 = upper_grown 47 w.c1 w.c0 (omega arith) n _ (omega arith) small.3 in
    let new = c.requires in
    let word : ℕ → ℕ → ℕ → ℕ = λ upper lower e. (upper * 2 ^ 64 + lower) / 2 ^ e % 2 ^ 64 in
    let a = c.shifted.ensures ∙ ap (word w.a1 w.a0) most in
    let b = c.shifted-2.ensures ∙ ap (word w.b1 w.b0) most in
    let d = c.shifted-3.ensures ∙ ap (word w.c1 w.c0) most in
    λ i.
    record {
      word = (new i).z;
      next =
          record {
            words =
                record {
                  a1 = ((λ j. a j % 2 ^ 29) ∙ a1 ∙ (λ j. (there j).a / 2 ^ 64)) i;
                  a0 = (new i).a;
                  b1 = ((λ j. b j % 2 ^ 20) ∙ b1 ∙ (λ j. (there j).b / 2 ^ 64)) i;
                  b0 = (new i).b;
                  c1 = ((λ j. d j % 2 ^ 47) ∙ c1 ∙ (λ j. (there j).c / 2 ^ 64)) i;
                  c0 = (new i).c;
                };
          };
    }
