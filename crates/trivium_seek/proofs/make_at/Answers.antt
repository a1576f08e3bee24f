-- The two lengths decide, and the strides of the blank rounds and those asked for are as many steps, one behind the other.
use Rattle.std.proofs.Common.{◌≡◌, ℕ, ◌+◌, ◌*◌, ap, ◌∙◌, arith}
use Rattle.refusals.specs.Answers.{answer}
use Rattle.refusals.proofs.Settled.{done_if, left_at}
use Rattle.taps.specs.Registers.{State, steps, loaded, warm_up}
use Rattle.trivium.specs.{Calls.making_at, Calls.skipping, Record.state, Record.packed, declared.Registers.Registers}
use Rattle.trivium.proofs.Steps.{steps_add}
use Rattle.trivium_seek.proofs.make_at.Goals as goal

pub returns-then-key-ne-KEY_BYTES : goal.returns-then-key-ne-KEY_BYTES
unfolding making_at
returns-then-key-ne-KEY_BYTES c = left_at _ _ _ 0 tt c.if-key-ne-KEY_BYTES.true

pub returns-then-iv-ne-VALUE_BYTES : goal.returns-then-iv-ne-VALUE_BYTES
unfolding making_at
returns-then-iv-ne-VALUE_BYTES c =
    left_at _ _ _ 1 tt (c.if-key-ne-KEY_BYTES.false, c.if-iv-ne-VALUE_BYTES.true)

-- registers that were passed on stand so many steps further; how many bytes the code passes is given apart
passed : (start : Registers) (s : State) (n m : ℕ) {r : Registers} → r ≡ skipping start m → state start ≡ s → 8 * m ≡ n
    → r ≡ packed (steps n s)
unfolding skipping
passed start s n m e begun same = e ∙ (λ i. packed (steps (same i) (begun i)))

pub returns : goal.returns
unfolding making_at
returns c =
    let more : ℕ = 64 * c.args.strides in
    let s : State = loaded c.args.key.now c.args.iv.now in
    let all =
    passed c.load.result s (warm_up + more) _ c.pass.ensures c.load.ensures (omega arith)
    ∙ ap packed (steps_add warm_up more s) in
    ap (answer 0) all ∙ done_if _ _ _ (c.if-key-ne-KEY_BYTES.false, (c.if-iv-ne-VALUE_BYTES.false, tt))
