use Rattle.std.proofs.Common.{◌≡◌, ℕ, ◌+◌, ◌*◌, sym, ap, ◌∙◌, arith}
use Rattle.trivium.specs.{Calls.skipping, Calls.stopping, Record.state, Record.packed, Registers.State, Registers.steps}
use Rattle.trivium.proofs.Steps.{steps_none, steps_bytes, ran_state, run_begun}
use Rattle.trivium_seek.proofs.pass.Goals as goal

pub loop-init : goal.loop-init
loop-init c = run_begun c.args.registers c.of-running.result c.of-running.ensures ∙ sym (steps_none _)

pub loop-preserved : goal.loop-preserved
loop-preserved c =
    let s : State = state c.args.registers in
    let bytes : ℕ = 8 * c.loop.counter in
    let one_more : bytes + 8 ≡ 8 * (c.loop.counter + 1) = omega arith in
    ran_state c.loop.running c.stride.result c.stride.ensures
    ∙ ap (steps (8 * 8)) c.loop.invariant
    ∙ sym (steps_bytes bytes 8 s)
    ∙ ap (λ (n : ℕ). steps (8 * n) s) one_more

pub returns : goal.returns
unfolding skipping stopping
returns c =
    let all : c.loop.counter ≡ c.args.strides = omega arith in
    c.stop.ensures
    ∙ ap packed (c.loop.invariant ∙ ap (λ (n : ℕ). steps (8 * (8 * n)) (state c.args.registers)) all)
