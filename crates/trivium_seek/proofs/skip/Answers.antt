-- Eight bytes to a stride, and then the bytes that are left.
use Rattle.std.proofs.Common.{◌≡◌, ℕ, ◌+◌, ◌*◌, ◌/◌, ◌%◌, refl, ap, ◌∙◌, arith}
use Rattle.trivium.specs.{Calls.skipping, declared.Registers.Registers, declared.Strode.Strode}
use Rattle.trivium.proofs.Steps.{few_strode, skip_add, skip_packed}
use Rattle.trivium_seek.proofs.skip.Goals as goal

pub returns : goal.returns
returns c =
    let r : Registers = c.args.registers in
    let there : Registers = c.pass-passed.result in
    let few : ℕ = c.args.bytes % 8 in
    let eights : ℕ = 8 * (c.args.bytes / 8) in
    let all : eights + few ≡ c.args.bytes = omega arith in
    ap (λ (s : Strode). s.next) (c.short_stride.ensures ∙ few_strode there few (omega arith))
    ∙ skip_packed there few
    ∙ ap (λ (q : Registers). skipping q few) c.pass-passed.ensures
    ∙ skip_add r eights few
    ∙ ap (skipping r) all
