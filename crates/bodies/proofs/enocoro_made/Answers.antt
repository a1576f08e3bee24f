use mathlib.Core.Path.{ap, ◌∙◌}
use Rattle.std.proofs.Common.{arith}
use Rattle.std.proofs.lemmas.Result.{err_from_is_err_and}
use Rattle.enocoro.specs.Calls.{ahead, making_cipher}
use Rattle.enocoro.specs.Keystream.{enocoro}
use Rattle.enocoro.proofs.Theorems.{made_stream}
use Rattle.chunks.specs.Ahead as chunks
use Rattle.bodies.proofs.Made.{made_left, made_done}
use Rattle.bodies.proofs.enocoro_made.Goals as goal

pub returns-in_err-new : goal.returns-in_err-new
unfolding making_cipher
returns-in_err-new c =
    let p = err_from_is_err_and c.from_residual.result c.from_residual.ensures.1 in
    rw (p.1, p.2) (made_left _ _ enocoro c.args.key.now c.args.value.now _ c.in_err-new.ensures)

pub returns : goal.returns
unfolding making_cipher chunks.ahead
returns c =
    made_done _ _ enocoro c.args.key.now c.args.value.now _ _ c.in_ok-new.ensures
    (λ long short.
    ap (λ m. ahead m.next) c.in_ok-new.ensures
    ∙ made_stream c.args.key.now c.args.value.now long short (λ i. omega (arith, c.type_inv.key i))
    (λ i. omega (arith, c.type_inv.value i)))
