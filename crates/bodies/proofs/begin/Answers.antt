-- The number decides, and then the cipher's own making.
use mathlib.Core.Path.{ap, ◌∙◌}
use Rattle.std.proofs.Common.{arith}
use Rattle.std.proofs.lemmas.Result.{err_from_is_err_and}
use Rattle.refusals.proofs.Settled.{left_at}
use Rattle.trivium.specs.Calls as T
use Rattle.trivium.specs.Keystream.{trivium}
use Rattle.trivium.proofs.Theorems as Trivium
use Rattle.triad.specs.Calls as D
use Rattle.triad.specs.Tag.{triad}
use Rattle.triad.proofs.Theorems as Triad
use Rattle.chunks.specs.Ahead as chunks
use Rattle.bodies.specs.Bodies.{beginning}
use Rattle.bodies.proofs.Made.{made_left, made_done, in_ring}
use Rattle.bodies.proofs.begin.Goals as goal

pub returns-then-number-gt-LAST_KEY : goal.returns-then-number-gt-LAST_KEY
unfolding beginning
returns-then-number-gt-LAST_KEY c = left_at _ _ _ 0 tt (omega arith)

pub returns-in_err-make-in-Trivium : goal.returns-in_err-make-in-Trivium
unfolding T.making_cipher
returns-in_err-make-in-Trivium c =
    let p = err_from_is_err_and c.from_residual.result c.from_residual.ensures.1 in
    let a = c.args in
    rw (c.in-Trivium.is, p.1, p.2)
    (made_left _ _ trivium _ a.value.now _ c.in_err-make-in-Trivium.ensures
    ∙ in_ring _ a.rings a.number a.value.now (omega arith) (omega arith))

pub returns-in_ok-make-in-Trivium : goal.returns-in_ok-make-in-Trivium
unfolding T.making_cipher chunks.ahead
returns-in_ok-make-in-Trivium c =
    let a = c.args in
    let e = c.in_ok-make-in-Trivium.ensures in
    rw c.in-Trivium.is
    (made_done _ _ trivium _ a.value.now _ _ e
    (λ long short. ap (λ m. T.ahead m.next) e ∙ Trivium.made_stream _ a.value.now long short)
    ∙ in_ring _ a.rings a.number a.value.now (omega arith) (omega arith))

pub returns-in_err-enocoro_made-in-Enocoro : goal.returns-in_err-enocoro_made-in-Enocoro
returns-in_err-enocoro_made-in-Enocoro c =
    let f = c.from_residual-in_err-enocoro_made-in-Enocoro in
    let p = err_from_is_err_and f.result f.ensures.1 in
    let a = c.args in
    rw (c.in-Enocoro.is, p.1, p.2)
    (c.in_err-enocoro_made-in-Enocoro.ensures ∙ in_ring _ a.rings a.number a.value.now (omega arith) (omega arith))

pub returns-in_ok-enocoro_made-in-Enocoro : goal.returns-in_ok-enocoro_made-in-Enocoro
returns-in_ok-enocoro_made-in-Enocoro c =
    let a = c.args in
    rw c.in-Enocoro.is
    (c.in_ok-enocoro_made-in-Enocoro.ensures ∙ in_ring _ a.rings a.number a.value.now (omega arith) (omega arith))

pub returns-in_err-new-in-Triad : goal.returns-in_err-new-in-Triad
unfolding D.making_cipher
returns-in_err-new-in-Triad c =
    let f = c.from_residual-in_err-new-in-Triad in
    let p = err_from_is_err_and f.result f.ensures.1 in
    let a = c.args in
    rw (c.in-Triad.is, p.1, p.2)
    (made_left _ _ triad _ a.value.now _ c.in_err-new-in-Triad.ensures
    ∙ in_ring _ a.rings a.number a.value.now (omega arith) (omega arith))

pub returns-in_ok-new-in-Triad : goal.returns-in_ok-new-in-Triad
unfolding D.making_cipher chunks.ahead
returns-in_ok-new-in-Triad c =
    let a = c.args in
    let e = c.in_ok-new-in-Triad.ensures in
    rw c.in-Triad.is
    (made_done _ _ triad _ a.value.now _ _ e
    (λ long short. ap (λ m. D.ahead m.next) e ∙ Triad.made_stream _ a.value.now long short)
    ∙ in_ring _ a.rings a.number a.value.now (omega arith) (omega arith))
