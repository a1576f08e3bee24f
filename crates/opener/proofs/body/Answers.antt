-- A file without a flaw has the key section and the body where it says so.
use mathlib.Core.{Path.sym, Path.ap, Path.◌∙◌}
use Rattle.std.proofs.Common.{arith}
use Rattle.bodies.specs.Bodies.{begun}
use Rattle.opener.proofs.Told.{known, is_begun, body_read}
use Rattle.opener.proofs.body.Goals as goal

pub overflow_sub-opened : goal.overflow_sub-opened
overflow_sub-opened c = let k = known c.args.rings c.args.file.now c.args.opened c.requires in omega (arith, k.value)

pub unwrap-cipher-requires : goal.unwrap-cipher-requires
unwrap-cipher-requires c =
    is_begun c.args.rings c.args.file.now c.args.opened c.requires c.begin_from.result c.begin_from.ensures

pub overflow_sub-end : goal.overflow_sub-end
overflow_sub-end c = let k = known c.args.rings c.args.file.now c.args.opened c.requires in omega (arith, k.loops)

pub overflow_mul-result : goal.overflow_mul-result
overflow_mul-result c = let k = known c.args.rings c.args.file.now c.args.opened c.requires in omega (arith, k.most)

pub overflow_sub-result : goal.overflow_sub-result
overflow_sub-result c =
    let k = known c.args.rings c.args.file.now c.args.opened c.requires in omega (arith, k.loops, k.samples)

pub slice_bounds-result-end : goal.slice_bounds-result-end
slice_bounds-result-end c =
    let k = known c.args.rings c.args.file.now c.args.opened c.requires in omega (arith, k.loops, k.there)

pub returns : goal.returns
returns c =
    body_read c.args.rings c.args.file.now c.args.opened c.requires c.unwrap-cipher.result
    (ap begun (sym c.unwrap-cipher.ensures) ∙ c.begin_from.ensures)
