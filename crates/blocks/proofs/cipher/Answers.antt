-- The initial value is the pair name with the session behind it; ten bytes as a key and ten as a value are never
-- refused, and a cipher moved on stands at its place.
use Rattle.std.proofs.Common.{Ok, ◌*◌, length, sym, ap, ◌∙◌}
use borrow.Author.Rules.{rules}
use Rattle.refusals.specs.Answers.{answer_or}
use Rattle.refusals.proofs.Answers.{one_answer}
use Rattle.trivium.specs.{Calls.blank, Calls.making_at, Keystream.keystream, Record.state}
use Rattle.trivium.proofs.Theorems.{makes_at}
use Rattle.blocks.specs.Covering.{initial}
use Rattle.blocks.proofs.Covering.{length_initial, value_made, stands}
use Rattle.blocks.proofs.cipher.Goals as goal

pub slice_bounds-make_at-end-2 : goal.slice_bounds-make_at-end-2
slice_bounds-make_at-end-2 c =
    let value =
    value_made c.args.pair.now c.args.session c.told-pair c.copy_from_slice.ensures.after
    (c.copy_from_slice-2.ensures.after ∙ c.to_be_bytes.ensures) in
    let long = ap length value ∙ length_initial c.args.pair.now c.args.session c.told-pair in
    search rules

pub unwrap-requires : goal.unwrap-requires
unwrap-requires c =
    let pair = c.args.pair.now in
    let value =
    value_made pair c.args.session c.told-pair c.copy_from_slice.ensures.after
    (c.copy_from_slice-2.ensures.after ∙ c.to_be_bytes.ensures) in
    let made =
    c.make_at.ensures
    ∙ ap (λ v. making_at c.args.key.now v (8 * c.args.k)) value
    ∙ makes_at c.args.key.now (initial pair c.args.session) (8 * c.args.k) c.told-key
    (length_initial pair c.args.session c.told-pair) in
    rw (one_answer blank c.make_at.result (Ok _) made)

pub returns : goal.returns
returns c =
    let pair = c.args.pair.now in
    let value =
    value_made pair c.args.session c.told-pair c.copy_from_slice.ensures.after
    (c.copy_from_slice-2.ensures.after ∙ c.to_be_bytes.ensures) in
    ap (λ m. keystream (state m.next))
    (ap (answer_or blank) (sym c.unwrap.ensures) ∙ c.make_at.ensures
    ∙ ap (λ v. making_at c.args.key.now v (8 * c.args.k)) value)
    ∙ stands c.args.key.now pair c.args.session c.args.k c.told-key c.told-pair
