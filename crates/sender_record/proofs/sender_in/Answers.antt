-- What the tests leave is a sender, and each field is read at its place.
use mathlib.Core.{Path.sym, Path.ap₂, Path.◌∙◌, List.List}
use Rattle.std.proofs.Common.{ℕ, arith}
use Rattle.octets.specs.Digits.{number_at}
use Rattle.octets.proofs.Numbers.{word_read}
use Rattle.sender_record.specs.Record.{phase_if, sender_in}
use Rattle.sender_record.proofs.Record.{other_length, by_phase, none_asked, one_asked}
use Rattle.sender_record.proofs.sender_in.Goals as goal

pub returns-then-bytes-ne-SENDER_BYTES : goal.returns-then-bytes-ne-SENDER_BYTES
unfolding sender_in
returns-then-bytes-ne-SENDER_BYTES c =
    c.no_sender.ensures ∙ rw (other_length c.args.bytes.now c.if-bytes-ne-SENDER_BYTES.true)

pub returns-in_default : goal.returns-in_default
unfolding sender_in
returns-in_default c =
    let bytes : List ℕ = c.args.bytes.now in
    let number =
    (word_read bytes 24 1 (λ i. omega (arith, c.type_inv.bytes i)) (omega arith) c.number_at-number.ensures).0 in
    let none = sym (ap₂ phase_if number c.two_at-known.ensures) ∙ sym c.phase_in.ensures ∙ c.in_default.is in
    c.no_sender-in_default.ensures
    ∙ rw (by_phase bytes c.if-bytes-ne-SENDER_BYTES.false, none_asked (number_at bytes 24 1) (number_at bytes 25 2) none)

pub returns : goal.returns
unfolding sender_in
returns c =
    let bytes : List ℕ = c.args.bytes.now in
    let number =
    (word_read bytes 24 1 (λ i. omega (arith, c.type_inv.bytes i)) (omega arith) c.number_at-number.ensures).0 in
    let one =
    one_asked (number_at bytes 24 1) (number_at bytes 25 2)
    (sym (ap₂ phase_if number c.two_at-known.ensures) ∙ sym c.phase_in.ensures ∙ c.in-Some.is) in
    let front = c.front_in-front.ensures in
    rw (by_phase bytes c.if-bytes-ne-SENDER_BYTES.false, one.0)
    (λ i. record
    { key = (front i).key; pair = (front i).pair; session = (front i).session; length = (front i).length; phase = one.1 i })
