-- `samples::eight_from` meets its contract: eight bytes that are there, in the other order.
use Rattle.std.proofs.Common.{arith, ◌≡◌, ◌≢◌, ℕ, ◌+◌, ◌≤◌, List, length, min, ◌-◌, reverse, sym, ap, ◌∙◌, length-take, length-drop}
use Rattle.std.proofs.lemmas.Bool.Decides.{nat_tests}
use Rattle.std.specs.Int.{from_le_bytes, w64}
use Rattle.octets.specs.{Buffers.slice, Digits.number}
use Rattle.octets.proofs.Numbers.{Below, digits_read}
use Rattle.samples.specs.Words.{swapped}
use Rattle.samples.proofs.Reversed.{low_first, eight_there, eight_short}
use Rattle.samples.proofs.eight_from.Goals as goal

long : (s : List ℕ) (at : ℕ) → length (slice s at 8) ≡ min 8 (length s - at)
long s at = simp (length-take, length-drop)

pub returns-in-Some : goal.returns-in-Some
unfolding swapped
returns-in-Some c =
    let s : List ℕ = c.args.s.now in
    let at : ℕ = c.args.at in
    let bytes : Below 256 s = λ i. omega (arith, c.type_inv.s i) in
    let whole = c.in-Some.ensures.cases in
    let eight : length c.slice.result.now ≡ 8 = whole.long in
    let room : at + 8 ≤ length s = omega (arith, ap length c.slice.ensures, long s at) in
    c.from_le_bytes.ensures
    ∙ ap (from_le_bytes w64) whole.same ∙ low_first c.slice.result.now eight
    ∙ ap (λ (l : List ℕ). number 256 (reverse l)) (c.slice.ensures ∙ sym (digits_read s at 8 room bytes))
    ∙ sym (eight_there s at room)

pub returns-in-None : goal.returns-in-None
returns-in-None c =
    let s : List ℕ = c.args.s.now in
    let at : ℕ = c.args.at in
    let other : length c.slice.result.now ≢ 8 = c.in-None.ensures.cases in
    let none = eight_short s at (omega (arith, ap length c.slice.ensures, long s at)) in
    grind (arith, nat_tests, length-take, length-drop)
