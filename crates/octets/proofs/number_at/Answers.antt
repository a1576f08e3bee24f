-- `octets::number_at` meets its contract: eight bytes at once, or byte after byte.
use Rattle.std.proofs.Common.{arith, ◌≡◌, ℕ, ◌+◌, ◌*◌, ◌%◌, ◌^◌, ◌<◌, List, length, take, get_or, bit_or, refl, sym, ap, ◌∙◌, add-one}
use lib.Seq.{take-suc}
use Rattle.std.specs.Int.{from_be_bytes, w64}
use Rattle.octets.specs.Digits.{number, number_after, word}
use Rattle.octets.proofs.{Shifts.moved_up, Shifts.multiple_mod}
use Rattle.octets.proofs.Numbers.{Below, below_slice, high_first, word_whole, number_snoc}
use Rattle.octets.proofs.number_at.Goals as goal

pub returns-in-Some : goal.returns-in-Some
returns-in-Some c =
    let bytes : List ℕ = c.slice-bytes.result.now in
    let whole = c.in-Some.ensures.cases in
    let below : Below 256 c.args.s.now = λ i. omega (arith, c.type_inv.s i) in
    let fits = word_whole bytes (rw c.slice-bytes.ensures (below_slice c.args.s.now c.args.at c.args.n below)) whole.long in
    c.from_be_bytes.ensures
    ∙ (λ i. from_be_bytes w64 (whole.same i)) ∙ high_first bytes whole.long ∙ sym fits
    ∙ ap (λ (l : List ℕ). word (number 256 l)) c.slice-bytes.ensures

pub loop-byte-init : goal.loop-byte-init
unfolding number_after
loop-byte-init c = refl

one_more : (bytes : List ℕ) (i : ℕ) → i < length bytes → get_or bytes i 0 < 256
    → bit_or (word (number 256 (take i bytes)) * 256 % 2 ^ 64) (get_or bytes i 0)
    ≡ word (number 256 (take (i + 1) bytes))
one_more bytes i h b =
    let front : List ℕ = take i bytes in
    let x : ℕ = get_or bytes i 0 in
    moved_up 8 56 (word (number 256 front)) x refl b
    ∙ multiple_mod (2 ^ 64) (number 256 front) 256 x
    ∙ ap word (sym (number_snoc 256 front x) ∙ ap (number 256) (rw (add-one, take-suc bytes i 0 h)))

pub loop-byte-preserved : goal.loop-byte-preserved
loop-byte-preserved c =
    let bytes : List ℕ = c.slice-bytes.result.now in
    let i : ℕ = c.loop-byte.byte-index in
    let was = c.loop-byte.invariant in
    let read = c.from.ensures in
    (λ j. bit_or (was j * 256 % 2 ^ 64) (read j)) ∙ one_more bytes i (omega arith) (omega (arith, c.type_inv.bytes i))
