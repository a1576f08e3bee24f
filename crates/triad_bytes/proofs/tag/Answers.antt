-- The maker's number decides, then the room, and the tag's number has its eight bytes.
use mathlib.Core.{Path.◌≡◌, Path.refl, Path.sym, Path.ap, Path.◌∙◌, List.List, List.append-nil}
use Prim.Native.Nat.{ℕ, zero, suc, ◌+◌}
use native.Mathlib.Omega.{arith}
use lib.ListN.{length}
use Rattle.std.proofs.lemmas.Result.{err_from_is_err_and}
use Rattle.octets.specs.{Buffers.put, Digits.digits, Digits.number, Stream.Keystream}
use Rattle.octets.proofs.{Numbers.Below, Numbers.digits_number, Streams.OfBytes}
use Rattle.refusals.specs.{Answers.Answer}
use Rattle.refusals.proofs.Answers.{never_accepted}
use Rattle.record_bytes.proofs.Making.{made_refused, made_short, made_stored}
use Rattle.triad.specs.{Calls.making_tag, Calls.absorbing, Calls.tagging, Tag.padded, Tag.first_of, Tag.tag_of}
use Rattle.triad.specs.{Tag.triad_mac, declared.Registers.Registers}
use Rattle.triad.proofs.{Bytes.keystream_bytes, Theorems.made_sized, Theorems.tag_sent}
use Rattle.triad_bytes.specs.{Calls.tag_size, Calls.triad_tag}
use Rattle.triad_bytes.proofs.tag.Goals as goal

-- a tag has eight bytes
tag_long : (key nonce associated message : List ℕ) → length (triad_mac key nonce associated message) ≡ tag_size
unfolding tag_of first_of
tag_long key nonce associated message = refl

first_below : (n : ℕ) (k : Keystream) → OfBytes k → Below 256 (first_of n k)
unfolding first_of
first_below zero k bytes i = omega arith
first_below (suc n) k bytes zero = bytes 0
first_below (suc n) k bytes (suc i) = first_below n _ (λ j. bytes (1 + j)) i

tag_below : (key nonce associated message : List ℕ) → Below 256 (triad_mac key nonce associated message)
unfolding tag_of
tag_below key nonce associated message = first_below 8 _ (keystream_bytes _)

-- so its number has these bytes
tag_bytes_lem : (key nonce associated message : List ℕ)
    → digits 256 8 (number 256 (triad_mac key nonce associated message)) ≡ triad_mac key nonce associated message
tag_bytes_lem key nonce associated message =
    ap (λ (n : ℕ). digits 256 n (number 256 (triad_mac key nonce associated message)))
    (sym (tag_long key nonce associated message))
    ∙ digits_number 256 (omega arith) _ (tag_below key nonce associated message)

pub returns-in_err-made : goal.returns-in_err-made
unfolding triad_tag making_tag
returns-in_err-made c =
    let p = c.args in
    let no = err_from_is_err_and c.from_residual.result c.from_residual.ensures.1 in
    rw (no.1, no.2)
    (made_refused _ _ _ (λ (a : Answer Registers). a.refusal)
    (λ (a : Answer Registers). triad_mac p.key.now p.value.now p.associated.now p.message.now) _ _ tt refl (λ n. refl)
    c.in_err-made.ensures (never_accepted c.in_err-made.field-0.0))

pub returns-then-buffer-lt-TAG_BYTES : goal.returns-then-buffer-lt-TAG_BYTES
unfolding triad_tag making_tag
returns-then-buffer-lt-TAG_BYTES c =
    let p = c.args in
    made_short _ _ _ (λ (a : Answer Registers). a.refusal)
    (λ (a : Answer Registers). triad_mac p.key.now p.value.now p.associated.now p.message.now) _ _ tt refl (λ n. refl)
    c.in_ok-made.ensures refl c.if-buffer-lt-TAG_BYTES.true

pub returns : goal.returns
unfolding triad_tag making_tag
returns c =
    let p = c.args in
    let both = made_sized 1 p.key.now p.value.now c.in_ok-made.ensures in
    let taken : c.absorb-all.result
    ≡ absorbing (absorbing (making_tag p.key.now p.value.now).next (padded p.associated.now)) p.message.now =
    c.absorb-all.ensures
    ∙ ap (λ (r : Registers). absorbing r p.message.now)
    (c.with_data-data.ensures
    ∙ (λ i. absorbing (c.in_ok-made.ensures i).next (padded (append-nil p.associated.now i)))) in
    let tag = c.tag.ensures ∙ ap tagging taken
    ∙ tag_sent p.key.now p.value.now p.associated.now p.message.now both.0 both.1 in
    made_stored _ _ _ (λ (a : Answer Registers). a.refusal)
    (λ (a : Answer Registers). triad_mac p.key.now p.value.now p.associated.now p.message.now) _ _ tt refl (λ n. refl)
    c.in_ok-made.ensures refl c.if-buffer-lt-TAG_BYTES.false
    (λ _. tag_long p.key.now p.value.now p.associated.now p.message.now)
    (c.write_number.ensures
    ∙ ap (put p.buffer.now 0)
    (ap (digits 256 8) tag ∙ tag_bytes_lem p.key.now p.value.now p.associated.now p.message.now))
