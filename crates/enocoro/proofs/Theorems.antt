-- What the public calls' definitions come to: by the laws of any cipher, from how states move.
use mathlib.Core.{Path.◌≡◌, Path.refl, Path.sym, Path.ap, Path.◌∙◌, List.List}
use Prim.Native.Nat.{ℕ, ◌≤◌}
use lib.ListN.{length, take}
use Rattle.ciphers.specs.Calls.{TakenInTwo, GivesBack}
use Rattle.ciphers.proofs.Enciphering as Any
use Rattle.octets.specs.{Buffers.placed, Stream.from, Stream.enciphered}
use Rattle.octets.proofs.Numbers.{Below}
use Rattle.refusals.specs.{Answers.answer, Numbers.accepted, Outcome.outcome, Rules.Leaves}
use Rattle.refusals.proofs.Settled.{done_if, settled_leaves}
use Rattle.enocoro.specs.Calls.{blank, loading, making_cipher, skipping, ahead, enciphering}
use Rattle.enocoro.specs.{Keystream.keystream, Record.state, Record.packed, State.started}
use Rattle.enocoro.specs.declared.Registers.{Registers}
use Rattle.enocoro.proofs.{Making.state_started, States.keystream_from, States.state_skip, States.skip_add}

-- ---- a refused call leaves everything as given

pub loading_leaves : (key iv : List ℕ) → Leaves (λ m. m.refusal) (λ n. answer n blank) (loading key iv)
unfolding loading
loading_leaves key iv = settled_leaves _ _ _ (λ m. m.refusal) refl (λ n. refl)

pub making_leaves : (key iv : List ℕ) → Leaves (λ m. m.refusal) (λ n. answer n blank) (making_cipher key iv)
unfolding making_cipher
making_leaves key iv = settled_leaves _ _ _ (λ m. m.refusal) refl (λ n. refl)

pub enciphering_leaves : (r : Registers) (input output : List ℕ)
    → Leaves (λ o. o.answer.refusal) (λ n. outcome (answer n r) output) (enciphering r input output)
unfolding enciphering
enciphering_leaves = Any.enciphering_leaves answer ahead skipping (λ a. a.refusal) (λ n r. refl)

-- ---- a key of 16 bytes and a value of eight aren't refused, and what is made has their keystream

pub makes : (key iv : List ℕ) → length key ≡ 16 → length iv ≡ 8
    → making_cipher key iv ≡ answer accepted (packed (started key iv))
unfolding making_cipher
makes key iv long short = sym (done_if _ _ _ (long, (short, tt)))

pub made_stream : (key iv : List ℕ) → length key ≡ 16 → length iv ≡ 8 → Below 256 key → Below 256 iv
    → ahead (making_cipher key iv).next ≡ keystream (started key iv)
made_stream key iv long short bk bv =
    ap (λ m. ahead m.next) (makes key iv long short) ∙ ap keystream (state_started key iv long short bk bv)

-- ---- enciphering

pub enciphers : (r : Registers) (input output : List ℕ) → length input ≤ length output
    → enciphering r input output
    ≡ outcome (answer accepted (skipping r (length input))) (placed output 0 (enciphered (ahead r) input))
unfolding enciphering
enciphers = Any.enciphers answer ahead skipping

-- and what it was asked for stands at the output's front
pub enciphered_there : (r : Registers) (input output : List ℕ) (n : ℕ) → length input ≡ n → n ≤ length output
    → take n (enciphering r input output).buffer ≡ enciphered (ahead r) input
unfolding enciphering
enciphered_there = Any.enciphered_there answer ahead skipping

-- a record that is moved on has the keystream from there on
pub stream_skip : (r : Registers) (n : ℕ) → ahead (skipping r n) ≡ from n (ahead r)
stream_skip r n = ap keystream (state_skip r n) ∙ sym (keystream_from n (state r))

-- a stream may be cut at any byte: two calls, the second with the record that the first answered, are one
pub cut : TakenInTwo (λ a. a.next) enciphering
unfolding enciphering
cut = Any.in_two answer ahead skipping (λ a. a.next) (λ n r. refl) skip_add stream_skip

-- enciphered twice under the same record is what there was
pub twice : GivesBack enciphering
unfolding enciphering
twice = Any.back answer ahead skipping
