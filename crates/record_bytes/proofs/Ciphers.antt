-- How a call on a cipher that is kept as bytes comes to its promise: the length decides, and then the cipher's own number. A
-- stream taken in two such calls is the stream taken in one, since the bytes that the first leaves are read back.
use mathlib.Core.{Path.◌≡◌, Path.refl, Path.sym, Path.ap, Path.◌∙◌, List.List, List.◌++◌, Logic.◌≢◌}
use Prim.Native.Nat.{ℕ, ◌+◌, ◌≤◌}
use native.Mathlib.Omega.{arith}
use lib.ListN.{length, drop, length-append, length-drop}
use Rattle.octets.specs.{Buffers.placed, Buffers.put, Stream.Keystream, Stream.from, Stream.enciphered}
use Rattle.octets.proofs.{Buffers.put_whole, Streams.enciphered_front, Streams.enciphered_cut}
use Rattle.refusals.specs.{Numbers.accepted, Outcome.Outcome, Rules.Leaves}
use Rattle.refusals.proofs.Faults.{rule_passes}
use Rattle.refusals.proofs.Settled.{done_if, settled_left, settled_done, settled_leaves, answer_number, answer_done}
use Rattle.refusals.proofs.Settled.{answer_left}
use Rattle.ciphers.specs.Calls.{enciphers_by}
use Rattle.record_bytes.specs.Ciphers.{Ciphered, ciphered, kept_enciphering, KeptInTwo}

module _ {Record : Type 0} (size : ℕ) (read : List ℕ → Record) (bytes : Record → List ℕ) (stream : Record → Keystream)
    (moved : Record → ℕ → Record) where
  abbrev encipher : List ℕ → List ℕ → List ℕ → Ciphered
  encipher = kept_enciphering size read bytes stream moved

  pub kept_leaves : (cipher input output : List ℕ)
      → Leaves (λ o. o.number) (ciphered cipher output) (encipher cipher input output)
  kept_leaves cipher input output = settled_leaves _ _ _ (λ o. o.number) refl (λ n. refl)

  -- what a call with room comes to
  call : (cipher input output : List ℕ) → length cipher ≡ size → length input ≤ length output
      → encipher cipher input output
      ≡ ciphered (bytes (moved (read cipher) (length input)))
      (placed output 0 (enciphered (stream (read cipher)) input)) accepted
  call cipher input output long room = sym (done_if _ _ _ (long, (room, tt)))

  pub kept_in_two : ((r : Record) → length (bytes r) ≡ size)
      → ((r : Record) (n : ℕ) → read (bytes (moved r n)) ≡ moved r n)
      → ((r : Record) (n m : ℕ) → moved (moved r n) m ≡ moved r (n + m))
      → ((r : Record) (n : ℕ) → stream (moved r n) ≡ from n (stream r))
      → KeptInTwo size encipher
  kept_in_two sized back on goes cipher xs ys output long room =
      let r : Record = read cipher in
      let n : ℕ = length xs in
      let halves = enciphered_front (stream r) xs output (omega arith) in
      let gone = ap (moved r) (length-append xs ys) ∙ sym (on r n (length ys)) in
      rw (
        call cipher xs output long (omega arith),
        halves.0,
        halves.1,
        call (bytes (moved r n)) ys (drop n output) (sized (moved r n)) (simp length-drop (omega arith)),
        call cipher (xs ++ ys) output long (simp length-append (omega arith)),
        back r n,
        goes r n,
      )
      (λ i. ciphered (bytes (gone i)) (enciphered_cut (stream r) xs ys output room i) accepted)

  -- The two returns behind the length's, by what the cipher's own call came to from the record that the bytes are.
  module _ {Answer : Type 0} (answer : ℕ → Record → Answer) (number : Answer → ℕ) (next : Answer → Record)
      (so : (n : ℕ) (r : Record) → number (answer n r) ≡ n) (kept : (n : ℕ) (r : Record) → next (answer n r) ≡ r)
      (cipher input output : List ℕ)
      {own : Outcome Answer ℕ}
      {r : Record}
      (e : own ≡ enciphers_by answer stream moved r input output) (i : r ≡ read cipher) (long : length cipher ≡ size) where
    settles : own ≡ enciphers_by answer stream moved (read cipher) input output
    settles = e ∙ ap (λ (q : Record). enciphers_by answer stream moved q input output) i

    fine : number (answer accepted (moved (read cipher) (length input))) ≡ accepted
    fine = so accepted (moved (read cipher) (length input))

    pub kept_refused : number own.answer ≢ accepted
        → ciphered cipher own.buffer (number own.answer) ≡ encipher cipher input output
    kept_refused h =
        ap (λ (o : Outcome Answer ℕ). ciphered cipher o.buffer (number own.answer))
        (answer_left _ _ _ (λ o. number o.answer) fine (λ n. so n (read cipher)) settles h)
        ∙ settled_left _ _ _ (number own.answer) h
        (answer_number _ _ _ (λ o. number o.answer) fine (λ n. so n (read cipher)) settles ∙ rule_passes _ _ long)

    pub kept_done : ((r : Record) → length (bytes r) ≡ size) → number own.answer ≡ accepted → {after : List ℕ}
        → after ≡ put cipher 0 (bytes (next own.answer))
        → ciphered after own.buffer accepted ≡ encipher cipher input output
    kept_done sized z s =
        ap (λ (l : List ℕ). ciphered l own.buffer accepted)
        (s ∙ put_whole cipher (bytes (next own.answer)) (sized (next own.answer) ∙ sym long))
        ∙ ap (λ (o : Outcome Answer ℕ). ciphered (bytes (next o.answer)) o.buffer accepted)
        (answer_done _ _ _ (λ o. number o.answer) fine (λ n. so n (read cipher)) settles z)
        ∙ ap (λ (q : Record). ciphered (bytes q) (placed output 0 (enciphered (stream (read cipher)) input)) accepted)
        (kept accepted (moved (read cipher) (length input)))
        ∙ settled_done _ _ _
        (sym z ∙ answer_number _ _ _ (λ o. number o.answer) fine (λ n. so n (read cipher)) settles
        ∙ rule_passes _ _ long)
