-- What enciphering comes to, whatever the cipher. With room a call is what its definition says of it, and the rest are
-- the laws of bytes under any keystream, by two laws that the cipher owes: a record that is moved on twice is moved on
-- by both, and its keystream goes on from there.
use mathlib.Core.{Path.◌≡◌, Path.refl, Path.sym, Path.ap, Path.◌∙◌, List.List, List.◌++◌}
use Prim.Native.Nat.{ℕ, ◌+◌, ◌≤◌}
use native.Mathlib.Omega.{arith}
use lib.ListN.{length, take, drop, length-append, length-drop}
use Rattle.octets.specs.{Buffers.slice, Buffers.placed, Buffers.put, Stream.Keystream, Stream.from, Stream.enciphered}
use Rattle.octets.proofs.Buffers.{put_placed, take_placed}
use Rattle.octets.proofs.Streams.{length_enciphered, enciphered_twice, enciphered_front, enciphered_cut, in_place}
use Rattle.refusals.specs.{Numbers.accepted, Outcome.Outcome, Outcome.outcome, Rules.Leaves, Rules.settled}
use Rattle.refusals.proofs.Settled.{done_if, settled_leaves, settled_map, answer_done}
use Rattle.ciphers.specs.Calls.{encipher_faults, enciphers_by, TakenInTwo, GivesBack}

module _ {Record Answer : Type 0} (answer : ℕ → Record → Answer) (stream : Record → Keystream)
    (moved : Record → ℕ → Record) where
  abbrev encipher : Record → List ℕ → List ℕ → Outcome Answer ℕ
  encipher = enciphers_by answer stream moved

  abbrev done : Record → List ℕ → List ℕ → Outcome Answer ℕ
  done r input output =
      outcome (answer accepted (moved r (length input))) (placed output 0 (enciphered (stream r) input))

  -- with room the call isn't refused
  pub enciphers : (r : Record) (input output : List ℕ) → length input ≤ length output
      → encipher r input output ≡ done r input output
  enciphers r input output room = sym (done_if _ _ _ (room, tt))

  -- and what it was asked for stands at the output's front
  pub enciphered_there : (r : Record) (input output : List ℕ) (n : ℕ) → length input ≡ n → n ≤ length output
      → take n (encipher r input output).buffer ≡ enciphered (stream r) input
  enciphered_there r input output n long room =
      ap (λ (o : Outcome Answer ℕ). take n o.buffer) (enciphers r input output (omega arith))
      ∙ ap (λ (m : ℕ). take m (placed output 0 (enciphered (stream r) input))) (sym long)
      ∙ (enciphered_front (stream r) input output (omega arith)).0

  module _ (number : Answer → ℕ) (so : (n : ℕ) (r : Record) → number (answer n r) ≡ n) (r : Record)
      (input output : List ℕ) where
    -- and with 0 it wasn't
    pub unrefused : number (encipher r input output).answer ≡ accepted → encipher r input output ≡ done r input output
    unrefused z =
        answer_done _ _ _ (λ o. number o.answer) (so accepted (moved r (length input))) (λ n. so n r) refl z

    -- a refused call leaves everything as given
    pub enciphering_leaves : Leaves (λ o. number o.answer) (λ n. outcome (answer n r) output)
        (encipher r input output)
    enciphering_leaves =
        settled_leaves _ _ _ (λ o. number o.answer) (so accepted (moved r (length input))) (λ n. so n r)

  -- Two records are the same to a call if they have the same keystream ahead and are moved on to the same record.
  module _ (number : Answer → ℕ) (so : (n : ℕ) (r : Record) → number (answer n r) ≡ n) (r q : Record)
      (input output : List ℕ) where
    numbered : (r : Record)
        → number (encipher r input output).answer ≡ settled (encipher_faults input output) accepted (λ n. n)
    numbered r =
        settled_map (λ (o : Outcome Answer ℕ). number o.answer) (encipher_faults input output) _ _
        ∙ (λ i. settled (encipher_faults input output) (so accepted (moved r (length input)) i) (λ n. so n r i))

    -- whether it is refused is the same for all
    pub same_number : number (encipher r input output).answer ≡ number (encipher q input output).answer
    same_number = numbered r ∙ sym (numbered q)

    module _ (ahead : stream r ≡ stream q) where
      pub same_buffer : (encipher r input output).buffer ≡ (encipher q input output).buffer
      same_buffer =
          settled_map (λ (o : Outcome Answer ℕ). o.buffer) (encipher_faults input output) _ _
          ∙ ap (λ (k : Keystream). settled (encipher_faults input output) (placed output 0 (enciphered k input))
          (λ n. output)) ahead
          ∙ sym (settled_map (λ (o : Outcome Answer ℕ). o.buffer) (encipher_faults input output) _ _)

      pub same_enciphered : moved r (length input) ≡ moved q (length input)
          → number (encipher r input output).answer ≡ accepted → encipher r input output ≡ encipher q input output
      same_enciphered on z =
          unrefused number so r input output z
          ∙ (λ i. outcome (answer accepted (on i)) (placed output 0 (enciphered (ahead i) input)))
          ∙ sym (unrefused number so q input output (sym same_number ∙ z))

  -- Bytes enciphered where they stand: the record behind them has the keystream from there on.
  pub covers : ((r : Record) (n : ℕ) → stream (moved r n) ≡ from n (stream r)) → (r : Record) (bytes : List ℕ)
      {next : Record} {after : List ℕ} → outcome next after ≡ outcome (moved r (length bytes)) (enciphered (stream r) bytes)
      → (stream next ≡ from (length bytes) (stream r)) × (after ≡ enciphered (stream r) bytes)
  covers goes r bytes e = (
    ap (λ (o : Outcome Record ℕ). stream o.answer) e ∙ goes r (length bytes),
    ap (λ (o : Outcome Record ℕ). o.buffer) e,
  )

  -- What was copied to an output's front, enciphered there; `n` is what the code says of its length.
  pub in_front : (r : Record) (input d left : List ℕ) (n : ℕ) {part : List ℕ} {next : Record} → left ≡ put d 0 input
      → length input ≡ n → n ≤ length d
      → outcome next part ≡ outcome (moved r (length (slice left 0 n))) (enciphered (stream r) (slice left 0 n))
      → outcome (answer accepted next) (part ++ drop n left) ≡ encipher r input d
  in_front r input d left n copied long room covered =
      let k : Keystream = stream r in
      let all : slice left 0 n ≡ input =
      ap (take n) (copied ∙ put_placed d 0 input (omega arith)) ∙ ap (λ (m : ℕ). take m (placed d 0 input)) (sym long)
      ∙ take_placed d input (omega arith) in
      let so = covered ∙ ap (λ (l : List ℕ). outcome (moved r (length l)) (enciphered k l)) all in
      ap (λ (o : Outcome Record ℕ). outcome (answer accepted o.answer) (o.buffer ++ drop n left)) so
      ∙ ap (outcome (answer accepted (moved r (length input))))
      (ap (λ (l : List ℕ). enciphered k l ++ drop n left) (sym all)
      ∙ in_place k d input left 0 n copied long (omega arith)
      ∙ put_placed d 0 (enciphered k input) (omega (arith, length_enciphered k input)))
      ∙ sym (enciphers r input d (omega arith))

  pub in_two : (next : Answer → Record) → ((n : ℕ) (r : Record) → next (answer n r) ≡ r)
      → ((r : Record) (n m : ℕ) → moved (moved r n) m ≡ moved r (n + m))
      → ((r : Record) (n : ℕ) → stream (moved r n) ≡ from n (stream r))
      → TakenInTwo next encipher
  in_two next kept on goes r xs ys output room =
      let n : ℕ = length xs in
      let halves = enciphered_front (stream r) xs output (omega arith) in
      let gone = ap (moved r) (length-append xs ys) ∙ sym (on r n (length ys)) in
      rw (
        enciphers r xs output (omega arith),
        kept accepted (moved r n),
        halves.0,
        halves.1,
        enciphers (moved r n) ys (drop n output) (simp length-drop (omega arith)),
        enciphers r (xs ++ ys) output (simp length-append (omega arith)),
        goes r n,
      )
      (λ i. outcome (answer accepted (gone i)) (enciphered_cut (stream r) xs ys output room i))

  pub back : GivesBack encipher
  back r input output other ho hr =
      let k : Keystream = stream r in
      let there : List ℕ = enciphered k input in
      let long : length there ≡ length input = length_enciphered k input in
      let sent = (enciphered_front k input output ho).0 in
      rw (enciphers r input output ho, sent, enciphers r there other (omega arith), ← long)
      ((enciphered_front k there other (omega arith)).0 ∙ enciphered_twice k input)
