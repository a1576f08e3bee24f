-- What bytes make by twos under a keystream, one run behind the other: two bytes are a sample, so a run of even length
-- can be followed by another, under the keystream from there on.
use mathlib.Core.{Path.◌≡◌, Path.sym, Path.ap, Path.◌∙◌, List.List, List.◌++◌}
use Prim.Native.Nat.{ℕ, ◌+◌, ◌-◌, ◌/◌, ◌%◌, ◌≤◌}
use native.Mathlib.Omega.{arith}
use lib.{ListN.length, ListN.take, ListN.drop, Seq.length-take-le, Seq.take-add, Seq.take_all}
use Rattle.octets.specs.{Buffers.slice, Buffers.placed, Buffers.put, Stream.Keystream, Stream.from, Stream.enciphered}
use Rattle.octets.proofs.{Buffers.put_nothing, Buffers.put_part, Buffers.put_placed, Slices.length_slice}
use Rattle.octets.proofs.Streams.{length_enciphered, read_on, from_from}
use Rattle.samples.specs.Words.{by_twos}
use Rattle.samples.proofs.Words.{length_twos, twos_append}

module _ {A : Type 0} (make : ℕ → ℕ → A) where
  pub length_read : (k : Keystream) (bytes : List ℕ) → length (by_twos make (enciphered k bytes)) ≡ length bytes / 2
  length_read k bytes = length_twos make (enciphered k bytes) ∙ ap (λ (n : ℕ). n / 2) (length_enciphered k bytes)

  -- a keystream that has gone past xs goes on with ys
  pub samples_on : (k l : Keystream) (xs ys : List ℕ) (d : List A) (place : ℕ) {e : List A} {next : ℕ}
      → length xs % 2 ≡ 0
      → l ≡ from (length xs) k → e ≡ put d place (by_twos make (enciphered k xs))
      → next ≡ place + length xs / 2
      → next + length ys / 2 ≤ length d
      → put e next (by_twos make (enciphered l ys)) ≡ put d place (by_twos make (enciphered k (xs ++ ys)))
  samples_on k l xs ys d place even gone done there room =
      let front = length_read k xs in
      let behind = length_read l ys in
      read_on (by_twos make) k xs ys d place (λ us vs e. twos_append make (length xs / 2) us vs (omega arith)) gone done
      (omega arith) (omega arith)

  -- into a part of an output that is lent from `place` on; `given` is what they are made of in the code
  pub part_read : (output : List A) (place : ℕ) (k : Keystream) (bytes : List ℕ) {part : List A} {given : List ℕ}
      → part ≡ put (slice output place (length output - place)) 0 (by_twos make given)
      → given ≡ enciphered k bytes
      → place + length bytes / 2 ≤ length output
      → take place output ++ (part ++ drop (length output - place) (drop place output))
      ≡ put output place (by_twos make (enciphered k bytes))
  part_read output place k bytes e same room =
      ap (λ (ys : List A). take place output ++ (ys ++ drop (length output - place) (drop place output)))
      (e ∙ ap (λ (l : List ℕ). put (slice output place (length output - place)) 0 (by_twos make l)) same)
      ∙ put_part output place (by_twos make (enciphered k bytes)) (omega (arith, length_read k bytes))

  -- ---- a body's front of `at` bytes, read to the front of an output

  abbrev pub read : Keystream → List ℕ → List A → ℕ → List A
  read k body output at = put output 0 (by_twos make (enciphered k (take at body)))

  pub nothing_read : (k : Keystream) (body : List ℕ) (output : List A) → output ≡ read k body output 0
  unfolding enciphered by_twos
  nothing_read k body output = put_nothing output 0

  -- so many bytes further; `here` is the keystream where the reading stands, and `next` the one behind the bytes
  pub further : (k : Keystream) (body : List ℕ) (output left : List A) (at size : ℕ) {here next : Keystream}
      {more : List A}
      → at % 2 ≡ 0 → at + size ≤ length body → length body / 2 ≤ length output
      → here ≡ from at k → left ≡ read k body output at
      → next ≡ from size here → more ≡ put left (at / 2) (by_twos make (enciphered here (slice body at size)))
      → (next ≡ from (at + size) k) × (more ≡ read k body output (at + size))
  further k body output left at size {here = here} even hb ho gone done goes reads =
      let front : length (take at body) ≡ at = length-take-le at body (omega arith) in
      let behind : length (slice body at size) ≡ size = length_slice body at size hb in (
        goes ∙ ap (from size) gone ∙ from_from size at k,
        reads
            ∙ samples_on k here (take at body) (slice body at size) output 0 (omega arith)
            (gone ∙ ap (λ (n : ℕ). from n k) (sym front)) done (omega arith) (omega arith)
            ∙ ap (λ (b : List ℕ). put output 0 (by_twos make (enciphered k b))) (sym (take-add at size body)),
      )

  -- and so all of it, if that is where the reading has come to
  pub all_read : (k : Keystream) (body : List ℕ) (output : List A) (n : ℕ) → n ≡ length body
      → length body / 2 ≤ length output
      → read k body output n ≡ placed output 0 (by_twos make (enciphered k body))
  all_read k body output n whole room =
      ap (λ (b : List ℕ). put output 0 (by_twos make (enciphered k b))) (take_all n body (omega arith))
      ∙ put_placed output 0 (by_twos make (enciphered k body)) (omega (arith, length_read k body))
