-- What a loop over the chunks of a body keeps, whatever two bytes make: the first `at` bytes are read, the keystream has
-- gone as far, and the rest of the body is ahead.
use Rattle.std.proofs.Common.{arith, ◌≡◌, ℕ, ◌+◌, ◌-◌, ◌/◌, ◌%◌, ◌<◌, ◌≤◌, min, List, ◌++◌, length, take, drop, refl, sym, ap, ◌∙◌, length-append, length-drop}
use lib.Seq.{take_at, drop_at, drop-drop}
use Rattle.octets.specs.{Buffers.slice, Buffers.placed, Buffers.put, Stream.Keystream, Stream.from, Stream.enciphered}
use Rattle.octets.proofs.Streams.{from_zero}
use Rattle.samples.specs.Words.{by_twos}
use Rattle.samples.proofs.Bodies.{read, nothing_read, further, part_read, all_read}

module _ {A : Type 0} (make : ℕ → ℕ → A) (k : Keystream) (body : List ℕ) (output : List A) where
  pub record SoFar (at : ℕ) (rest : List ℕ) (here : Keystream) (left : List A) : Type 0 where
    pub within : at ≤ length body
    pub behind : rest ≡ drop at body
    pub whole : 0 < length rest → at % 1024 ≡ 0
    pub gone : here ≡ from at k
    pub done : left ≡ read make k body output at

  pub nothing_so_far : (rest : List ℕ) → rest ≡ body → SoFar 0 rest k output
  nothing_so_far rest all =
      record {
        within = omega arith;
        behind = all;
        whole = λ h. refl;
        gone = sym (from_zero k);
        done = nothing_read make k body output;
      }

  -- the chunk `bytes`, with `rest` behind it, stands where the first `at` bytes end
  pub chunk_at : {at : ℕ} {before : List ℕ} {here : Keystream} {left : List A} (bytes rest : List ℕ)
      → SoFar at before here left → before ≡ bytes ++ rest → slice body at (length bytes) ≡ bytes
  chunk_at bytes rest so cut =
      ap (take (length bytes)) (sym so.behind ∙ cut) ∙ take_at bytes rest (length bytes) refl

  -- One chunk more, `bytes`, with `rest` behind it. It is read to the part of the output from its place on.
  pub one_more : {at : ℕ} {before : List ℕ} {here : Keystream} {left : List A} (bytes rest : List ℕ) {next : Keystream}
      {part : List A} → SoFar at before here left → length body / 2 ≤ length output → length left ≡ length output
      → before ≡ bytes ++ rest → length bytes ≡ min 1024 (length before) → 0 < length before
      → next ≡ from (length bytes) here
      → part ≡ put (slice left (at / 2) (length left - at / 2)) 0 (by_twos make (enciphered here bytes))
      → SoFar (at + length bytes) rest next
      (take (at / 2) left ++ (part ++ drop (length left - at / 2) (drop (at / 2) left)))
  one_more {at} {before} {here} {left} bytes rest so room same cut long some goes reads =
      let size : ℕ = length bytes in
      let whole : at % 1024 ≡ 0 = so.whole some in
      let parts = sym so.behind ∙ cut in
      let both : length before ≡ size + length rest = ap length cut ∙ length-append bytes rest in
      let ahead : length before ≡ length body - at = ap length so.behind ∙ length-drop at body in
      let these : slice body at size ≡ bytes = ap (take size) parts ∙ take_at bytes rest size refl in
      let placed = part_read make left (at / 2) here bytes reads refl (omega (arith, so.within)) in
      let on = further make k body output left at size (omega arith) (omega (arith, so.within)) room so.gone so.done goes
      (placed ∙ ap (λ (b : List ℕ). put left (at / 2) (by_twos make (enciphered here b))) (sym these)) in
      record {
        within = omega (arith, so.within);
        behind = sym (drop_at bytes rest size refl) ∙ ap (drop size) (sym parts) ∙ drop-drop size at body;
        whole = λ h. omega arith;
        gone = on.0;
        done = on.1;
      }

  -- no chunk is left
  pub all_so_far : {at : ℕ} {rest : List ℕ} {here : Keystream} {left : List A} → SoFar at rest here left
      → length rest ≡ 0 → length body / 2 ≤ length output
      → (here ≡ from (length body) k) × (left ≡ placed output 0 (by_twos make (enciphered k body)))
  all_so_far {at} so none room =
      let left = sym (length-drop at body) ∙ ap length (sym so.behind) ∙ none in
      let all : at ≡ length body = omega (arith, so.within) in
      (so.gone ∙ ap (λ (n : ℕ). from n k) all, so.done ∙ all_read make k body output at all room)
