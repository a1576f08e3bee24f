-- How a maker on bytes comes to its promise: the maker's number decides, and with 0 the room. One law for each of its
-- three returns.
use mathlib.Core.{Path.◌≡◌, Path.sym, Path.ap, Path.◌∙◌, List.List, List.[], List.◌∷◌, List.◌++◌, Logic.◌≢◌}
use Prim.Native.Nat.{ℕ, ◌<◌, ◌≤◌}
use native.Mathlib.Omega.{arith}
use lib.{Dec.T, ListN.length}
use Rattle.octets.specs.Buffers.{put}
use Rattle.octets.proofs.Buffers.{put_placed}
use Rattle.refusals.specs.{Numbers.accepted, Numbers.no_room, Outcome.outcome}
use Rattle.refusals.specs.Rules.{Fault, ◌under◌, ◌says◌, AllRight, first, settled}
use Rattle.refusals.proofs.Faults.{numbered, none_wrong, all_right, refused_at}
use Rattle.refusals.proofs.Settled.{settled_done, settled_left, answer_number, answer_done, first_here, first_later}
use Rattle.record_bytes.specs.Making.{made_of}

-- the last rule
abbrev room : List ℕ → ℕ → List Fault
room buffer size = (length buffer under size says no_room) ∷ []

-- `bytes` are those of the record in an answer; the maker's answer is what its rules settle
module _ {A : Type 0} (faults : List Fault) (done : A) (left : ℕ → A) (number : A → ℕ) (bytes : A → List ℕ)
    (buffer : List ℕ)
    (size : ℕ) (numbers : T (numbered faults)) (fine : number done ≡ accepted) (so : (n : ℕ) → number (left n) ≡ n)
    {answer : A}
    (e : answer ≡ settled faults done left) where
  pub made_refused : number answer ≢ accepted → outcome (number answer) buffer ≡ made_of faults size (bytes done) buffer
  made_refused h =
      settled_left _ _ _ (number answer) h
      (first_here faults _ numbers _ h (answer_number faults done left number fine so e))

  module _ (z : number answer ≡ accepted) where
    none : accepted ≡ first faults
    none = sym z ∙ answer_number faults done left number fine so e

    passed : first (room buffer size) ≡ first (faults ++ room buffer size)
    passed = first_later faults _ numbers none

    pub made_short : length buffer < size → outcome no_room buffer ≡ made_of faults size (bytes done) buffer
    made_short short = settled_left _ _ _ no_room (omega arith) (refused_at 0 (room buffer size) short ∙ passed)

    pub made_stored : size ≤ length buffer → (AllRight faults → length (bytes done) ≡ size) → {after : List ℕ}
        → after ≡ put buffer 0 (bytes answer) → outcome accepted after ≡ made_of faults size (bytes done) buffer
    made_stored fits long {after} s =
        let exact : length (bytes done) ≡ size = long (none_wrong faults numbers (sym none)) in
        ap (outcome accepted)
        (s ∙ ap (λ (a : A). put buffer 0 (bytes a)) (answer_done faults done left number fine so e z)
        ∙ put_placed buffer 0 (bytes done) (omega arith))
        ∙ settled_done _ _ _ (all_right (room buffer size) (fits, tt) ∙ passed)
