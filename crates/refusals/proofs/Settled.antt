-- What a call with a list of rules comes to: the number that its answer has is the first broken rule's, and a refusal
-- does nothing else.
use Prim.Native.Nat.{ℕ}
use mathlib.Core.{List.List, List.◌++◌, Logic.◌≢◌, Bool.Bool, Bool.true, Bool.false, Bool.cond, Path.◌≡◌, Path.refl}
use mathlib.Core.{Path.sym, Path.ap, Path.◌∙◌}
use borrow.Author.Tests.{eqb-true, eqb-false, ne_eqb}
use lib.Dec.{T, eqb, ltb}
use Rattle.refusals.specs.Numbers.{accepted}
use Rattle.refusals.specs.Rules.{Fault, AllRight, first, settled, Leaves}
use Rattle.refusals.proofs.Faults.{all_right, numbered, FailsAt, number_at, refused_at, first_append}

-- nothing else meets a promise that is an equation: two outcomes that meet it are equal
pub only_one : {A : Type 0} {one other promised : A} → one ≡ promised → other ≡ promised → one ≡ other
only_one p q = p ∙ sym q

module _ {A : Type 0} (faults : List Fault) (done : A) (left : ℕ → A) where
  -- by the number that a fault function found
  pub settled_done : accepted ≡ first faults → done ≡ settled faults done left
  unfolding settled
  settled_done e = rw (← e)

  pub settled_left : (n : ℕ) → n ≢ accepted → n ≡ first faults → left n ≡ settled faults done left
  unfolding settled
  settled_left n h e = rw (← e, ne_eqb n accepted h)

  -- by what the tests on the way told
  pub done_if : AllRight faults → done ≡ settled faults done left
  done_if h = settled_done (all_right faults h)

  pub left_at : (k : ℕ) → T (ltb accepted (number_at k faults)) → FailsAt k faults
      → left (number_at k faults) ≡ settled faults done left
  left_at k t h = settled_left (number_at k faults) (λ z. rw z at t) (refused_at k faults h)

  -- the two ends of a call
  pub by_settled : (P : A → Type 0) → (first faults ≡ accepted → P done)
      → ((n : ℕ) → first faults ≡ n → n ≢ accepted → P (left n))
      → P (settled faults done left)
  unfolding settled
  by_settled P so other = go (eqb (first faults) accepted) refl
    where
      go : (b : Bool) → eqb (first faults) accepted ≡ b → P (cond b done (left (first faults)))
      go true e = so (eqb-true (first faults) accepted e)
      go false e = other (first faults) refl (eqb-false (first faults) accepted e)

  -- what a refusal leaves has the number that it was refused with
  module _ (number : A → ℕ) (fine : number done ≡ accepted) (so : (n : ℕ) → number (left n) ≡ n) where
    pub settled_number : number (settled faults done left) ≡ first faults
    settled_number = by_settled (λ a. number a ≡ first faults) (λ e. fine ∙ sym e) (λ n e h. so n ∙ sym e)

    pub settled_leaves : Leaves number left (settled faults done left)
    settled_leaves = by_settled (Leaves number left) (λ e h. absurd (h fine)) (λ n e h k. ap left (sym (so n)))

-- what is read off a call's outcome is settled by the same rules
pub settled_map : {A B : Type 0} (f : A → B) (faults : List Fault) (done : A) (left : ℕ → A)
    → f (settled faults done left) ≡ settled faults (f done) (λ n. f (left n))
unfolding settled
settled_map f faults done left = go (eqb (first faults) accepted)
  where
    go : (b : Bool) → f (cond b done (left (first faults))) ≡ cond b (f done) (f (left (first faults)))
    go true = refl
    go false = refl

-- What a call answers that these rules settle, seen by its caller: the number is the first broken rule's, and with 0 it
-- is done.
module _ {A : Type 0} (faults : List Fault) (done : A) (left : ℕ → A) (number : A → ℕ) (fine : number done ≡ accepted)
    (so : (n : ℕ) → number (left n) ≡ n) {answer : A} (e : answer ≡ settled faults done left) where
  pub answer_number : number answer ≡ first faults
  answer_number = ap number e ∙ settled_number faults done left number fine so

  pub answer_done : number answer ≡ accepted → answer ≡ done
  answer_done z = e ∙ sym (settled_done faults done left (sym z ∙ answer_number))

  pub answer_left : number answer ≢ accepted → answer ≡ left (number answer)
  answer_left h = e ∙ sym (settled_left faults done left (number answer) h answer_number)

  -- what another call makes of the answer: `told` of one that isn't refused, `kept` of a number
  pub over_refused : {B : Type 0} (told : A → B) (kept : ℕ → B) → number answer ≢ accepted
      → kept (number answer) ≡ settled faults (told done) kept
  over_refused told kept h = settled_left faults (told done) kept (number answer) h answer_number

  pub over_done : {B : Type 0} (told : A → B) (kept : ℕ → B) → number answer ≡ accepted
      → told answer ≡ settled faults (told done) kept
  over_done told kept z = ap told (answer_done z) ∙ settled_done faults (told done) kept (sym z ∙ answer_number)

-- in two lists the first decides, if one of its rules is broken, and else the second
module _ (xs ys : List Fault) (no : T (numbered xs)) where
  pub first_here : (n : ℕ) → n ≢ accepted → n ≡ first xs → n ≡ first (xs ++ ys)
  first_here n h e = settled_left xs (first ys) (λ m. m) n h e ∙ sym (first_append xs ys no)

  pub first_later : accepted ≡ first xs → first ys ≡ first (xs ++ ys)
  first_later e = settled_done xs (first ys) (λ m. m) e ∙ sym (first_append xs ys no)
