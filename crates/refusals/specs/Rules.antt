-- How a call refuses: its rules stand in a list, each with the number for no, in the order in which they are looked at.
-- The first that is broken decides; with none broken, the call does what it is for.
use Rattle.std.specs.Prelude.{ℕ, suc, ◌-◌, ◌≤◌, eqb, ltb}
use mathlib.Core.{Bool.Bool, Bool.true, Bool.not, Bool.cond, Bool.◌&&◌, List.List, List.[], List.◌∷◌, Logic.◌≢◌}
use mathlib.Core.{Path.◌≡◌}
use Rattle.refusals.specs.Numbers.{accepted}

infix 30 ◌over◌ ◌under◌ ◌unlike◌ ◌ends_before◌
infix 25 ◌given◌is◌
-- what can be wrong: a number over, under or unlike another, a run of so many bytes that ends before the place that it
-- has to reach, or a test that fails; and any of these only in the case that two numbers are the same
pub data Wrong : Type 0 where
  ◌over◌ : ℕ → ℕ → Wrong
  ◌under◌ : ℕ → ℕ → Wrong
  ◌unlike◌ : ℕ → ℕ → Wrong
  ◌ends_before◌ : ℕ → ℕ → Wrong
  unless : Bool → Wrong
  ◌given◌is◌ : Wrong → ℕ → ℕ → Wrong

-- whether it is wrong
abbrev pub broken : Wrong → Bool
broken (x over limit) = ltb limit x
broken (x under limit) = ltb x limit
broken (x unlike y) = not (eqb x y)
broken (n ends_before place) = ltb n place
broken (unless test) = not test
broken (w given x is y) = eqb x y && broken w

-- what holds where it isn't
abbrev pub Right : Wrong → Type 0
Right (x over limit) = x ≤ limit
Right (x under limit) = limit ≤ x
Right (x unlike y) = x ≡ y
Right (n ends_before place) = place ≤ n
Right (unless test) = test ≡ true
Right (w given x is y) = x ≡ y → Right w

-- how many bytes are missing: only what ends too early lacks any
abbrev pub missing : Wrong → ℕ
missing (x over limit) = 0
missing (x under limit) = 0
missing (x unlike y) = 0
missing (n ends_before place) = place - n
missing (unless test) = 0
missing (w given x is y) = missing w

-- a rule, and the number for no if it is broken
pub record Fault : Type 0 where
  pub wrong : Wrong
  pub number : ℕ

infix 20 ◌says◌
abbrev pub ◌says◌ : Wrong → ℕ → Fault
w says n = record { wrong = w; number = n }

-- no rule of the list is broken
abbrev pub AllRight : List Fault → Type 0
AllRight [] = Unit
AllRight (f ∷ faults) = Right f.wrong × AllRight faults

-- what is said of the first rule that is broken, or of a list where none is
unfoldable pub told : {A : Type 0} → (Fault → A) → A → List Fault → A
told about none [] = none
told about none (f ∷ faults) = cond (broken f.wrong) (about f) (told about none faults)

-- its number
unfoldable pub first : List Fault → ℕ
first = told (λ f. f.number) accepted

-- and how many bytes are missing there
unfoldable pub lacking : List Fault → ℕ
lacking = told (λ f. missing f.wrong) 0

-- what a file's rules come to: a number for no, and how many bytes the file lacks where it breaks off
pub record Verdict : Type 0 where
  pub number : ℕ
  pub lacks : ℕ

abbrev pub verdict_of : ℕ → ℕ → Verdict
verdict_of number lacks = record { number = number; lacks = lacks }

abbrev pub verdict : List Fault → Verdict
verdict faults = verdict_of (first faults) (lacking faults)

-- the reason for a refusal: which rule is the first that is broken, counted from 0
unfoldable pub reason : List Fault → ℕ
reason [] = 0
reason (f ∷ faults) = cond (broken f.wrong) 0 (suc (reason faults))

-- what a call comes to: what it does if no rule is broken, or else what a refusal with the first one's number leaves
unfoldable pub settled : {A : Type 0} → List Fault → A → (ℕ → A) → A
settled faults done left = cond (eqb (first faults) accepted) done (left (first faults))

-- A refused call leaves everything as given: if its outcome has a number that isn't 0, then it is what `left` says of
-- that number.
abbrev pub Leaves : {A : Type 0} → (A → ℕ) → (ℕ → A) → A → Type 0
Leaves number left outcome = number outcome ≢ accepted → outcome ≡ left (number outcome)
