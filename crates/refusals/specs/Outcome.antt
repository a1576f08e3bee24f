-- What a call with one lent buffer comes to: its answer, and what the buffer holds afterwards.
-- Every promise of a public call is an equation, "the outcome is what DEFINITION says of the inputs".
use Rattle.std.specs.Prelude.{List}

pub record Outcome (A B : Type 0) : Type 0 where
  pub answer : A
  pub buffer : List B

abbrev pub outcome : {A B : Type 0} → A → List B → Outcome A B
outcome a b = record { answer = a; buffer = b }
