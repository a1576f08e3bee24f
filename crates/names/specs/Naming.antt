-- The key and the pair name that a link end is made with.
use Rattle.std.specs.Prelude.{ℕ, Result, Ok, Err, List, [], ◌∷◌, length, replicate}
use Rattle.refusals.specs.Numbers.{accepted, bad_key, bad_value}
use Rattle.refusals.specs.Answers.{number_of}
use Rattle.refusals.specs.declared.Refusal.{Refusal}
use Rattle.refusals.specs.Rules.{Fault, ◌unlike◌, ◌says◌, settled}
use Rattle.names.specs.declared.Names.{Names}

abbrev pub key_bytes : ℕ
key_bytes = 10

abbrev pub pair_bytes : ℕ
pair_bytes = 6

-- what document 01 has the check answer: a number, 0 where it isn't refused, and the two names
pub record Named : Type 0 where
  pub refusal : ℕ
  pub key : List ℕ
  pub pair : List ℕ

-- refused, there are only zeros to give
abbrev pub no_key : List ℕ
no_key = replicate key_bytes 0

abbrev pub no_pair : List ℕ
no_pair = replicate pair_bytes 0

abbrev pub no_names : ℕ → Named
no_names number = record { refusal = number; key = no_key; pair = no_pair }

-- what the code's Ok or Err stands for
abbrev pub named_in : Result Names Refusal → Named
named_in (Ok names) = record { refusal = accepted; key = names.key; pair = names.pair }
named_in (Err refusal) = no_names (number_of refusal)

abbrev pub name_faults : List ℕ → List ℕ → List Fault
name_faults key pair = (length key unlike key_bytes says bad_key) ∷ (length pair unlike pair_bytes says bad_value) ∷ []

unfoldable pub named : List ℕ → List ℕ → Named
named key pair = settled (name_faults key pair) (record { refusal = accepted; key = key; pair = pair }) no_names
