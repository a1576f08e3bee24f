-- `front_in`: field by field; of names that are refused there are zeros.
use Rattle.std.proofs.Common.{◌≡◌, ◌∙◌, Result, Ok, Err, refl, ap, ap₂}
use Rattle.std.specs.Result.{result_unwrap_or}
use Rattle.octets.specs.Rows.{numbers_at}
use Rattle.refusals.specs.declared.Refusal.{Refusal}
use Rattle.names.specs.{Naming.no_key, Naming.no_pair, Naming.Named, Naming.named_in, Naming.named, declared.Names.Names}
use Rattle.record_bytes.specs.Front.{front_in}
use Rattle.record_bytes.proofs.front_in.Goals as goal

abbrev zeros : Names
zeros = record { key = no_key; pair = no_pair }

key_or : (r : Result Names Refusal) → (result_unwrap_or r zeros).key ≡ (named_in r).key
key_or (Ok names) = refl
key_or (Err refusal) = refl

pair_or : (r : Result Names Refusal) → (result_unwrap_or r zeros).pair ≡ (named_in r).pair
pair_or (Ok names) = refl
pair_or (Err refusal) = refl

pub returns : goal.returns
unfolding front_in numbers_at
returns c =
    let names = c.unwrap_or.ensures in
    let same = c.check_names-names.ensures ∙ ap₂ named c.slice.ensures c.slice-2.ensures in
    let key = ap (λ (n : Names). n.key) names ∙ key_or c.check_names-names.result ∙ ap (λ (n : Named). n.key) same in
    let pair = ap (λ (n : Names). n.pair) names ∙ pair_or c.check_names-names.result ∙ ap (λ (n : Named). n.pair) same in
    λ i. record { key = key i; pair = pair i; session = c.four_at.ensures i; length = c.four_at-2.ensures i }
