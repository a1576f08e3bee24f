-- The first broken rule decides, and with none broken every count stands where the rules say.
use Rattle.std.proofs.Common.{◌≡◌, ℕ, ◌+◌, ◌-◌, ◌*◌, take, drop, ◌≤◌, List, length, get_or, sym, ap, ◌∙◌, arith}
use Rattle.std.specs.Prelude.{Result, Ok, Err, IsErrAnd}
use Rattle.octets.specs.Digits.{number_at}
use Rattle.octets.proofs.Numbers.{number_lent}
use Rattle.refusals.specs.{Numbers.accepted, Answers.number_of, declared.Flaw.Flaw}
use Rattle.refusals.specs.Rules.{Verdict, Fault, first, lacking, verdict_of, verdict, settled}
use Rattle.refusals.proofs.{Answers.never_accepted, Settled.settled_done, Settled.settled_left}
use Rattle.pack.specs.{Answers.Opened, Answers.opening_of, Calls.refused_opening, Calls.surveying}
use Rattle.pack.specs.declared.Opened as code
use Rattle.pack.specs.Ciphers.{cipher_in}
use Rattle.pack.specs.Faults.{faults_from_samples, faults_from_key, file_faults}
use Rattle.pack.specs.Places.{byte_at, name_count, key_place, value_place, sample_place, sample_count, loop_place}
use Rattle.pack.proofs.Theorems.{file_right}
use Rattle.surveyor.proofs.survey.Goals as goal

-- a flaw of the rules is the answer
refused : (faults : List Fault) (done : Opened) (r : Result code.Opened Flaw) (flaw : Flaw)
    → IsErrAnd r (λ y. y ≡ flaw) → number_of flaw.refusal ≡ first faults → flaw.lacks ≡ lacking faults
    → opening_of r ≡ settled faults done (refused_opening (lacking faults))
refused faults done (Ok a) flaw e n l = absurd e
refused faults done (Err y) flaw e n l =
    ap (λ (f : Flaw). opening_of (Err f)) e
    ∙ ap (λ (lacks : ℕ). refused_opening lacks (number_of flaw.refusal)) l
    ∙ settled_left faults done _ _ (never_accepted flaw.refusal) n

pub returns-in_err-file_fault : goal.returns-in_err-file_fault
unfolding surveying
returns-in_err-file_fault c =
    let told = c.in_err-file_fault.ensures in
    refused _ _ c.from_residual.result _ c.from_residual.ensures.1 (ap (λ (w : Verdict). w.number) told)
    (omega (arith, ap (λ (w : Verdict). w.lacks) told))

-- what a file that passed has shown
module _ (f : List ℕ) (passed : verdict_of accepted 0 ≡ verdict (file_faults (cipher_in f) f)) where
  found : accepted ≡ first (file_faults (cipher_in f) f)
  found = ap (λ (v : Verdict). v.number) passed

  known : (1 ≤ length f) × (name_count f ≤ 32)
      × (key_place f + 1 + byte_at f (key_place f) ≡ sample_place (cipher_in f) f)
      × (sample_place (cipher_in f) f + 4 ≤ length f) × (sample_count (cipher_in f) f ≤ 16384)
      × (loop_place (cipher_in f) f + 1 ≤ length f)
  unfolding file_faults faults_from_key faults_from_samples
  known = let right = file_right (cipher_in f) f (sym found) in omega arith

  abbrev at : ℕ
  at = key_place f + 1 + byte_at f (key_place f)

  -- the sample count, which is lent by itself
  counted : {n : ℕ} → n ≡ number_at (take (at + 4 - at) (drop at f)) 0 4 → n ≡ sample_count (cipher_in f) f
  counted e = e ∙ number_lent f at 4 ∙ ap (λ (k : ℕ). number_at f k 4) known.2

pub bounds-file-0 : goal.bounds-file-0
bounds-file-0 c = omega (arith, known c.args.file.now c.in_ok-file_fault.ensures)

pub bounds-file-key_at : goal.bounds-file-key_at
bounds-file-key_at c = omega (arith, known c.args.file.now c.in_ok-file_fault.ensures)

pub slice_bounds-four_at-end : goal.slice_bounds-four_at-end
slice_bounds-four_at-end c = omega (arith, known c.args.file.now c.in_ok-file_fault.ensures)

pub bounds-file-loop_at : goal.bounds-file-loop_at
bounds-file-loop_at c =
    let f = c.args.file.now in
    let passed = c.in_ok-file_fault.ensures in
    omega (arith, known f passed, counted f passed c.four_at-samples.ensures)

pub returns : goal.returns
unfolding surveying
returns c =
    let f = c.args.file.now in
    let passed = c.in_ok-file_fault.ensures in
    let samples = counted f passed c.four_at-samples.ensures in
    (λ i.
    record {
      refusal = accepted;
      lacks = 0;
      samples = samples i;
      key = get_or f (key_place f + 1) 0;
      loops = get_or f ((known f passed).2 i + 4 + 2 * samples i) 0;
      name_length = name_count f;
      name_at = 1;
      value_at = value_place f;
      loops_at = (known f passed).2 i + 4 + 2 * samples i + 1;
    })
    ∙ settled_done _ _ _ (found f passed)
