-- The order of the refusals: what one who has keys is told of a file, and behind it the rules of its frames.
use mathlib.Core.{Path.◌≡◌, Path.refl, Path.sym, Path.ap, Path.◌∙◌, Bool.Bool, Bool.true, Bool.false}
use mathlib.Core.List.{List, ◌++◌}
use Prim.Native.Nat.{ℕ}
use borrow.Author.Tests.{eqb-true, eqb-false}
use lib.{Dec.T, Dec.eqb}
use Rattle.std.specs.Prelude.{Result, Ok, Err, IsOk, IsErrAnd, MatchResult}
use Rattle.std.specs.Result.{result_and}
use Rattle.octets.specs.Stream.{Cipher}
use Rattle.refusals.specs.{Numbers.accepted, Rules.AllRight, Rules.◌unlike◌, Rules.Fault, Rules.◌says◌, Rules.first}
use Rattle.refusals.specs.Rules.{Verdict, verdict_of}
use Rattle.refusals.specs.{Answers.number_of, Answers.verdict_in, declared.Flaw.Flaw}
use Rattle.refusals.proofs.Faults.{numbered, refused_at, rule_passes, all_right, none_wrong, right_both, verdict_right}
use Rattle.refusals.proofs.{Answers.never_accepted, Settled.settled_done, Settled.by_settled}
use Rattle.refusals.proofs.Settled.{first_here, first_later}
use Rattle.pack.specs.Answers.{Opened, opening_of}
use Rattle.pack.specs.declared.Opened as code
use Rattle.pack.specs.Calls.{refused_opening, accepted_opening, lacks_of, inspecting, inspecting_file}
use Rattle.pack.specs.{Ciphers.cipher_in, Ciphers.ring_in, declared.Rings.Rings, Places.sample_count}
use Rattle.pack.specs.Faults.{faults_from_samples, faults_from_key, file_faults, keyed_faults}
use Rattle.pack.proofs.Theorems.{keyed_numbered, keyed_shown, inspect_refusal}
use Rattle.stereo_bodies.specs.Reading.{frames_faults}
use Rattle.stereo_opener.specs.Calls.{after_keyed, stereo_faults}

-- no rule has the number of a call that isn't refused
pub numbered_stereo : (cipher : Cipher) (ring : List (List ℕ)) (file : List ℕ) (room : ℕ)
    → T (numbered (stereo_faults cipher ring file room))
unfolding stereo_faults keyed_faults file_faults faults_from_key faults_from_samples
numbered_stereo cipher ring file room = tt

-- `k` is the number that was told, and `m` the count; of a refused file it may be any
pub after_keyed_lem : (keyed : List Fault) → T (numbered keyed) → (n room : ℕ) {k m : ℕ} → k ≡ first keyed
    → (k ≡ accepted → m ≡ n)
    → first (after_keyed k m room) ≡ first (keyed ++ frames_faults n room)
after_keyed_lem keyed numbers n room {k} {m} found counted = go (eqb k accepted) refl
  where
    go : (b : Bool) → eqb k accepted ≡ b → first (after_keyed k m room) ≡ first (keyed ++ frames_faults n room)
    go true e =
        let none = eqb-true k accepted e in
        sym (rule_passes (k unlike accepted says k) (frames_faults m room) none)
        ∙ ap (λ (x : ℕ). first (frames_faults x room)) (counted none)
        ∙ first_later keyed (frames_faults n room) numbers (sym none ∙ found)
    go false e =
        let some = eqb-false k accepted e in
        sym (refused_at 0 (after_keyed k m room) some) ∙ first_here keyed (frames_faults n room) numbers k some found

-- a flaw that was told comes first, and is passed on as it is
pub told_first : (keyed : Result Unit Flaw) (samples room : ℕ) {flaw : Flaw} → keyed ≡ Err flaw
    → first (after_keyed (verdict_in keyed).number samples room) ≡ (verdict_in keyed).number
told_first keyed samples room {flaw} is =
    ap (λ (k : Result Unit Flaw). first (after_keyed (verdict_in k).number samples room)) is
    ∙ sym (refused_at 0 (after_keyed (number_of flaw.refusal) samples room) (never_accepted flaw.refusal))
    ∙ ap (λ (k : Result Unit Flaw). (verdict_in k).number) (sym is)

pub told_same : (keyed r : Result Unit Flaw) {flaw : Flaw} → keyed ≡ Err flaw → IsErrAnd r (λ y. y ≡ flaw)
    → verdict_in r ≡ verdict_in keyed
told_same keyed (Ok a) is e = absurd e
told_same keyed (Err y) is e = ap (λ (f : Flaw). verdict_of (number_of f.refusal) f.lacks) e ∙ ap verdict_in (sym is)

-- ---- what is told of a file to one who has keys, and what is made of it for `frames_fault`

-- the samples that are counted, none of a refused file
pub counted_told : (told : Result code.Opened Flaw) {samples : ℕ}
    → MatchResult told (λ o. samples ≡ o.samples) (λ _. samples ≡ 0) → samples ≡ (opening_of told).samples
counted_told (Ok opened) e = e
counted_told (Err flaw) e = e

-- and what it says of the rules
pub verdict_told : (told : Result code.Opened Flaw) {keyed : Result Unit Flaw} → keyed ≡ result_and told (Ok tt)
    → verdict_in keyed ≡ verdict_of (opening_of told).refusal (opening_of told).lacks
verdict_told (Ok opened) e = ap verdict_in e
verdict_told (Err flaw) e = ap verdict_in e

is_told : (told : Result code.Opened Flaw) → (opening_of told).refusal ≡ accepted → IsOk told
is_told (Ok opened) e = refl
is_told (Err flaw) e = absurd (never_accepted flaw.refusal e)

module _ (r : Rings) (file : List ℕ) (room : ℕ) (told : Result code.Opened Flaw)
    (inspected : opening_of told ≡ inspecting_file r file) where
  abbrev keyed : List Fault
  keyed = keyed_faults (cipher_in file) (ring_in r file) file

  abbrev later : List Fault
  later = frames_faults (sample_count (cipher_in file) file) room

  abbrev all : List Fault
  all = stereo_faults (cipher_in file) (ring_in r file) file room

  found : (opening_of told).refusal ≡ first keyed
  found = ap (λ (o : Opened). o.refusal) inspected ∙ inspect_refusal (cipher_in file) (ring_in r file) file

  counts : (opening_of told).refusal ≡ accepted → (opening_of told).samples ≡ sample_count (cipher_in file) file
  unfolding inspecting
  counts none =
      ap (λ (o : Opened). o.samples)
      (inspected
      ∙ sym (settled_done keyed (accepted_opening (cipher_in file) file) (refused_opening (lacks_of (cipher_in file) file))
      (sym none ∙ found)))

  -- what is lacking is told of any file
  pub lacks_told : (opening_of told).lacks ≡ lacks_of (cipher_in file) file
  unfolding inspecting
  lacks_told =
      ap (λ (o : Opened). o.lacks) inspected
      ∙ by_settled keyed (accepted_opening (cipher_in file) file) (refused_opening (lacks_of (cipher_in file) file))
      (λ (o : Opened). o.lacks ≡ lacks_of (cipher_in file) file)
      (λ e.
      ap (λ (v : Verdict). v.lacks)
      (verdict_right _
      (keyed_shown (cipher_in file) (ring_in r file) file
      (none_wrong keyed (keyed_numbered (cipher_in file) (ring_in r file) file) e)).0))
      (λ n e no. refl)

  -- what is found behind it is what all rules come to; `k` is the number that was told, and `m` the count
  pub decides : {n k m : ℕ} → n ≡ first (after_keyed k m room) → k ≡ (opening_of told).refusal
      → m ≡ (opening_of told).samples → n ≡ first all
  unfolding stereo_faults
  decides e same counted =
      e
      ∙ after_keyed_lem keyed (keyed_numbered (cipher_in file) (ring_in r file) file) (sample_count (cipher_in file) file) room
      (same ∙ found) (λ none. counted ∙ counts (sym same ∙ none))

  -- and with none broken there is an answer to open by
  pub unbroken : accepted ≡ first all → AllRight keyed × AllRight later
  unfolding stereo_faults
  unbroken e =
      right_both keyed later
      (none_wrong (keyed ++ later) (numbered_stereo (cipher_in file) (ring_in r file) file room) (sym e))

  pub opens : accepted ≡ first all → IsOk told
  opens e = is_told told (found ∙ sym (all_right keyed (unbroken e).0))
