-- Within the limits no rule looks further than one byte past the longest file: so no longer one is accepted, and what
-- it is refused for stands in its front.
use mathlib.Core.{Path.◌≡◌, Path.refl, Path.sym, Path.ap, Path.◌∙◌, Logic.◌≢◌}
use mathlib.Core.{Bool.Bool, Bool.true, Bool.false, List.List, List.[], List.◌∷◌, List.◌++◌}
use Prim.Native.Nat.{ℕ, zero, suc, ◌+◌, ◌*◌, ◌<◌, ◌≤◌}
use native.Mathlib.Omega.{arith}
use borrow.Author.Tests.{le-leb, leb-true, leb-false}
use lib.{Dec.leb, IntN.ℤ, IntN.pos, Seq.length-take-le, Seq.take_all}
use lib.ListN.{length, get_or, take, drop, replicate, length-append, length-replicate, take-append-drop}
use Rattle.refusals.specs.{Numbers.accepted, Outcome.outcome, Rules.AllRight, Rules.first, Rules.verdict}
use Rattle.refusals.specs.Rules.{Verdict}
use Rattle.refusals.proofs.Settled.{settled_left, first_here}
use Rattle.samples.proofs.Words.{Good}
use Rattle.triad.specs.Tag.{triad}
use Rattle.pack.specs.Calls.{refused_opening, lacks_of, surveying, inspecting, opening_pack, surveying_file}
use Rattle.pack.specs.{Calls.inspecting_file, Calls.opening_file}
use Rattle.pack.specs.Ciphers.{cipher_of, kind_in, cipher_in, ring_in}
use Rattle.pack.specs.declared.Rings.{Rings}
use Rattle.pack.specs.declared.Kind.{Kind}
use Rattle.pack.specs.Faults.{faults_from_samples, faults_from_key, file_faults, keyed_faults, open_faults}
use Rattle.pack.specs.Layout.{Parts, parts, Within, name_good, loops_good, layout}
use Rattle.pack.specs.Limits.{most_name, most_samples, longest_file}
use Rattle.pack.proofs.AcceptedFiles.{key_right, sample_right, loop_right, tag_right}
use Rattle.pack.proofs.Growing.{files_grown, parting, alike_beyond}
use Rattle.pack.proofs.{LaidFiles.length_layout, Picking.short_value, Picking.cipher_steady, Samples.all_good}
use Rattle.pack.proofs.Theorems.{keyed_numbered, file_first, file_right, survey_refusal}

-- ---- how long a file can be

-- each count is within its limit, and nothing stands behind the loops
right_at_most : (kind : Kind) (file : List ℕ) → AllRight (file_faults (cipher_of kind) file)
    → length file ≤ longest_file
unfolding file_faults faults_from_key faults_from_samples
right_at_most kind file right =
    let key = key_right (cipher_of kind) file right in
    let sample = sample_right (cipher_of kind) file right in
    let loop = loop_right (cipher_of kind) file right in
    let tag = tag_right (cipher_of kind) file right in
    omega (arith, short_value kind)

pub layout_at_most : (kind : Kind) (ring : List (List ℕ)) (p : Parts) → Within (cipher_of kind) p
    → length (layout (cipher_of kind) ring p) ≤ longest_file
layout_at_most kind ring p w = omega (arith, length_layout (cipher_of kind) ring p, short_value kind)

-- every element of a run of equal ones has what one has
equal_elements : {A : Type 0} (P : A → Type 0) (n i : ℕ) (a d : A) → P a → P d → P (get_or (replicate n a) i d)
equal_elements P zero i a d pa pd = pd
equal_elements P (suc n) zero a d pa pd = pa
equal_elements P (suc n) (suc i) a d pa pd = equal_elements P n i a d pa pd

-- a name of 32 spaces, silence, and eight times a loop of one sample
abbrev long_parts : ℕ → Parts
long_parts count =
    parts (replicate most_name 32) 0 (replicate 12 0) (replicate count (pos 0))
    (0 ∷ 1 ∷ 0 ∷ 1 ∷ 0 ∷ 1 ∷ 0 ∷ 1 ∷ 0 ∷ 1 ∷ 0 ∷ 1 ∷ 0 ∷ 1 ∷ 0 ∷ 1 ∷ [])

long_within : (count : ℕ) → 1 ≤ count → count ≤ most_samples → Within triad (long_parts count)
unfolding name_good loops_good
long_within count some most =
    let counted = length-replicate count (pos 0) in
    record {
      name_count = omega arith;
      name_bytes = refl;
      key_number = omega arith;
      value_count = refl;
      value_bytes = λ i. equal_elements (λ (x : ℕ). x < 256) 12 i 0 0 (omega arith) (omega arith);
      sample_count = omega arith;
      samples = all_good _ (λ i. equal_elements Good count i (pos 0) (pos 0) (omega arith) (omega arith));
      loop_count = omega arith;
      loops = rw (counted, le-leb 1 count some);
    }

long_length : (ring : List (List ℕ)) (count : ℕ) → length (layout triad ring (long_parts count)) ≡ 125 + 2 * count
long_length ring count = omega (arith, length_layout triad ring (long_parts count), length-replicate count (pos 0))

pub longest_reached : (ring : List (List ℕ))
    → (p : Parts) × Within triad p × (length (layout triad ring p) ≡ longest_file)
longest_reached ring = (
  long_parts most_samples,
  long_within most_samples (omega arith) (omega arith),
  long_length ring most_samples,
)

pub longer_refused : (file : List ℕ) → longest_file < length file → (surveying_file file).refusal ≢ accepted
longer_refused file long e =
    absurd
    (omega (
      arith,
      right_at_most (kind_in file) file
          (file_right (cipher_in file) file (sym (survey_refusal (cipher_in file) file) ∙ e)),
    ))

-- ---- what a longer one is refused for

abbrev said : List ℕ → Verdict
said file = verdict (file_faults (cipher_in file) file)

-- a front that is longer than the longest file comes to what the whole does
front_refused : (file : List ℕ) (n : ℕ) → longest_file < n → n ≤ length file → said (take n file) ≡ said file
front_refused file n far long =
    let front : List ℕ = take n file in
    let rest : List ℕ = drop n file in
    let whole : List ℕ = front ++ rest in
    let size : length front ≡ n = length-take-le n file long in
    (cipher_steady front rest).0
    ∙ alike_beyond _ _
    (parting (omega (arith, length-append front rest))
    (files_grown front rest (cipher_in whole) longest_file (omega (arith, short_value (kind_in whole)))))
    (omega arith)
    ∙ ap said (take-append-drop n file)

-- ---- what a caller sees

-- A call that a broken rule of the file ends at once comes to the same on the front and on the whole.
by_front : {A : Type 0} (call : List ℕ → A) (left : ℕ → ℕ → A)
    → ((file : List ℕ) (k : ℕ) → k ≢ accepted → k ≡ first (file_faults (cipher_in file) file)
    → left (lacks_of (cipher_in file) file) k ≡ call file)
    → (file : List ℕ) (n : ℕ) → longest_file < n
    → call (take n file) ≡ call file
by_front call left ends file n far = go (leb n (length file)) refl
  where
    go : (b : Bool) → leb n (length file) ≡ b → call (take n file) ≡ call file
    go true e =
        let long : n ≤ length file = leb-true n (length file) e in
        let k : ℕ = first (file_faults (cipher_in file) file) in
        let refused : k ≢ accepted = λ z. longer_refused file (omega arith) (survey_refusal (cipher_in file) file ∙ z) in
        let same = front_refused file n far long in
        sym (ends (take n file) k refused (sym (ap (λ (v : Verdict). v.number) same)))
        ∙ ap (λ (v : Verdict). left v.lacks k) same
        ∙ ends file k refused refl
    go false e = ap call (take_all n file (omega (arith, leb-false n (length file) e)))

pub front_decides : (file : List ℕ) (n : ℕ) → longest_file < n → surveying_file (take n file) ≡ surveying_file file
unfolding surveying
front_decides = by_front surveying_file refused_opening (λ file k no e. settled_left _ _ _ k no e)

pub front_inspects : (r : Rings) (file : List ℕ) (n : ℕ) → longest_file < n
    → inspecting_file r (take n file) ≡ inspecting_file r file
unfolding inspecting
front_inspects r =
    by_front (inspecting_file r) refused_opening
    (λ file k no e. settled_left _ _ _ k no (file_first (cipher_in file) (ring_in r file) file k no e))

-- so a program that reads one byte more than the longest file opens as if it had read all
pub front_opens : (r : Rings) (sound : List ℤ) (file : List ℕ) (n : ℕ) → longest_file < n
    → opening_file r (take n file) sound ≡ opening_file r file sound
unfolding opening_pack open_faults
front_opens r sound =
    by_front (λ (file : List ℕ). opening_file r file sound) (λ l k. outcome (refused_opening l k) sound)
    (λ file k no e.
    settled_left _ _ _ k no
    (first_here (keyed_faults (cipher_in file) (ring_in r file) file) _
    (keyed_numbered (cipher_in file) (ring_in r file) file) k no
    (file_first (cipher_in file) (ring_in r file) file k no e)))
