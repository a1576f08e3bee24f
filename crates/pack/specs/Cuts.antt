-- What a file that breaks off is told: in which section, and how many bytes are missing there.
use Rattle.std.specs.Prelude.{ℕ, ◌+◌, ◌-◌, ◌<◌, ◌≤◌}
use mathlib.Core.{Bool.cond, List.List, List.[], List.◌∷◌, List.◌++◌, Logic.◌≢◌, Logic.◌⊎◌, Path.◌≡◌}
use lib.{Dec.ltb, IntN.ℤ, ListN.length, ListN.take}
use Rattle.octets.specs.Stream.{Cipher}
use Rattle.refusals.specs.Numbers.{accepted, cut_in_name, cut_in_key, cut_in_samples, cut_in_loops, bad_tag_section}
use Rattle.refusals.specs.{Outcome.outcome, Rules.verdict_of, Rules.reason, Rules.Verdict}
use Rattle.pack.specs.{Calls.refused_opening, Calls.surveying, Calls.opening_pack, Answers.Opened}
use Rattle.pack.specs.Faults.{file_faults}
use Rattle.pack.specs.{Layout.tag_count, Places.key_place, Places.sample_place, Places.body_place}
use Rattle.pack.specs.Places.{loop_place, loops_place, tag_place, tag_end}

-- a section of a file: the number for a file that ends inside it, where its count ends, and where it ends
pub record Section : Type 0 where
  pub number : ℕ
  pub counted : ℕ
  pub ended : ℕ

abbrev pub section : ℕ → ℕ → ℕ → Section
section number counted ended = record { number = number; counted = counted; ended = ended }

-- all of them, each beginning where the one before it ends; of a cipher without a tag the last has no bytes
abbrev pub sections : Cipher → List ℕ → List Section
sections cipher file =
    section cut_in_name 1 (key_place file)
    ∷ section cut_in_key (key_place file + 1) (sample_place cipher file)
    ∷ section cut_in_samples (body_place cipher file) (loop_place cipher file)
    ∷ section cut_in_loops (loops_place cipher file) (tag_place cipher file)
    ∷ section bad_tag_section (tag_place cipher file + tag_count cipher) (tag_end cipher (tag_place cipher file))
    ∷ []

-- A cut before byte n lies in the first section that ends behind it. What is missing is the rest of the section's
-- count or, if that is there, of the section.
unfoldable pub cut_at : ℕ → List Section → Verdict
cut_at n [] = verdict_of accepted 0
cut_at n (s ∷ more) =
    cond (ltb n s.ended)
    (verdict_of s.number (cond (ltb n s.counted) (s.counted - n) (s.ended - n)))
    (cut_at n more)

-- 30 to 33, and 45, which also says that the tag section's count is wrong
abbrev pub FourCut : ℕ → Type 0
FourCut n = (cut_in_name ≤ n) × (n ≤ cut_in_loops)

abbrev pub CutNumber : ℕ → Type 0
CutNumber n = FourCut n ⊎ (n ≡ bad_tag_section)

-- bytes are always missing with the first four, and with no number but these five
abbrev pub CutsLack : ℕ → ℕ → Type 0
CutsLack number lacks = (FourCut number → 0 < lacks) × (0 < lacks → CutNumber number)

-- what a refusal with both numbers answers
abbrev pub refused_so : Verdict → Opened
refused_so v = refused_opening v.lacks v.number

-- `pick` is the cipher that each file is read under
pub record Cuts (pick : List ℕ → Cipher) : Type 0 where
  -- 1. a file lacks some bytes if it is refused with 30 to 33, and none but with these and 45; if it lacks any, both
  -- numbers are those of the section in which it ends
  pub lacks : (file : List ℕ) → CutsLack (surveying (pick file) file).refusal (surveying (pick file) file).lacks
  pub ends : (file : List ℕ) → 0 < (surveying (pick file) file).lacks
      → surveying (pick file) file ≡ refused_so (cut_at (length file) (sections (pick file) file))
  -- 2. with fewer bytes behind it than it lacks, whatever they are, it is refused with the same number and lacks that
  -- many fewer
  pub fewer : (file more : List ℕ) → let o = surveying (pick file) file in
      length more < o.lacks
      → surveying (pick (file ++ more)) (file ++ more) ≡ refused_opening (o.lacks - length more) o.refusal
  -- 3. with as many as it lacks, or more, it is not refused for that reason: what refuses it then, if anything, is a
  -- later rule
  pub enough : (file more : List ℕ) → let o = surveying (pick file) file in
      0 < o.lacks
      → o.lacks ≤ length more
      → reason (file_faults (pick file) file) < reason (file_faults (pick (file ++ more)) (file ++ more))
  -- 4. an accepted file, cut anywhere, is refused by the section in which the cut lies
  pub cut : (file : List ℕ) (n : ℕ) → (surveying (pick file) file).refusal ≡ accepted → n < length file
      → let v = cut_at n (sections (pick file) file) in
      CutNumber v.number × (surveying (pick (take n file)) (take n file) ≡ refused_so v)
  -- 5. opening, whatever the ring and the room, answers a refused file as here, and writes nothing; it tells the same
  -- number of bytes of any file
  pub opened : (ring : List (List ℕ)) (file : List ℕ) (sound : List ℤ) → (surveying (pick file) file).refusal ≢ accepted
      → opening_pack (pick file) ring file sound ≡ outcome (surveying (pick file) file) sound
  pub opened_lacks : (ring : List (List ℕ)) (file : List ℕ) (sound : List ℤ)
      → (opening_pack (pick file) ring file sound).answer.lacks ≡ (surveying (pick file) file).lacks
