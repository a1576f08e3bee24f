-- What a file that breaks off is told is what is missing: from the file with more bytes behind it, it parts where it
-- breaks off; and a front of an accepted file lacks only what it is asked to have.
use mathlib.Core.{Path.◌≡◌, Path.refl, Path.sym, Path.ap, Path.ap₂, Path.subst, Path.◌∙◌, Logic.◌≢◌}
use mathlib.Core.Logic.{inl, inr, ⊎_elim}
use mathlib.Core.{Bool.Bool, Bool.true, Bool.false, Bool.cond, List.List, List.[], List.◌∷◌, List.◌++◌}
use mathlib.Core.List.{append-nil}
use Prim.Native.Nat.{ℕ, ◌+◌, ◌-◌, ◌<◌, ◌≤◌}
use native.Mathlib.Omega.{arith}
use borrow.Author.Tests.{ltb-true, ltb-false}
use lib.{Dec.ltb, IntN.ℤ, Seq.length-take-le}
use lib.ListN.{length, take, drop, length-append, take-append-drop}
use Rattle.octets.specs.Stream.{Cipher}
use Rattle.refusals.specs.{Numbers.accepted, Numbers.cut_in_name, Numbers.cut_in_loops, Outcome.Outcome, Outcome.outcome}
use Rattle.refusals.specs.Rules.{Fault, AllRight, first, verdict_of, verdict, reason}
use Rattle.refusals.specs.Rules.{Verdict}
use Rattle.refusals.proofs.Faults.{none_wrong, right_both, first_append, verdict_right, verdict_at, verdict_from}
use Rattle.refusals.proofs.Faults.{by_verdict}
use Rattle.refusals.proofs.Settled.{by_settled, settled_left, first_here}
use Rattle.trivium.specs.Keystream.{trivium}
use Rattle.enocoro.specs.Keystream.{enocoro}
use Rattle.triad.specs.Tag.{triad}
use Rattle.pack.specs.Calls.{refused_opening, lacks_of, surveying, opening_pack}
use Rattle.pack.specs.Ciphers.{cipher_in}
use Rattle.pack.specs.Cuts.{Section, sections, cut_at, CutNumber, CutsLack, refused_so, Cuts}
use Rattle.pack.specs.Faults.{faults_from_samples, faults_from_key, file_faults, keyed_faults, room_faults, open_faults}
use Rattle.pack.specs.Places.{sample_count}
use Rattle.pack.specs.Answers.{Opened}
use Rattle.pack.specs.Layout.{tag_length}
use Rattle.pack.proofs.Growing.{asked, Parting, cut, other, files_grown, parting, only_asked}
use Rattle.pack.proofs.{Growing.cut_asked, AcceptedFiles.tag_right, Picking.Steady, Picking.cipher_steady}
use Rattle.pack.proofs.Theorems.{file_numbered, keyed_numbered, file_first, file_right, keyed_shown}
use Rattle.pack.proofs.Theorems.{survey_refusal}

-- ---- 30 to 33 and the number of bytes go together, as they do in each rule

-- a broken rule on where the file ends; none; and a broken rule on what was read
ends : {number short place : ℕ} → CutNumber number → short < place → CutsLack number (place - short)
ends among less = (λ _. omega arith, λ _. among)

-- none of the four
abbrev pub NoFour : ℕ → Type 0
NoFour number = cut_in_name ≤ number → cut_in_loops < number

lacks_none : {number : ℕ} → NoFour number → CutsLack number 0
lacks_none outside = (λ among. let far = outside among.0 in absurd (omega arith), λ some. absurd (omega arith))

reads : {number : ℕ} {A : Type 0} → NoFour number → A → CutsLack number 0
reads outside broken = lacks_none outside

-- a number for a cut isn't 0
cut_refused : {number : ℕ} → CutNumber number → number ≢ accepted
cut_refused among z = ⊎_elim (λ four. omega arith) (λ tag. omega arith) among

-- one rule after the other
infixr 5 ◌next◌
abbrev ◌next◌ : {A B : Type 0} → A → B → A × B
a next b = (a, b)

together : (cipher : Cipher) (file : List ℕ) → CutsLack (first (file_faults cipher file)) (lacks_of cipher file)
unfolding file_faults faults_from_key faults_from_samples
together cipher file =
    by_verdict CutsLack (lacks_none (λ h. omega arith)) (file_faults cipher file)
    (ends (inl (omega arith, omega arith))
    next reads (λ h. omega arith)
    next ends (inl (omega arith, omega arith))
    next reads (λ h. omega arith)
    next ends (inl (omega arith, omega arith))
    next reads (λ h. omega arith)
    next ends (inl (omega arith, omega arith))
    next reads (λ h. omega arith)
    next ends (inl (omega arith, omega arith))
    next reads (λ h. omega arith)
    next ends (inl (omega arith, omega arith))
    next ends (inl (omega arith, omega arith))
    next reads (λ h. omega arith)
    next ends (inl (omega arith, omega arith))
    next reads (λ h. omega arith)
    next ends (inr refl)
    next reads (λ h. omega arith)
    next ends (inr refl)
    next reads (λ h. omega arith)
    next tt)

-- what no rule looks further than
abbrev longest : Cipher → ℕ
longest cipher = 32872 + cipher.value_bytes + tag_length cipher

-- ---- the answer's two numbers are those of the file's rules

module _ (cipher : Cipher) where
  survey_lacks : (file : List ℕ) → (surveying cipher file).lacks ≡ lacks_of cipher file
  unfolding surveying
  survey_lacks file =
      by_settled (file_faults cipher file) _ _ (λ (o : Opened). o.lacks ≡ lacks_of cipher file)
      (λ e. ap (λ (v : Verdict). v.lacks) (verdict_right _ (file_right cipher file e))) (λ n e h. refl)

  told_together : (file : List ℕ) → CutsLack (surveying cipher file).refusal (surveying cipher file).lacks
  told_together file =
      subst (λ (n : ℕ). CutsLack n (surveying cipher file).lacks) (sym (survey_refusal cipher file))
      (subst (CutsLack (first (file_faults cipher file))) (sym (survey_lacks file)) (together cipher file))

  answered : (file : List ℕ) {number lacks : ℕ} → verdict_of number lacks ≡ verdict (file_faults cipher file)
      → number ≢ accepted
      → surveying cipher file ≡ refused_opening lacks number
  unfolding surveying
  answered file {number} {lacks} e refused =
      sym (settled_left _ _ _ number refused (ap (λ (v : Verdict). v.number) e))
      ∙ ap (λ (v : Verdict). refused_opening v.lacks number) (sym e)

  -- rules behind the file's own that say nothing of cuts change nothing of this
  pub lacks_behind : (file : List ℕ) (faults : List Fault) → NoFour (first faults)
      → CutsLack (first (file_faults cipher file ++ faults)) (surveying cipher file).lacks
  lacks_behind file faults outside =
      subst (λ (l : ℕ). CutsLack (first (file_faults cipher file ++ faults)) l) (sym (survey_lacks file))
      (subst (λ (n : ℕ). CutsLack n (lacks_of cipher file))
      (sym (first_append (file_faults cipher file) faults (file_numbered cipher file)))
      (by_settled (file_faults cipher file) (first faults) (λ n. n) (λ (n : ℕ). CutsLack n (lacks_of cipher file))
      (λ e.
      let none = ap (λ (v : Verdict). v.lacks) (verdict_right _ (file_right cipher file e)) in
      subst (CutsLack (first faults)) none (lacks_none outside))
      (λ n e h. subst (λ (m : ℕ). CutsLack m (lacks_of cipher file)) e (together cipher file))))

  -- a broken rule of the file ends a survey and an opening alike
  opened_refused : (ring : List (List ℕ)) (file : List ℕ) (sound : List ℤ) → (surveying cipher file).refusal ≢ accepted
      → opening_pack cipher ring file sound ≡ outcome (surveying cipher file) sound
  unfolding surveying opening_pack open_faults
  opened_refused ring file sound h =
      let n : ℕ = first (file_faults cipher file) in
      let refused : n ≢ accepted = λ z. h (survey_refusal cipher file ∙ z) in
      let left : ℕ → Outcome Opened ℤ = λ k. outcome (refused_opening (lacks_of cipher file) k) sound in
      sym
      (settled_left (open_faults cipher ring file (length sound)) _ left n refused
      (first_here (keyed_faults cipher ring file) _ (keyed_numbered cipher ring file) n refused
      (file_first cipher ring file n refused refl)))
      ∙ ap (λ (o : Opened). outcome o sound)
      (settled_left (file_faults cipher file) _ (refused_opening (lacks_of cipher file)) n refused refl)

  opened_alike : (ring : List (List ℕ)) (file : List ℕ) (sound : List ℤ)
      → (opening_pack cipher ring file sound).answer.lacks ≡ (surveying cipher file).lacks
  unfolding opening_pack open_faults keyed_faults file_faults faults_from_key faults_from_samples
  opened_alike ring file sound =
      by_settled (open_faults cipher ring file (length sound)) _ _
      (λ (o : Outcome Opened ℤ). o.answer.lacks ≡ (surveying cipher file).lacks)
      (λ e.
      let right = (right_both (keyed_faults cipher ring file) (room_faults (sample_count cipher file) (length sound))
      (none_wrong (open_faults cipher ring file (length sound)) tt e)).0 in
      ap (λ (v : Verdict). v.lacks) (verdict_right _ (keyed_shown cipher ring file right).0) ∙ sym
      (survey_lacks file))
      (λ n e h. sym (survey_lacks file))

  -- ---- more bytes behind a file

  module _ (file more : List ℕ) where
    long : length file + length more ≡ length (file ++ more)
    long = sym (length-append file more)

    abbrev Parted : Type 0
    Parted =
        Parting (longest cipher) (length file) (length (file ++ more)) (file_faults cipher file)
        (file_faults cipher (file ++ more))

    parted : Parted
    parted = parting (omega (arith, long)) (files_grown file more cipher (longest cipher) (omega arith))

    -- what the shorter file is told
    file_told : {number lacks : ℕ} → verdict_of number lacks ≡ verdict (file_faults cipher file)
        → (number ≡ (surveying cipher file).refusal) × (lacks ≡ (surveying cipher file).lacks)
    file_told e = (
      ap (λ (v : Verdict). v.number) e ∙ sym (survey_refusal cipher file),
      ap (λ (v : Verdict). v.lacks) e ∙ sym (survey_lacks file),
    )

    fewer : length more < (surveying cipher file).lacks → Parted
        → surveying cipher (file ++ more)
        ≡ refused_opening ((surveying cipher file).lacks - length more) (surveying cipher file).refusal
    fewer few (cut less most one both later) =
        let told = file_told one in
        let among = (told_together file).1 (omega arith) in
        answered (file ++ more) (both (omega (arith, long, told))) (λ z. cut_refused among (sym told.0 ∙ z))
        ∙ ap₂ refused_opening (omega (arith, long, told)) told.0
    fewer few (other none same) = absurd (omega (arith, survey_lacks file))

    enough : 0 < (surveying cipher file).lacks → (surveying cipher file).lacks ≤ length more → Parted
        → reason (file_faults cipher file) < reason (file_faults cipher (file ++ more))
    enough some all (cut less most one both later) = later (omega (arith, long, file_told one))
    enough some all (other none same) = absurd (omega (arith, survey_lacks file))

-- ---- a front of an accepted file

-- each section's count ends before it does
abbrev InOrder : List Section → Type 0
InOrder [] = Unit
InOrder (s ∷ more) = (s.counted ≤ s.ended) × InOrder more

-- what is missing of what sections ask for lies in the section of the cut
asked_cut : (n : ℕ) (all : List Section) → InOrder all → verdict (asked n all) ≡ cut_at n all
unfolding cut_at
asked_cut n [] h = sym (verdict_right [] tt)
asked_cut n (s ∷ more) h = go (ltb n s.counted) (ltb n s.ended) refl refl (asked_cut n more h.1)
  where
    go : (b c : Bool) → ltb n s.counted ≡ b → ltb n s.ended ≡ c → verdict (asked n more) ≡ cut_at n more
        → verdict (asked n (s ∷ more))
        ≡ cond c (verdict_of s.number (cond b (s.counted - n) (s.ended - n))) (cut_at n more)
    go true true b c rest = sym (verdict_at 0 _ (ltb-true n s.counted b) refl refl)
    go true false b c rest =
        absurd (omega (arith, h.0, ltb-true n s.counted b, ltb-false n s.ended c))
    go false true b c rest =
        sym (verdict_at 1 _ (ltb-false n s.counted b, ltb-true n s.ended c) refl refl)
    go false false b c rest =
        sym (verdict_from 2 (asked n (s ∷ more)) (ltb-false n s.counted b, (ltb-false n s.ended c, tt))) ∙ rest

-- counts stand before what they count
in_order : (cipher : Cipher) (file : List ℕ) → InOrder (sections cipher file)
in_order cipher file = (omega arith, (omega arith, (omega arith, (omega arith, (omega arith, tt)))))

-- a file that breaks off is told the section in which it ends
ends_so : (cipher : Cipher) (file : List ℕ) → 0 < (surveying cipher file).lacks
    → surveying cipher file ≡ refused_so (cut_at (length file) (sections cipher file))
ends_so cipher file some =
    let among = (told_together cipher file).1 some in
    let bound : ℕ = longest cipher in
    let found : verdict (file_faults cipher file) ≡ cut_at (length file) (sections cipher file) =
    cut_asked (files_grown file [] cipher bound (omega arith)) (omega (arith, survey_lacks cipher file))
    ∙ ap (λ (f : List ℕ). verdict (asked (length file) (sections cipher f))) (append-nil file)
    ∙ asked_cut (length file) (sections cipher file) (in_order cipher file) in
    let number = survey_refusal cipher file ∙ ap (λ (v : Verdict). v.number) found in
    answered cipher file (sym found) (λ z. cut_refused among (number ∙ z))

-- a cut in a section has its number; one behind it, that of a section behind it
cut_among : (n : ℕ) (s : Section) (more : List Section) → CutNumber s.number
    → (s.ended ≤ n → CutNumber (cut_at n more).number)
    → CutNumber (cut_at n (s ∷ more)).number
unfolding cut_at
cut_among n s more here later = go (ltb n s.ended) refl
  where
    go : (b : Bool) → ltb n s.ended ≡ b
        → CutNumber
        (cond b (verdict_of s.number (cond (ltb n s.counted) (s.counted - n) (s.ended - n))) (cut_at n more)
        ).number
    go true b = here
    go false b = later (ltb-false n s.ended b)

module _ (cipher : Cipher) (file : List ℕ) (n : ℕ) (right : AllRight (file_faults cipher file)) (less : n < length file)
  where
    cut_verdict : verdict (file_faults cipher (take n file)) ≡ cut_at n (sections cipher file)
    cut_verdict =
        let front : List ℕ = take n file in
        let rest : List ℕ = drop n file in
        let whole : front ++ rest ≡ file = take-append-drop n file in
        let size : length front ≡ n = length-take-le n file (omega arith) in
        only_asked (omega (arith, length-append front rest))
        (files_grown front rest cipher (longest cipher) (omega arith))
        (subst (λ (f : List ℕ). AllRight (file_faults cipher f)) (sym whole) right)
        ∙ ap₂ (λ (k : ℕ) (f : List ℕ). verdict (asked k (sections cipher f))) size whole
        ∙ asked_cut n (sections cipher file) (in_order cipher file)

    cut_number : CutNumber (cut_at n (sections cipher file)).number
    unfolding file_faults faults_from_key faults_from_samples
    cut_number =
        cut_among n _ _ (inl (omega arith, omega arith))
        (λ _. cut_among n _ _ (inl (omega arith, omega arith))
        (λ _. cut_among n _ _ (inl (omega arith, omega arith))
        (λ _. cut_among n _ _ (inl (omega arith, omega arith))
        (λ _. cut_among n _ _ (inr refl)
        (λ behind. absurd (omega (arith, tag_right cipher file right)))))))

-- ---- all of it, under any choice that bytes behind a file don't disturb

module _ (pick : List ℕ → Cipher) (steady : Steady pick) (file more : List ℕ) where
  abbrev later : Cipher
  later = pick (file ++ more)

  same_verdict : verdict (file_faults (pick file) file) ≡ verdict (file_faults later file)
  same_verdict = (steady file more).0

  same_lacks : (surveying (pick file) file).lacks ≡ (surveying later file).lacks
  same_lacks =
      survey_lacks (pick file) file ∙ ap (λ (v : Verdict). v.lacks) same_verdict ∙ sym (survey_lacks later file)

  same_refusal : (surveying (pick file) file).refusal ≡ (surveying later file).refusal
  same_refusal =
      survey_refusal (pick file) file ∙ ap (λ (v : Verdict). v.number) same_verdict ∙ sym (survey_refusal later file)

pub cuts : (pick : List ℕ → Cipher) → Steady pick → Cuts pick
cuts pick steady =
    record {
      lacks = λ file. told_together (pick file) file;
      ends = λ file. ends_so (pick file) file;
      fewer =
          λ file more few.
          let lacks = same_lacks pick steady file more in
          fewer (pick (file ++ more)) file more (subst (λ (n : ℕ). length more < n) lacks few)
          (parted (pick (file ++ more)) file more)
          ∙ ap₂ (λ (l n : ℕ). refused_opening (l - length more) n) (sym lacks)
          (sym (same_refusal pick steady file more));
      enough =
          λ file more some all.
          let lacks = same_lacks pick steady file more in
          subst (λ (n : ℕ). n < reason (file_faults (pick (file ++ more)) (file ++ more)))
          (sym (steady file more).1)
          (enough (pick (file ++ more)) file more (subst (λ (n : ℕ). 0 < n) lacks some)
          (subst (λ (n : ℕ). n ≤ length more) lacks all) (parted (pick (file ++ more)) file more));
      cut =
          λ file n e inside.
          let right = file_right (pick file) file (sym (survey_refusal (pick file) file) ∙ e) in
          let among = cut_number (pick file) file n right inside in
          let under = same_verdict pick steady (take n file) (drop n file)
          ∙ ap (λ (f : List ℕ). verdict (file_faults (pick f) (take n file))) (take-append-drop n file) in (
            among,
            answered (pick (take n file)) (take n file) (sym (under ∙ cut_verdict (pick file) file n right inside))
                (cut_refused among),
          );
      opened = λ ring file. opened_refused (pick file) ring file;
      opened_lacks = λ ring file. opened_alike (pick file) ring file;
    }

-- under one cipher for all files
under : (cipher : Cipher) → Cuts (λ file. cipher)
under cipher = cuts (λ file. cipher) (λ file more. (refl, refl))

pub cuts_trivium : Cuts (λ file. trivium)
cuts_trivium = under trivium

pub cuts_enocoro : Cuts (λ file. enocoro)
cuts_enocoro = under enocoro

pub cuts_triad : Cuts (λ file. triad)
cuts_triad = under triad

-- and for callers, under the one that a file is under
pub cuts_picked : Cuts cipher_in
cuts_picked = cuts cipher_in cipher_steady
