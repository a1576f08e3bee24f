-- A file, and the same file with more bytes behind it, rule by rule: as long as nothing was wrong before, what is read
-- is the same in both, and what has to be there is the same place. So they part where the first file breaks off, or not
-- at all.
use mathlib.Core.{Path.◌≡◌, Path.refl, Path.sym, Path.ap, Path.subst, Path.◌∙◌}
use mathlib.Core.Bool.{Bool, true, false, not}
use mathlib.Core.List.{List, [], ◌∷◌, ◌++◌}
use Prim.Native.Nat.{ℕ, suc, ◌+◌, ◌-◌, ◌*◌, ◌<◌, ◌≤◌}
use native.Mathlib.Omega.{arith}
use borrow.Author.Tests.{ltb-true, ltb-false}
use lib.{Dec.eqb, Dec.ltb, ListN.length, ListN.get_or-append}
use Rattle.octets.specs.{Buffers.slice, Digits.number, Digits.number_at, Rows.numbers_at, Stream.Cipher}
use Rattle.octets.proofs.{Rows.numbers_front, Rows.length_equal, Slices.slice_front}
use Rattle.refusals.specs.Numbers.{cut_in_key, cut_in_samples, cut_in_loops, bad_tag_section}
use Rattle.refusals.specs.Rules.{Wrong, ◌over◌, ◌unlike◌, ◌ends_before◌, broken, Right, missing, Fault, ◌says◌}
use Rattle.refusals.specs.Rules.{AllRight, lacking, verdict_of, verdict, reason}
use Rattle.refusals.specs.Rules.{Verdict}
use Rattle.refusals.proofs.Faults.{right, fine, is_wrong, lacking_passes, verdict_right, verdict_at, verdict_from}
use Rattle.refusals.proofs.Faults.{verdict_tail, by_verdict, reason_here, reason_later}
use Rattle.pack.specs.Cuts.{Section, section, sections}
use Rattle.pack.specs.Faults.{tag_section_faults, faults_from_loops, faults_from_samples, faults_from_key, file_faults}
use Rattle.pack.specs.Layout.{name_good, loops_good, fours, tag_count, tag_length}
use Rattle.pack.specs.Limits.{most_name, last_key, most_samples, most_loops}
use Rattle.pack.specs.Places.{byte_at, name_end, key_end, samples_in, samples_end, loops_end, tag_count_in, tag_end}

-- ---- what the rules of the two files have in common

-- what sections ask of a file of n bytes: that each count is there, and then the section
abbrev pub asked : ℕ → List Section → List Fault
asked n [] = []
asked n (s ∷ more) = (n ends_before s.counted says s.number) ∷ (n ends_before s.ended says s.number) ∷ asked n more

-- the sections of a file from its tag section on, which begins at `at`; from its loop section; from its sample section;
-- from its key section
abbrev tag_from : Cipher → ℕ → List Section
tag_from cipher at = section bad_tag_section (at + tag_count cipher) (tag_end cipher at) ∷ []

abbrev loops_from : Cipher → List ℕ → ℕ → List Section
loops_from cipher file at = section cut_in_loops (at + 1) (loops_end file at) ∷ tag_from cipher (loops_end file at)

abbrev samples_from : Cipher → List ℕ → ℕ → List Section
samples_from cipher file at =
    section cut_in_samples (at + 4) (samples_end file at) ∷ loops_from cipher file (samples_end file at)

abbrev key_from : Cipher → List ℕ → ℕ → List Section
key_from cipher file at = section cut_in_key (at + 1) (key_end cipher at) ∷ samples_from cipher file (key_end cipher at)

-- The rules of a file of `short` bytes, those of the `long` file, and of these what the short one is asked to have. No
-- rule asks for more than `bound` bytes.
pub data Grown (bound short long : ℕ) : List Fault → List Fault → List Fault → Type 0 where
  -- on what was read, which is the same
  read : {v w : Wrong} {n : ℕ} {xs ys zs : List Fault} → missing v ≡ 0 → missing w ≡ 0 → broken v ≡ broken w
      → (Right v → Grown bound short long xs ys zs)
      → Grown bound short long ((v says n) ∷ xs) ((w says n) ∷ ys) zs
  -- on what has to be there
  reach : (p : ℕ) {q n : ℕ} {xs ys zs : List Fault} → p ≡ q → p ≤ bound → (p ≤ short → Grown bound short long xs ys zs)
      → Grown bound short long ((short ends_before p says n) ∷ xs) ((long ends_before q says n) ∷ ys)
      ((short ends_before q says n) ∷ zs)
  -- on the file's end
  last : {p q n : ℕ} → p ≡ q → p ≤ bound
      → Grown bound short long ((short over p says n) ∷ []) ((long over q says n) ∷ []) []

-- ---- a pack's rules, section by section

module _ (file more : List ℕ) where
  abbrev whole : List ℕ
  whole = file ++ more

  same_byte : (i : ℕ) → i < length file → byte_at file i ≡ byte_at whole i
  same_byte i h = sym (get_or-append file more 0 i h)

  same_number : (at n : ℕ) → at + n ≤ length file → number_at file at n ≡ number_at whole at n
  same_number at n h = ap (number 256) (sym (slice_front file more at n h))

  module _ (cipher : Cipher) where
    -- the last rule of all, on the file's end, stands behind those of the tag section
    tag_grown : (bound at : ℕ) → at + tag_length cipher ≤ bound
        → Grown bound (length file) (length whole) (tag_section_faults cipher file at)
        (tag_section_faults cipher whole at)
        (asked (length file) (tag_from cipher at))
    tag_grown bound at far =
        reach (at + tag_count cipher) refl (omega arith) (λ one.
        read {v = tag_count_in cipher file at unlike cipher.tag_bytes} refl refl
        (ap (λ (k : ℕ). not (eqb k cipher.tag_bytes)) (same_number at (tag_count cipher) (omega arith))) (λ count.
        reach (tag_end cipher at) refl (omega arith) (λ there. last {p = tag_end cipher at} refl (omega arith))))

    loops_grown : (bound at samples : ℕ) → at + 65 + tag_length cipher ≤ bound
        → Grown bound (length file) (length whole) (faults_from_loops cipher file at samples)
        (faults_from_loops cipher whole at samples)
        (asked (length file) (loops_from cipher whole at))
    loops_grown bound at samples far =
        let n : ℕ = byte_at file at in
        reach (at + 1) refl (omega arith) (λ one.
        let same : n ≡ byte_at whole at = same_byte at (omega arith) in
        read {v = n over most_loops} refl refl (ap (ltb most_loops) same) (λ limit.
        let end : loops_end file at ≡ loops_end whole at = ap (λ (k : ℕ). at + 1 + 8 * k) same in
        reach (loops_end file at) end (omega arith) (λ there.
        read refl refl
        (ap (λ (l : List ℕ). not (loops_good samples l))
        (sym (numbers_front (fours (2 * n)) file more (at + 1) (omega (arith, length_equal (2 * n) 4)))
        ∙ ap (λ (k : ℕ). numbers_at (fours (2 * k)) whole (at + 1)) same))
        (λ _.
        subst
        (λ (k : ℕ). Grown bound (length file) (length whole) (tag_section_faults cipher file (at + 1 + 8 * n))
        (tag_section_faults cipher whole (at + 1 + 8 * k))
        (asked (length file) (tag_from cipher (at + 1 + 8 * k)))) same
        (tag_grown bound (at + 1 + 8 * n) (omega arith))))))

    samples_grown : (bound at : ℕ) → at + 32837 + tag_length cipher ≤ bound
        → Grown bound (length file) (length whole) (faults_from_samples cipher file at)
        (faults_from_samples cipher whole at)
        (asked (length file) (samples_from cipher whole at))
    unfolding faults_from_samples
    samples_grown bound at far =
        let n : ℕ = samples_in file at in
        reach (at + 4) refl (omega arith) (λ four.
        let same : n ≡ samples_in whole at = same_number at 4 (omega arith) in
        read {v = n over most_samples} refl refl (ap (ltb most_samples) same) (λ limit.
        reach (samples_end file at) (ap (λ (k : ℕ). at + 4 + 2 * k) same) (omega arith) (λ there.
        subst
        (λ (k : ℕ). Grown bound (length file) (length whole) (faults_from_loops cipher file (at + 4 + 2 * n) n)
        (faults_from_loops cipher whole (at + 4 + 2 * k) k)
        (asked (length file) (loops_from cipher whole (at + 4 + 2 * k)))) same
        (loops_grown bound (at + 4 + 2 * n) n (omega arith)))))

    keys_grown : (bound at : ℕ) → key_end cipher at + 32837 + tag_length cipher ≤ bound
        → Grown bound (length file) (length whole) (faults_from_key cipher file at) (faults_from_key cipher whole at)
        (asked (length file) (key_from cipher whole at))
    unfolding faults_from_key
    keys_grown bound at far =
        reach (at + 1) refl (omega arith) (λ one.
        read {v = byte_at file at unlike suc cipher.value_bytes} refl refl
        (ap (λ (k : ℕ). not (eqb k (suc cipher.value_bytes))) (same_byte at (omega arith))) (λ count.
        reach (key_end cipher at) refl (omega arith) (λ there.
        read {v = byte_at file (at + 1) over last_key} refl refl (ap (ltb last_key) (same_byte (at + 1) (omega arith)))
        (λ number.
        samples_grown bound (key_end cipher at) (omega arith)))))

    -- the longest file has 32,872 bytes, an initial value, and what there is of a tag section
    pub files_grown : (bound : ℕ) → 32872 + cipher.value_bytes + tag_length cipher ≤ bound
        → Grown bound (length file) (length whole) (file_faults cipher file) (file_faults cipher whole)
        (asked (length file) (sections cipher whole))
    unfolding file_faults
    files_grown bound far =
        let n : ℕ = byte_at file 0 in
        reach 1 refl (omega arith) (λ one.
        let same : n ≡ byte_at whole 0 = same_byte 0 (omega arith) in
        read {v = n over most_name} refl refl (ap (ltb most_name) same) (λ limit.
        reach (name_end file 0) (ap (λ (k : ℕ). 0 + 1 + k) same) (omega arith) (λ there.
        read refl refl
        (ap (λ (l : List ℕ). not (name_good l))
        (sym (slice_front file more 1 n (omega arith)) ∙ ap (slice whole 1) same))
        (λ name.
        subst
        (λ (k : ℕ). Grown bound (length file) (length whole) (faults_from_key cipher file (0 + 1 + n))
        (faults_from_key cipher whole (0 + 1 + k)) (asked (length file) (key_from cipher whole (0 + 1 + k)))) same
        (keys_grown bound (0 + 1 + n) (omega arith))))))

-- ---- where they part

-- The short file breaks off, and the long one does so at the same place or not at all; or else both are refused alike,
-- but for files that end where they should.
pub data Parting (bound short long : ℕ) (xs ys : List Fault) : Type 0 where
  cut : {n p : ℕ} → short < p → p ≤ bound → verdict_of n (p - short) ≡ verdict xs
      → (long < p → verdict_of n (p - long) ≡ verdict ys)
      → (p ≤ long → reason xs < reason ys)
      → Parting bound short long xs ys
  other : 0 ≡ lacking xs → (bound < short → verdict xs ≡ verdict ys) → Parting bound short long xs ys

-- beyond all that can be asked for they don't part
pub alike_beyond : {bound short long : ℕ} (xs ys : List Fault) → Parting bound short long xs ys → bound < short
    → verdict xs ≡ verdict ys
alike_beyond xs ys (cut less most one both later) far = absurd (omega arith)
alike_beyond xs ys (other none same) far = same far

-- a rule that lacks nothing is broken
refused : (f : Fault) (xs : List Fault) → missing f.wrong ≡ 0 → broken f.wrong ≡ true
    → verdict_of f.number 0 ≡ verdict (f ∷ xs)
refused f xs none b = verdict_at 0 (f ∷ xs) (is_wrong f.wrong b) refl (sym none)

-- and the rule on the file's end, broken or not
end_lacks_none : (short p n : ℕ) → lacking ((short over p says n) ∷ []) ≡ 0
end_lacks_none short p n = by_verdict (λ (k l : ℕ). l ≡ 0) refl ((short over p says n) ∷ []) (λ _. refl, tt)

lacks_none : (xs : List Fault) {n : ℕ} → verdict_of n 0 ≡ verdict xs → 0 ≡ lacking xs
lacks_none xs e = ap (λ (v : Verdict). v.lacks) e

module _ {bound short long : ℕ} (more : short ≤ long) where
  held : (f g : Fault) {xs ys : List Fault} → Right f.wrong → Right g.wrong → Parting bound short long xs ys
      → Parting bound short long (f ∷ xs) (g ∷ ys)
  held f g {xs} {ys} h k (cut less most one both later) =
      cut less most (one ∙ verdict_from 1 (f ∷ xs) (h, tt)) (λ l. both l ∙ verdict_from 1 (g ∷ ys) (k, tt))
      (λ l. omega (arith, later l, reason_later f xs h, reason_later g ys k))
  held f g {xs} {ys} h k (other none same) =
      other (none ∙ lacking_passes f xs h)
      (λ far. sym (verdict_from 1 (f ∷ xs) (h, tt)) ∙ same far ∙ verdict_from 1 (g ∷ ys) (k, tt))

  pub parting : {xs ys zs : List Fault} → Grown bound short long xs ys zs → Parting bound short long xs ys
  parting (read {v} {w} {n} {xs} {ys} none none' e rest) = go (broken v) refl (λ h. parting (rest h))
    where
      go : (b : Bool) → broken v ≡ b → (Right v → Parting bound short long xs ys)
          → Parting bound short long ((v says n) ∷ xs) ((w says n) ∷ ys)
      go true b later =
          let here = refused (v says n) xs none b in
          other (lacks_none _ here) (λ _. sym here ∙ refused (w says n) ys none' (sym e ∙ b))
      go false b later = held (v says n) (w says n) (right v b) (right w (sym e ∙ b)) (later (right v b))
  parting (reach p {q} {n} {xs} {ys} e far rest) = go (ltb short p) refl (λ h. parting (rest h))
    where
      go : (b : Bool) → ltb short p ≡ b → (p ≤ short → Parting bound short long xs ys)
          → Parting bound short long ((short ends_before p says n) ∷ xs) ((long ends_before q says n) ∷ ys)
      go true b later =
          let less : short < p = ltb-true short p b in
          cut less far (verdict_at 0 _ less refl refl) (λ l. verdict_at 0 _ (omega arith) refl (omega arith))
          (λ l.
          omega (
            arith,
            reason_here (short ends_before p says n) xs less,
            reason_later (long ends_before q says n) ys (omega arith),
          ))
      go false b later =
          let there : p ≤ short = ltb-false short p b in held _ _ there (omega arith) (later there)
  parting (last {p} {q} {n} e far) =
      other (sym (end_lacks_none short p n))
      (λ beyond. sym (verdict_at 0 _ (omega arith) refl refl) ∙ verdict_at 0 _ (omega arith) refl refl)

  -- if nothing is wrong with the long file, the short one is asked for what is missing, and for nothing else
  pub only_asked : {xs ys zs : List Fault} → Grown bound short long xs ys zs → AllRight ys → verdict xs ≡ verdict zs
  only_asked (read {v} {w} {n} {xs} {ys} none none' e rest) h =
      let good = right v (e ∙ fine w h.0) in
      sym (verdict_from 1 ((v says n) ∷ xs) (good, tt)) ∙ only_asked (rest good) h.1
  only_asked (reach p {q} {n} {xs} {ys} {zs} e far rest) h =
      ap (λ (k : ℕ). verdict ((short ends_before k says n) ∷ xs)) e
      ∙ verdict_tail (short ends_before q says n) xs zs (λ (there : q ≤ short). only_asked (rest (omega arith)) h.1)
  only_asked (last {p} {q} {n} e far) h =
      sym (verdict_right ((short over p says n) ∷ []) (omega arith, tt)) ∙ verdict_right [] tt

-- and so is a file that breaks off, whatever is wrong with what stands behind it
pub cut_asked : {bound short long : ℕ} {xs ys zs : List Fault} → Grown bound short long xs ys zs → 0 < lacking xs
    → verdict xs ≡ verdict zs
cut_asked (read {v} {w} {n} {xs} {ys} {zs} none none' e rest) some = go (broken v) refl (λ h l. cut_asked (rest h) l)
  where
    go : (b : Bool) → broken v ≡ b → (Right v → 0 < lacking xs → verdict xs ≡ verdict zs)
        → verdict ((v says n) ∷ xs) ≡ verdict zs
    go true b later = absurd (omega (arith, some, lacks_none _ (refused (v says n) xs none b)))
    go false b later =
        let good = right v b in
        sym (verdict_from 1 ((v says n) ∷ xs) (good, tt))
        ∙ later good (omega (arith, some, lacking_passes (v says n) xs good))
cut_asked {short = short} (reach p {q} {n} {xs} {ys} {zs} e far rest) some =
    ap (λ (k : ℕ). verdict ((short ends_before k says n) ∷ xs)) e
    ∙ verdict_tail (short ends_before q says n) xs zs
    (λ (there : q ≤ short).
    let passed : p ≤ short = omega arith in
    cut_asked (rest passed) (omega (arith, some, lacking_passes (short ends_before p says n) xs passed)))
cut_asked {short = short} (last {p} {q} {n} e far) some = absurd (omega (arith, some, end_lacks_none short p n))
