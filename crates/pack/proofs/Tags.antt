-- What a tag decides: the rule on it stands behind the file's own and before the one on room, and no other has its
-- number.
use mathlib.Core.{Path.◌≡◌, Path.refl, Path.sym, Path.ap, Path.subst, Path.◌∙◌, Logic.◌≢◌, Bool.Bool, Bool.true}
use mathlib.Core.{Bool.false}
use mathlib.Core.List.{List, ◌++◌, append_assoc}
use Prim.Native.Nat.{ℕ}
use borrow.Author.Tests.{eqb-true, eqb-false}
use lib.{Dec.eqb, IntN.ℤ, ListN.length}
use Rattle.octets.specs.Stream.{Cipher}
use Rattle.refusals.specs.{Numbers.accepted, Numbers.wrong_tag, Rules.Fault, Rules.first}
use Rattle.refusals.proofs.{Faults.never, Faults.refused_at, Faults.rule_passes, Settled.first_here}
use Rattle.refusals.proofs.{Settled.first_later}
use Rattle.pack.specs.{Calls.surveying, Calls.opening_pack, Ciphers.cipher_of, declared.Rings.Rings, Ciphers.ring_for}
use Rattle.pack.specs.Faults.{faults_from_samples, faults_from_key, file_faults, tag_faults, keyed_faults, room_faults}
use Rattle.pack.specs.Faults.{open_faults}
use Rattle.pack.specs.{Places.sample_count, Places.tag_in, Places.tag_place, Places.tag_due, Tags.Tags}
use Rattle.pack.specs.{Tags.TagAgrees}
use Rattle.pack.specs.declared.Kind.{Kind}
use Rattle.pack.specs.declared.Kind.TheVariants.{Trivium, Enocoro, Triad}
use Rattle.pack.proofs.Demand2.{opening_refusal}
use Rattle.pack.proofs.Theorems.{Agrees, file_numbered, survey_refusal}

-- no rule of the file's own says 38
unnamed : (cipher : Cipher) (file : List ℕ) → first (file_faults cipher file) ≢ wrong_tag
unfolding file_faults faults_from_key faults_from_samples
unnamed cipher file = never wrong_tag (file_faults cipher file) tt

module _ (cipher : Cipher) (ring : List (List ℕ)) (file : List ℕ) (sound : List ℤ) where
  abbrev room : List Fault
  room = room_faults (sample_count cipher file) (length sound)

  abbrev opened : ℕ
  opened = (opening_pack cipher ring file sound).answer.refusal

  whole : first (open_faults cipher ring file (length sound))
      ≡ first (file_faults cipher file ++ (tag_faults cipher ring file ++ room))
  unfolding open_faults keyed_faults
  whole = ap first (append_assoc (file_faults cipher file) (tag_faults cipher ring file) room)

  -- with no fault in the file itself, the rules on tag and room decide
  behind : first (file_faults cipher file) ≡ accepted → opened ≡ first (tag_faults cipher ring file ++ room)
  behind e =
      opening_refusal cipher ring file sound
      ∙ whole
      ∙ sym (first_later (file_faults cipher file) (tag_faults cipher ring file ++ room) (file_numbered cipher file)
      (sym e))

  agreed : first (file_faults cipher file) ≡ accepted → Agrees cipher ring file → opened ≢ wrong_tag
  agreed e agrees z = never wrong_tag room tt (rule_passes _ room agrees ∙ sym (behind e) ∙ z)

  passed : first (file_faults cipher file) ≡ accepted → opened ≢ wrong_tag → Agrees cipher ring file
  passed e h = go (eqb there due) refl
    where
      there : ℕ
      there = tag_in cipher file (tag_place cipher file)

      due : ℕ
      due = tag_due cipher ring file

      go : (b : Bool) → eqb there due ≡ b → there ≡ due
      go true t = eqb-true there due t
      go false t = absurd (h (behind e ∙ sym (refused_at 0 (tag_faults cipher ring file ++ room)
          (eqb-false there due t))))

  only_then : opened ≡ wrong_tag → first (file_faults cipher file) ≡ accepted
  only_then z = go (eqb own accepted) refl
    where
      own : ℕ
      own = first (file_faults cipher file)

      go : (b : Bool) → eqb own accepted ≡ b → own ≡ accepted
      go true t = eqb-true own accepted t
      go false t =
          absurd (unnamed cipher file
          (first_here (file_faults cipher file) (tag_faults cipher ring file ++ room) (file_numbered cipher file) own
          (eqb-false own accepted t) refl
          ∙ sym whole
          ∙ sym (opening_refusal cipher ring file sound) ∙ z))

pub tags : (kind : Kind) (r : Rings) → Tags kind r
tags kind r =
    record {
      decides =
          λ file sound same e.
          let ok = sym (survey_refusal (cipher_of kind) file)
          ∙ subst (λ (k : Kind). (surveying (cipher_of k) file).refusal ≡ accepted) same e in
          subst
          (λ (k : Kind).
          let through = (opening_pack (cipher_of k) (ring_for k r) file sound).answer.refusal ≢ wrong_tag in
          (TagAgrees kind r file → through) × (through → TagAgrees kind r file))
          (sym same) (
            agreed (cipher_of kind) (ring_for kind r) file sound ok,
            passed (cipher_of kind) (ring_for kind r) file sound ok,
          );
      only =
          λ file sound same z.
          subst (λ (k : Kind). (surveying (cipher_of k) file).refusal ≡ accepted) (sym same)
          (survey_refusal (cipher_of kind) file
          ∙ only_then (cipher_of kind) (ring_for kind r) file sound
          (subst (λ (k : Kind). (opening_pack (cipher_of k) (ring_for k r) file sound).answer.refusal ≡ wrong_tag) same z));
    }

-- by name
pub tags_trivium : (r : Rings) → Tags Trivium r
tags_trivium = tags Trivium

pub tags_enocoro : (r : Rings) → Tags Enocoro r
tags_enocoro = tags Enocoro

pub tags_triad : (r : Rings) → Tags Triad r
tags_triad = tags Triad
