-- What the code tells of a message is what the definition hears: both go by the same tests of the same numbers.
use mathlib.Core.Path.{◌≡◌, refl, sym, ap, subst, ◌∙◌}
use mathlib.Core.Bool.{Bool, true, false, cond, ◌&&◌}
use mathlib.Core.List.{List}
use Rattle.std.specs.Prelude.{Option, Some, None}
use Prim.Native.Nat.{ℕ, zero, suc, ◌+◌, ◌*◌, ◌<◌, ◌≤◌}
use native.Mathlib.Omega.{arith}
use borrow.Author.Tests.{eqb-true, leb-true, eq-eqb, ne_eqb, le-leb}
use lib.{Dec.eqb, Dec.leb, ListN.length, ListN.get_or, ListN.drop, ListN.length-drop}
use Rattle.octets.specs.Digits.{number, number_at, number_after}
use Rattle.octets.proofs.Slices.{slice_read}
use Rattle.refusals.proofs.Tests.{cond_map, and_first, and_second}
use Rattle.blocks.specs.Blocks.{longest, whole}
use Rattle.frames.specs.{Frames.some, Frames.in_limits, Frames.heard, Told.kind_number, Told.kind_of, Told.told}
use Rattle.frames.specs.{Told.heard_as, declared.FrameKind.FrameKind, declared.Told.Told}
use Rattle.frames.specs.declared.Told.TheVariants as the_told

-- the numbers of a message
pub record Seen : Type 0 where
  pub size : ℕ
  pub kind : ℕ
  pub session : ℕ
  pub sound : ℕ
  pub number : ℕ
  pub count : ℕ

-- a row of the table that isn't fitted in one of three ways
unfitted : (a b c : Bool) → (a ≡ true → b ≡ true → c ≡ true → ⊥) → (a && b && c) ≡ false
unfitted true true true clash = absurd (clash refl refl refl)
unfitted true true false clash = refl
unfitted true false c clash = refl
unfitted false b c clash = refl

module _ (s : Seen) where
  -- the tests of the four rows, and what they tell
  abbrev is_opening : Bool
  is_opening = eqb s.kind 1 && eqb s.size 9 && (some s.session && leb s.sound longest)

  abbrev is_block : Bool
  is_block =
      eqb s.kind 2 && eqb s.size (8 + s.count)
      && (some s.session && (leb 1 s.count && leb s.count whole))

  abbrev is_holds : Bool
  is_holds = eqb s.kind 3 && eqb s.size 7 && some s.session

  abbrev is_too_long : Bool
  is_too_long = eqb s.kind 4 && eqb s.size 5 && some s.session

  abbrev pub tests : Option Told
  tests =
      cond is_opening (Some (the_told.Opening s.session s.sound))
      (cond is_block (Some (the_told.Block s.session s.number s.count))
      (cond is_holds (Some (the_told.Holds s.session s.number))
      (cond is_too_long (Some (the_told.TooLong s.session))
      None)))

  -- what each row asks of the numbers, and numbers that fit no row
  abbrev pub Opening : Type 0
  Opening = (s.kind ≡ 1) × (s.size ≡ 9) × (1 ≤ s.session) × (s.sound ≤ longest)

  abbrev pub Block : Type 0
  Block = (s.kind ≡ 2) × (s.size ≡ 8 + s.count) × (1 ≤ s.session) × (1 ≤ s.count) × (s.count ≤ whole)

  abbrev pub Holds : Type 0
  Holds = (s.kind ≡ 3) × (s.size ≡ 7) × (1 ≤ s.session)

  abbrev pub TooLong : Type 0
  TooLong = (s.kind ≡ 4) × (s.size ≡ 5) × (1 ≤ s.session)

  abbrev pub NoRow : Type 0
  NoRow = (Opening → ⊥) × (Block → ⊥) × (Holds → ⊥) × (TooLong → ⊥)

  -- what is told then
  tests_opening : Opening → tests ≡ Some (the_told.Opening s.session s.sound)
  tests_opening (k, z, o, l) = rw (k, z, le-leb 1 s.session o, le-leb s.sound longest l)

  tests_block : Block → tests ≡ Some (the_told.Block s.session s.number s.count)
  tests_block (k, z, o, n, l) =
      rw (
        k,
        eq-eqb s.size (8 + s.count) z,
        le-leb 1 s.session o,
        le-leb 1 s.count n,
        le-leb s.count whole l,
      )

  tests_holds : Holds → tests ≡ Some (the_told.Holds s.session s.number)
  tests_holds (k, z, o) = rw (k, z, le-leb 1 s.session o)

  tests_too_long : TooLong → tests ≡ Some (the_told.TooLong s.session)
  tests_too_long (k, z, o) = rw (k, z, le-leb 1 s.session o)

  tests_nothing : NoRow → tests ≡ None
  tests_nothing (a, b, c, d) =
      let o : Bool = some s.session in
      let session : o ≡ true → 1 ≤ s.session = leb-true 1 s.session in
      let short : Bool = leb s.sound longest in
      let opening : is_opening ≡ false =
      unfitted (eqb s.kind 1) (eqb s.size 9) (o && short)
      (λ k z l. a
      (eqb-true _ _ k, eqb-true _ _ z, session (and_first o short l), leb-true _ _ (and_second o short l))) in
      let any : Bool = leb 1 s.count in
      let few : Bool = leb s.count whole in
      let block : is_block ≡ false =
      unfitted (eqb s.kind 2) (eqb s.size (8 + s.count)) (o && (any && few))
      (λ k z l. let n = and_second o (any && few) l in
      b (
        eqb-true _ _ k,
        eqb-true _ _ z,
        session (and_first o (any && few) l),
        leb-true _ _ (and_first any few n),
        leb-true _ _ (and_second any few n),
      )) in
      let holds : is_holds ≡ false =
      unfitted (eqb s.kind 3) (eqb s.size 7) o (λ k z l. c (eqb-true _ _ k, eqb-true _ _ z, session l)) in
      let too_long : is_too_long ≡ false =
      unfitted (eqb s.kind 4) (eqb s.size 5) o (λ k z l. d (eqb-true _ _ k, eqb-true _ _ z, session l)) in
      rw (opening, block, holds, too_long)

-- a message of the length that its count says has as many bytes behind the count
counted : (m : List ℕ) (b s : Bool) (n : ℕ) (f : ℕ → Option Told) (other : Option Told) → let rest = length (drop 8 m) in
    cond (b && eqb (length m) (8 + n) && (s && (leb 1 rest && leb rest whole))) (f rest) other
    ≡ cond (b && eqb (length m) (8 + n) && (s && (leb 1 n && leb n whole))) (f n) other
counted m b s n f other = go (b && eqb (length m) (8 + n)) refl
  where
    go : (t : Bool) → (b && eqb (length m) (8 + n)) ≡ t → let rest = length (drop 8 m) in
        cond (t && (s && (leb 1 rest && leb rest whole))) (f rest) other
        ≡ cond (t && (s && (leb 1 n && leb n whole))) (f n) other
    go true e =
        let long : length m ≡ 8 + n = eqb-true (length m) (8 + n) (and_second b (eqb (length m) (8 + n)) e) in
        let same : length (drop 8 m) ≡ n = length-drop 8 m ∙ omega arith in
        ap (λ (k : ℕ). cond (s && (leb 1 k && leb k whole)) (f k) other) same
    go false e = refl

-- the numbers that stand in a message, as many bytes as it may have
abbrev pub seen : List ℕ → Seen
seen m =
    record {
      size = length m;
      kind = number_at m 0 1;
      session = number_at m 1 4;
      sound = number_at m 5 4;
      number = number_at m 5 2;
      count = number_at m 7 1;
    }

read_so : (m : List ℕ) → told (heard m) ≡ tests (seen m)
unfolding heard in_limits
read_so m = simp (cond_map told) (rw (counted m _ _ _ (λ n. Some (the_told.Block (number_at m 1 4) (number_at m 5 2) n)) _))

module _ (m : List ℕ) where
  heard_so : {t : Option Told} → tests (seen m) ≡ t → t ≡ told (heard m)
  heard_so e = sym (read_so m ∙ e)

  pub tells_opening : Opening (seen m) → Some (the_told.Opening (number_at m 1 4) (number_at m 5 4)) ≡ told (heard m)
  tells_opening fit = heard_so (tests_opening (seen m) fit)

  pub tells_block : Block (seen m)
      → Some (the_told.Block (number_at m 1 4) (number_at m 5 2) (number_at m 7 1)) ≡ told (heard m)
  tells_block fit = heard_so (tests_block (seen m) fit)

  pub tells_holds : Holds (seen m) → Some (the_told.Holds (number_at m 1 4) (number_at m 5 2)) ≡ told (heard m)
  tells_holds fit = heard_so (tests_holds (seen m) fit)

  pub tells_too_long : TooLong (seen m) → Some (the_told.TooLong (number_at m 1 4)) ≡ told (heard m)
  tells_too_long fit = heard_so (tests_too_long (seen m) fit)

  pub tells_nothing : NoRow (seen m) → None ≡ told (heard m)
  tells_nothing none = heard_so (tests_nothing (seen m) none)

-- ---- the first byte, and any byte that is read for a number

-- a byte is the number that it makes
pub byte : (m : List ℕ) (at : ℕ) → at < length m → get_or m at 0 ≡ number_at m at 1
unfolding number_after
byte m at h = alone (get_or m at 0) ∙ ap (number 256) (slice_read m at 0 0 (omega arith))
  where
    alone : (x : ℕ) → x ≡ 0 * 256 + x
    alone x = omega arith

-- a kind's number is the byte that has this kind, and no other byte has one
number_or : ℕ → Option FrameKind → ℕ
number_or other None = other
number_or other (Some kind) = kind_number kind

other_byte : (n : ℕ) → 4 < n → None ≡ kind_of n
other_byte n h =
    rw (ne_eqb n 1 (omega arith), ne_eqb n 2 (omega arith), ne_eqb n 3 (omega arith), ne_eqb n 4 (omega arith))

number_of_byte : (n : ℕ) → n ≡ number_or n (kind_of n)
unfolding number_or
number_of_byte zero = refl
number_of_byte (suc zero) = refl
number_of_byte (suc (suc zero)) = refl
number_of_byte (suc (suc (suc zero))) = refl
number_of_byte (suc (suc (suc (suc zero)))) = refl
number_of_byte (suc (suc (suc (suc (suc n))))) =
    let big : ℕ = suc (suc (suc (suc (suc n)))) in ap (number_or big) (other_byte big (omega arith))

no_kind : (n : ℕ) → kind_of n ≡ None → 0 < n → 4 < n
no_kind zero e h = omega arith
no_kind (suc zero) e h = absurd cc
no_kind (suc (suc zero)) e h = absurd cc
no_kind (suc (suc (suc zero))) e h = absurd cc
no_kind (suc (suc (suc (suc zero)))) e h = absurd cc
no_kind (suc (suc (suc (suc (suc n))))) e h = omega arith

module _ (m : List ℕ) (some : 0 < length m) {o : Option FrameKind} (e : o ≡ kind_of (get_or m 0 0)) where
  pub first_byte : {kind k : FrameKind} → o ≡ Some kind → kind ≡ k → number_at m 0 1 ≡ kind_number k
  unfolding number_or
  first_byte is same =
      sym (byte m 0 some) ∙ number_of_byte (get_or m 0 0)
      ∙ ap (number_or (get_or m 0 0)) (sym e ∙ is) ∙ ap kind_number same

  pub no_first_byte : o ≡ None → 0 < number_at m 0 1 → 4 < number_at m 0 1
  no_first_byte none h = subst (λ (n : ℕ). 0 < n → 4 < n) (byte m 0 some) (no_kind (get_or m 0 0) (sym e ∙ none)) h

-- ---- from what the code tells back to what was heard

pub told_back : (m : List ℕ) {t : Option Told} → t ≡ told (heard m) → heard m ≡ heard_as (drop 8 m) t
unfolding heard
told_back m e = sym (ap (heard_as (drop 8 m)) e ∙ simp (cond_map (λ h. heard_as (drop 8 m) (told h))))

-- which tells the same
pub told_again : (m : List ℕ) {t : Option Told} → t ≡ told (heard m) → t ≡ told (heard_as (drop 8 m) t)
told_again m e = e ∙ ap told (told_back m e)
