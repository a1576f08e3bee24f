-- Which cipher a file is under. A file without a fault under a cipher has that cipher's key count, which picks it; and
-- of a file that ends before its key count no rule that is looked at depends on the cipher, so that bytes behind a file
-- never change what is said of it by the cipher that they pick.
use mathlib.Core.{Path.◌≡◌, Path.refl, Path.sym, Path.ap, Path.◌∙◌, Logic.◌≢◌, Logic.◌⊎◌, Logic.inl, Logic.inr}
use mathlib.Core.Logic.{⊎_elim}
use mathlib.Core.{Bool.Bool, Bool.true, Bool.false, List.List, List.[], List.◌∷◌, List.◌++◌}
use Prim.Native.Nat.{ℕ, ◌+◌, ◌<◌, ◌≤◌}
use native.Mathlib.Omega.{arith}
use borrow.Author.Tests.{eq-eqb, ne_eqb, eqb-true, eqb-false, ltb-true, ltb-false}
use lib.{Dec.eqb, Dec.ltb, ListN.length, ListN.get_or-append}
use Rattle.octets.specs.Stream.{Cipher}
use Rattle.refusals.specs.Numbers.{cut_in_key}
use Rattle.refusals.specs.Rules.{◌ends_before◌, Fault, ◌says◌, AllRight, verdict, reason}
use Rattle.refusals.proofs.Faults.{Alike, alike_front}
use Rattle.std.specs.Prelude.{Ok, Err, cond}
use Rattle.std.specs.Result.{result_unwrap_or}
use Rattle.refusals.specs.declared.Refusal.{Refusal, TheVariants.BadKeyCount}
use Rattle.pack.specs.Ciphers.{cipher_of, count_of, picked, named_by, Admitted, kind_in, cipher_in}
use Rattle.pack.specs.Faults.{name_section_faults, faults_from_key, file_faults}
use Rattle.pack.specs.Places.{byte_at, key_place}
use Rattle.pack.specs.{declared.Kind.Kind, declared.Kind.TheVariants.Trivium}
use Rattle.pack.specs.declared.Kind.TheVariants.{Enocoro, Triad}
use Rattle.pack.specs.Layout.{tag_length}
use Rattle.pack.proofs.AcceptedFiles.{key_right}

-- ---- by the count

pub picks_enocoro : {count : ℕ} → count ≡ count_of Enocoro → picked count ≡ Enocoro
unfolding picked
picks_enocoro {count} e = rw (eq-eqb count 9 e) refl

pub picks_triad : {count : ℕ} → count ≡ count_of Triad → picked count ≡ Triad
unfolding picked
picks_triad {count} e = rw (ne_eqb count 9 (omega arith), eq-eqb count 13 e) refl

pub picks_trivium : {count : ℕ} → count ≢ count_of Enocoro → count ≢ count_of Triad → picked count ≡ Trivium
unfolding picked
picks_trivium {count} nine thirteen = rw (ne_eqb count 9 nine, ne_eqb count 13 thirteen) refl

-- a cipher's own count picks it
own_picked : (kind : Kind) → picked (count_of kind) ≡ kind
own_picked Trivium = picks_trivium (λ e. omega arith) (λ e. omega arith)
own_picked Enocoro = picks_enocoro refl
own_picked Triad = picks_triad refl

-- that count names it, and no count but these three names any
pub named : {count : ℕ} (kind : Kind) → count ≡ count_of kind → Ok kind ≡ named_by count
unfolding named_by
named {count} kind e = rw (e, own_picked kind, eq-eqb (count_of kind) (count_of kind) refl) refl

pub unnamed : {count : ℕ} → count ≢ count_of Trivium → count ≢ count_of Enocoro → count ≢ count_of Triad
    → Err BadKeyCount ≡ named_by count
unfolding named_by
unnamed {count} eleven nine thirteen = rw (picks_trivium {count = count} nine thirteen, ne_eqb count 11 eleven) refl

-- what a caller knows, once it has told an Ok from an Err
pub is_named : (count : ℕ) {kind : Kind} → Ok kind ≡ named_by count → (kind ≡ picked count) × (count ≡ count_of kind)
unfolding named_by
is_named count {kind} e = go (eqb count (count_of (picked count))) refl e
  where
    go : (b : Bool) → eqb count (count_of (picked count)) ≡ b
        → Ok kind ≡ cond b (Ok (picked count)) (Err BadKeyCount)
        → (kind ≡ picked count) × (count ≡ count_of kind)
    go true t e = let same : kind ≡ picked count = cc in (same, eqb-true count _ t ∙ ap count_of (sym same))
    go false t e = absurd cc

pub is_unnamed : (count : ℕ) {refusal : Refusal} → Err refusal ≡ named_by count
    → (refusal ≡ BadKeyCount) × (count ≢ count_of (picked count))
unfolding named_by
is_unnamed count {refusal} e = go (eqb count (count_of (picked count))) refl e
  where
    go : (b : Bool) → eqb count (count_of (picked count)) ≡ b
        → Err refusal ≡ cond b (Ok (picked count)) (Err BadKeyCount)
        → (refusal ≡ BadKeyCount) × (count ≢ count_of (picked count))
    go true t e = absurd cc
    go false t e = (cc, eqb-false count _ t)

-- and one that names none picks Trivium
or_trivium : (b : Bool) → result_unwrap_or (cond b (Ok Trivium) (Err BadKeyCount)) Trivium ≡ Trivium
or_trivium true = refl
or_trivium false = refl

pub held : (count : ℕ) → result_unwrap_or (named_by count) Trivium ≡ picked count
unfolding named_by picked
held count = go (eqb count 9) (eqb count 13) refl refl
  where
    go : (b c : Bool) → eqb count 9 ≡ b → eqb count 13 ≡ c → result_unwrap_or (named_by count) Trivium ≡ picked count
    go true c e f = rw (eqb-true count 9 e) refl
    go false true e f = rw (eqb-true count 13 f) refl
    go false false e f = rw (e, f) (or_trivium (eqb count 11))

-- 11, 9 and 13, and no other count, are the picked cipher's own
pub admitted : (count : ℕ) → Admitted count
admitted count = (
  go (eqb count 9) (eqb count 13) refl refl,
  λ any. ⊎_elim (own Trivium) (λ other. ⊎_elim (own Enocoro) (own Triad) other) any,
)
  where
    own : (kind : Kind) → count ≡ count_of kind → count ≡ count_of (picked count)
    own kind e = e ∙ ap count_of (sym (ap picked e ∙ own_picked kind))

    go : (b c : Bool) → eqb count 9 ≡ b → eqb count 13 ≡ c → count ≡ count_of (picked count)
        → (count ≡ count_of Trivium) ⊎ ((count ≡ count_of Enocoro) ⊎ (count ≡ count_of Triad))
    go true c e f h = inr (inl (eqb-true count 9 e))
    go false true e f h = inr (inr (eqb-true count 13 f))
    go false false e f h =
        inl (h ∙ ap count_of (picks_trivium {count = count} (eqb-false count 9 e) (eqb-false count 13 f)))

-- an initial value and a tag section have at most 21 bytes together
pub short_value : (kind : Kind) → (cipher_of kind).value_bytes + tag_length (cipher_of kind) ≤ 21
short_value Trivium = omega arith
short_value Enocoro = omega arith
short_value Triad = omega arith

-- ---- a file without a fault

pub kind_found : (kind : Kind) (file : List ℕ) → AllRight (file_faults (cipher_of kind) file) → kind_in file ≡ kind
unfolding faults_from_key
kind_found kind file right = ap picked (key_right (cipher_of kind) file right).1.0 ∙ own_picked kind

-- ---- more bytes behind a file

-- a choice of a cipher for each file that bytes behind it don't disturb
abbrev pub Steady : (List ℕ → Cipher) → Type 0
Steady pick =
    (file more : List ℕ) → Alike (file_faults (pick file) file) (file_faults (pick (file ++ more)) file)

-- up to the key count
abbrev fore : List ℕ → List Fault
fore file = name_section_faults file 0 ++ ((length file ends_before key_place file + 1 says cut_in_key) ∷ [])

without_count : (one other : Cipher) (file : List ℕ) → length file ≤ key_place file
    → Alike (file_faults one file) (file_faults other file)
unfolding file_faults faults_from_key
without_count one other file short =
    alike_front (fore file) _ _ (λ right. omega (arith, right.1.1.1.1.0))

same_kind : (file more : List ℕ) → key_place file < length file → kind_in file ≡ kind_in (file ++ more)
same_kind file more there =
    let first : byte_at file 0 ≡ byte_at (file ++ more) 0 = sym (get_or-append file more 0 0 (omega arith)) in
    ap picked
    (sym (get_or-append file more 0 (key_place file) there)
    ∙ ap (λ (n : ℕ). byte_at (file ++ more) (0 + 1 + n)) first)

pub cipher_steady : Steady cipher_in
cipher_steady file more = go (ltb (key_place file) (length file)) refl
  where
    go : (b : Bool) → ltb (key_place file) (length file) ≡ b
        → Alike (file_faults (cipher_in file) file) (file_faults (cipher_in (file ++ more)) file)
    go true e =
        let same = same_kind file more (ltb-true _ _ e) in (
          ap (λ (k : Kind). verdict (file_faults (cipher_of k) file)) same,
          ap (λ (k : Kind). reason (file_faults (cipher_of k) file)) same,
        )
    go false e = without_count (cipher_in file) (cipher_in (file ++ more)) file (ltb-false _ _ e)
