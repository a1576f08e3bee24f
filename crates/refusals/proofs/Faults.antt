-- Lists of faults as plain facts. A rule's test and its meaning agree, once for each of the six kinds; so nothing is
-- refused exactly if every rule of the list holds, whatever the list, as long as no rule's number is 0.
use Prim.Native.Nat.{ℕ, zero, suc, ◌<◌}
use mathlib.Core.Bool.{Bool, true, false, not, cond, ◌&&◌}
use mathlib.Core.List.{List, [], ◌∷◌, ◌++◌}
use mathlib.Core.Logic.{◌≢◌}
use mathlib.Core.Path.{◌≡◌, refl, sym, ap, ap₂, ◌∙◌}
use borrow.Author.Tests.{ltb-true, ltb-false, eqb-true, eqb-false, not-true, not-false, lt-ltb, le-ltb, eq-eqb, ne_eqb}
use lib.{Dec.T, Dec.eqb, Dec.ltb, ListN.drop}
use Rattle.refusals.specs.Numbers.{accepted}
use Rattle.refusals.specs.Rules.{Wrong, ◌over◌, ◌under◌, ◌unlike◌, ◌ends_before◌, unless, ◌given◌is◌, broken}
use Rattle.refusals.specs.Rules.{Right, missing, Fault, AllRight, told, first, lacking, verdict_of, verdict}
use Rattle.refusals.specs.Rules.{reason, settled}
use Rattle.refusals.proofs.Tests.{by_cond, and_both, and_first, and_second, and_case, and_not}

pub right : (w : Wrong) → broken w ≡ false → Right w
right (x over limit) e = ltb-false limit x e
right (x under limit) e = ltb-false x limit e
right (x unlike y) e = eqb-true x y (not-false (eqb x y) e)
right (n ends_before place) e = ltb-false n place e
right (unless test) e = not-false test e
right (w given x is y) e = λ same. right w (and_case (eq-eqb x y same) e)

pub fine : (w : Wrong) → Right w → broken w ≡ false
fine (x over limit) h = le-ltb limit x h
fine (x under limit) h = le-ltb x limit h
fine (x unlike y) h = ap not (eq-eqb x y h)
fine (n ends_before place) h = le-ltb n place h
fine (unless test) h = ap not h
fine (w given x is y) h = and_not (eqb x y) (λ t. fine w (h (eqb-true x y t)))

-- what is known where a rule is broken
abbrev pub Broken : Wrong → Type 0
Broken (x over limit) = limit < x
Broken (x under limit) = x < limit
Broken (x unlike y) = x ≢ y
Broken (n ends_before place) = n < place
Broken (unless test) = test ≡ false
Broken (w given x is y) = (x ≡ y) × Broken w

wrong : (w : Wrong) → Broken w → broken w ≡ true
wrong (x over limit) h = lt-ltb limit x h
wrong (x under limit) h = lt-ltb x limit h
wrong (x unlike y) h = ap not (ne_eqb x y h)
wrong (n ends_before place) h = lt-ltb n place h
wrong (unless test) h = ap not h
wrong (w given x is y) h = and_both (eq-eqb x y h.0) (wrong w h.1)

pub is_wrong : (w : Wrong) → broken w ≡ true → Broken w
is_wrong (x over limit) e = ltb-true limit x e
is_wrong (x under limit) e = ltb-true x limit e
is_wrong (x unlike y) e = eqb-false x y (not-true (eqb x y) e)
is_wrong (n ends_before place) e = ltb-true n place e
is_wrong (unless test) e = not-true test e
is_wrong (w given x is y) e =
    (eqb-true x y (and_first (eqb x y) (broken w) e), is_wrong w (and_second (eqb x y) (broken w) e))

-- rule number k is the first that is broken, counted from 0
abbrev pub FailsAt : ℕ → List Fault → Type 0
FailsAt k [] = ⊥
FailsAt zero (f ∷ faults) = Broken f.wrong
FailsAt (suc k) (f ∷ faults) = Right f.wrong × FailsAt k faults

-- the rules before number k are right
abbrev pub RightBefore : ℕ → List Fault → Type 0
RightBefore zero faults = Unit
RightBefore (suc k) [] = Unit
RightBefore (suc k) (f ∷ faults) = Right f.wrong × RightBefore k faults

-- ---- what a list tells, whatever is asked of the first broken rule

module _ {A : Type 0} (about : Fault → A) (none : A) where
  -- all rules hold
  told_right : (faults : List Fault) → AllRight faults → none ≡ told about none faults
  unfolding told
  told_right [] h = refl
  told_right (f ∷ faults) h = rw (fine f.wrong h.0) (told_right faults h.1)

  abbrev told_at : ℕ → List Fault → A
  told_at k [] = none
  told_at zero (f ∷ faults) = about f
  told_at (suc k) (f ∷ faults) = told_at k faults

  -- one is broken
  told_at_lem : (k : ℕ) (faults : List Fault) → FailsAt k faults → told_at k faults ≡ told about none faults
  unfolding told
  told_at_lem k [] h = absurd h
  told_at_lem zero (f ∷ faults) h = rw (wrong f.wrong h)
  told_at_lem (suc k) (f ∷ faults) h = rw (fine f.wrong h.0) (told_at_lem k faults h.1)

  -- the first ones hold, and those behind them decide
  told_from : (k : ℕ) (faults : List Fault) → RightBefore k faults
      → told about none (drop k faults) ≡ told about none faults
  unfolding told
  told_from zero faults h = refl
  told_from (suc k) [] h = refl
  told_from (suc k) (f ∷ faults) h = rw (fine f.wrong h.0) (told_from k faults h.1)

-- what a broken rule lacks
abbrev lack : Fault → ℕ
lack f = missing f.wrong

-- ---- all rules hold

pub all_right : (faults : List Fault) → AllRight faults → accepted ≡ first faults
unfolding first
all_right = told_right (λ f. f.number) accepted

-- no rule's number is the one of a call that isn't refused
abbrev pub numbered : List Fault → Bool
numbered [] = true
numbered (f ∷ faults) = ltb accepted f.number && numbered faults

numbered_front : (a b : Bool) → T (a && b) → T a × T b
numbered_front true b h = (tt, h)
numbered_front false b h = absurd h

-- of two lists, one after the other
pub numbered_both : (xs ys : List Fault) → T (numbered xs) → T (numbered ys) → T (numbered (xs ++ ys))
numbered_both [] ys h k = k
numbered_both (x ∷ xs) ys h k =
    let no = numbered_front (ltb accepted x.number) (numbered xs) h in
    both (ltb accepted x.number) (numbered (xs ++ ys)) no.0 (numbered_both xs ys no.1 k)
  where
    both : (a b : Bool) → T a → T b → T (a && b)
    both true b h k = k
    both false b h k = absurd h

zero_no : (n : ℕ) → n ≡ accepted → T (ltb accepted n) → ⊥
zero_no n z t = rw z at t

-- a rule in front of others
in_front : (f : Fault) (b : Bool) (rest : ℕ) → broken f.wrong ≡ b → T (ltb accepted f.number)
    → cond b f.number rest ≡ accepted
    → Right f.wrong × (rest ≡ accepted)
in_front f true rest w n e = absurd (zero_no f.number e n)
in_front f false rest w n e = (right f.wrong w, e)

-- a call that isn't refused has kept its first rule
pub first_right : (f : Fault) (faults : List Fault) → T (ltb accepted f.number) → first (f ∷ faults) ≡ accepted
    → Right f.wrong
unfolding first told
first_right f faults n e = (in_front f (broken f.wrong) (first faults) refl n e).0

pub none_wrong : (faults : List Fault) → T (numbered faults) → first faults ≡ accepted → AllRight faults
unfolding first told
none_wrong [] n e = tt
none_wrong (f ∷ faults) n e =
    let no = numbered_front (ltb accepted f.number) (numbered faults) n in
    let here = in_front f (broken f.wrong) (first faults) refl no.0 e in
    (here.0, none_wrong faults no.1 here.1)

-- two lists, one after the other
pub right_both : (xs ys : List Fault) → AllRight (xs ++ ys) → AllRight xs × AllRight ys
right_both [] ys h = (tt, h)
right_both (x ∷ xs) ys h = let rest = right_both xs ys h.1 in ((h.0, rest.0), rest.1)

pub right_after : (xs ys : List Fault) → AllRight xs → AllRight ys → AllRight (xs ++ ys)
right_after [] ys h k = k
right_after (x ∷ xs) ys h k = (h.0, right_after xs ys h.1 k)

-- ---- a rule is broken

abbrev pub number_at : ℕ → List Fault → ℕ
number_at = told_at (λ f. f.number) accepted

abbrev pub lacking_at : ℕ → List Fault → ℕ
lacking_at = told_at lack 0

pub refused_at : (k : ℕ) (faults : List Fault) → FailsAt k faults → number_at k faults ≡ first faults
unfolding first
refused_at = told_at_lem (λ f. f.number) accepted

-- the same for a number that the code writes
pub refused_so_lem : (k : ℕ) (faults : List Fault) {n : ℕ} → FailsAt k faults → n ≡ number_at k faults → n ≡ first faults
refused_so_lem k faults fails same = same ∙ refused_at k faults fails

-- ---- and a number tells which rule is broken, if only one has it

-- no rule of the list has the number n, which isn't the one of a call that isn't refused
abbrev pub unlisted : ℕ → List Fault → Bool
unlisted n [] = ltb accepted n
unlisted n (f ∷ faults) = not (eqb f.number n) && unlisted n faults

-- none but rule k has it
abbrev pub only_at : ℕ → ℕ → List Fault → Bool
only_at n k [] = unlisted n []
only_at n zero (f ∷ faults) = unlisted n faults
only_at n (suc k) (f ∷ faults) = not (eqb f.number n) && only_at n k faults

differs : (m n : ℕ) → T (not (eqb m n)) → m ≢ n
differs m n t e = rw (eq-eqb m n e) at t

pub never : (n : ℕ) (faults : List Fault) → T (unlisted n faults) → first faults ≢ n
unfolding first told
never n [] t = λ e. zero_no n (sym e) t
never n (f ∷ faults) t =
    let other = numbered_front (not (eqb f.number n)) (unlisted n faults) t in
    by_cond (λ (m : ℕ). m ≢ n) (broken f.wrong) f.number (first faults)
    (λ _. differs f.number n other.0) (λ _. never n faults other.1)

pub blamed : (n k : ℕ) (faults : List Fault) → T (only_at n k faults) → first faults ≡ n → FailsAt k faults
unfolding first told
blamed n k [] t = λ e. absurd (never n [] t e)
blamed n zero (f ∷ faults) t =
    by_cond (λ (m : ℕ). m ≡ n → Broken f.wrong) (broken f.wrong) f.number (first faults)
    (λ b _. is_wrong f.wrong b) (λ _ e. absurd (never n faults t e))
blamed n (suc k) (f ∷ faults) t =
    let other = numbered_front (not (eqb f.number n)) (only_at n k faults) t in
    by_cond (λ (m : ℕ). m ≡ n → FailsAt (suc k) (f ∷ faults)) (broken f.wrong) f.number (first faults)
    (λ _ e. absurd (differs f.number n other.0 e))
    (λ b e. (right f.wrong b, blamed n k faults other.1 e))

-- the rules from number k on decide if those before it are right
pub first_from : (k : ℕ) (faults : List Fault) → RightBefore k faults → first (drop k faults) ≡ first faults
unfolding first
first_from = told_from (λ f. f.number) accepted

-- in two lists the first decides, if one of its rules is broken, and else the second
pub first_append : (xs ys : List Fault) → T (numbered xs) → first (xs ++ ys) ≡ settled xs (first ys) (λ n. n)
unfolding first told settled
first_append [] ys n = refl
first_append (x ∷ xs) ys n =
    let no = numbered_front (ltb accepted x.number) (numbered xs) n in
    decides (broken x.wrong) x.number (first xs) (first (xs ++ ys)) (first ys) no.0
    (first_append xs ys no.1)
  where
    decides : (b : Bool) (n some all others : ℕ) → T (ltb accepted n) → all ≡ cond (eqb some accepted) others some
        → cond b n all ≡ cond (eqb (cond b n some) accepted) others (cond b n some)
    decides true n some all others t e = rw (ne_eqb n accepted (λ z. zero_no n z t))
    decides false n some all others t e = e

-- a rule that holds, in front of others
pub rule_passes : (f : Fault) (faults : List Fault) → Right f.wrong → first faults ≡ first (f ∷ faults)
rule_passes f faults h = first_from 1 (f ∷ faults) (h, tt)

-- and one that stands among them
pub passes_among : (xs : List Fault) (f : Fault) (ys : List Fault) → Right f.wrong
    → first (xs ++ ys) ≡ first (xs ++ (f ∷ ys))
unfolding first told
passes_among [] f ys h = rule_passes f ys h
passes_among (x ∷ xs) f ys h = ap (cond (broken x.wrong) x.number) (passes_among xs f ys h)

pub lacking_passes : (f : Fault) (faults : List Fault) → Right f.wrong → lacking faults ≡ lacking (f ∷ faults)
unfolding lacking
lacking_passes f faults h = told_from lack 0 1 (f ∷ faults) (h, tt)

-- ---- both numbers of a refusal

-- rules behind others that lack nothing themselves don't change what is lacking
pub lacking_append : (xs ys : List Fault) → lacking ys ≡ 0 → lacking (xs ++ ys) ≡ lacking xs
unfolding lacking told
lacking_append [] ys none = none
lacking_append (f ∷ xs) ys none =
    ap (λ (rest : ℕ). cond (broken f.wrong) (missing f.wrong) rest) (lacking_append xs ys none)

pub verdict_right : (faults : List Fault) → AllRight faults → verdict_of accepted 0 ≡ verdict faults
unfolding lacking
verdict_right faults h = ap₂ verdict_of (all_right faults h) (told_right lack 0 faults h)

pub verdict_at : (k : ℕ) (faults : List Fault) {n l : ℕ} → FailsAt k faults → n ≡ number_at k faults
    → l ≡ lacking_at k faults
    → verdict_of n l ≡ verdict faults
unfolding lacking
verdict_at k faults h p q = ap₂ verdict_of (p ∙ refused_at k faults h) (q ∙ told_at_lem lack 0 k faults h)

pub verdict_from : (k : ℕ) (faults : List Fault) → RightBefore k faults → verdict (drop k faults) ≡ verdict faults
unfolding lacking
verdict_from k faults h = ap₂ verdict_of (first_from k faults h) (told_from lack 0 k faults h)

-- the same rule in front of two lists that come to the same where it holds
pub verdict_tail : (f : Fault) (xs ys : List Fault) → (Right f.wrong → verdict xs ≡ verdict ys)
    → verdict (f ∷ xs) ≡ verdict (f ∷ ys)
verdict_tail f xs ys same = go (broken f.wrong) refl
  where
    go : (b : Bool) → broken f.wrong ≡ b → verdict (f ∷ xs) ≡ verdict (f ∷ ys)
    go true e =
        let no = is_wrong f.wrong e in sym (verdict_at 0 (f ∷ xs) no refl refl) ∙ verdict_at 0 (f ∷ ys) no refl refl
    go false e =
        let yes = right f.wrong e in
        sym (verdict_from 1 (f ∷ xs) (yes, tt)) ∙ same yes ∙ verdict_from 1 (f ∷ ys) (yes, tt)

-- what holds of both numbers of each broken rule, and of none, holds of the verdict
abbrev pub Each : (ℕ → ℕ → Type 0) → List Fault → Type 0
Each P [] = Unit
Each P (f ∷ faults) = (Broken f.wrong → P f.number (missing f.wrong)) × Each P faults

pub by_verdict : (P : ℕ → ℕ → Type 0) → P accepted 0 → (faults : List Fault) → Each P faults
    → P (first faults) (lacking faults)
unfolding first lacking told
by_verdict P none [] each = none
by_verdict P none (f ∷ faults) each =
    go (broken f.wrong) (λ e. each.0 (is_wrong f.wrong e)) (by_verdict P none faults each.1)
  where
    go : (b : Bool) {m n k l : ℕ} → (b ≡ true → P m k) → P n l → P (cond b m n) (cond b k l)
    go true here later = here refl
    go false here later = later

-- ---- which rule is broken

pub reason_here : (f : Fault) (faults : List Fault) → Broken f.wrong → 0 ≡ reason (f ∷ faults)
unfolding reason
reason_here f faults h = rw (wrong f.wrong h)

pub reason_later : (f : Fault) (faults : List Fault) → Right f.wrong → suc (reason faults) ≡ reason (f ∷ faults)
unfolding reason
reason_later f faults h = rw (fine f.wrong h)

-- ---- lists that begin alike

-- Whatever is said of a list by its first broken rule is said by a front that has one: what stands behind it doesn't
-- count.
by_front : {A : Type 0} (say : List Fault → A) (here : Fault → A) (later : A → A)
    → ((f : Fault) (faults : List Fault) → say (f ∷ faults) ≡ cond (broken f.wrong) (here f) (later (say faults)))
    → (xs ys zs : List Fault) → (AllRight xs → ⊥) → say (xs ++ ys) ≡ say (xs ++ zs)
by_front say here later law [] ys zs wrong = absurd (wrong tt)
by_front {A} say here later law (f ∷ xs) ys zs wrong =
    law f (xs ++ ys) ∙ go (broken f.wrong) refl (by_front say here later law xs ys zs) ∙ sym (law f (xs ++ zs))
  where
    go : (b : Bool) → broken f.wrong ≡ b → ((AllRight xs → ⊥) → say (xs ++ ys) ≡ say (xs ++ zs))
        → cond b (here f) (later (say (xs ++ ys))) ≡ cond b (here f) (later (say (xs ++ zs)))
    go true e rest = refl
    go false e rest = ap later (rest (λ all. wrong (right f.wrong e, all)))

-- the number, what is lacking, and the reason
abbrev pub Alike : List Fault → List Fault → Type 0
Alike xs ys = (verdict xs ≡ verdict ys) × (reason xs ≡ reason ys)

pub alike_front : (xs ys zs : List Fault) → (AllRight xs → ⊥) → Alike (xs ++ ys) (xs ++ zs)
unfolding told first lacking reason
alike_front xs ys zs wrong = (
  ap₂ verdict_of (by_front first (λ f. f.number) (λ n. n) (λ f faults. refl) xs ys zs wrong)
      (by_front lacking (λ f. missing f.wrong) (λ n. n) (λ f faults. refl) xs ys zs wrong),
  by_front reason (λ f. 0) suc (λ f faults. refl) xs ys zs wrong,
)
