-- Tests as definitions have them: a choice by a test, and two tests at once. Each law looks at the test's two values.
use mathlib.Core.{Path.◌≡◌, Path.refl, Bool.Bool, Bool.true, Bool.false, Bool.cond, Bool.◌&&◌}

-- what holds of either choice, given what the test said, holds of the choice
pub by_cond : {A : Type 0} (P : A → Type 0) (b : Bool) (x y : A) → (b ≡ true → P x) → (b ≡ false → P y) → P (cond b x y)
by_cond P true x y so other = so refl
by_cond P false x y so other = other refl

-- what is read off a choice
pub cond_map : {A B : Type 0} (f : A → B) (b : Bool) (x y : A) → f (cond b x y) ≡ cond b (f x) (f y)
cond_map f true x y = refl
cond_map f false x y = refl

pub and_both : {a b : Bool} → a ≡ true → b ≡ true → (a && b) ≡ true
and_both {a} {b} p q = rw (p, q)

pub and_first : (a b : Bool) → (a && b) ≡ true → a ≡ true
and_first true b e = refl
and_first false b e = e

pub and_second : (a b : Bool) → (a && b) ≡ true → b ≡ true
and_second true b e = e
and_second false true e = refl
and_second false false e = e

-- two tests fail together exactly if the second fails where the first holds
pub and_case : {a b : Bool} → a ≡ true → (a && b) ≡ false → b ≡ false
and_case {a} {b} p e = rw p at e

pub and_not : (a : Bool) {b : Bool} → (a ≡ true → b ≡ false) → (a && b) ≡ false
and_not true h = h refl
and_not false h = refl

-- a second test counts only where the first one holds
pub and_same : (a : Bool) {b c : Bool} → (a ≡ true → b ≡ c) → (a && b) ≡ (a && c)
and_same true same = same refl
and_same false same = refl
