-- Without a tag both numbers are 0, and with one `tag_differs` decides.
use Rattle.std.proofs.Common.{◌≡◌, ℕ, List, false, not, eqb, ◌⊎◌, refl}
use mathlib.Core.Logic.{inl, inr}
use Rattle.octets.specs.Digits.{number_after}
use Rattle.pack.specs.{Ciphers.cipher_of, Places.tag_in, Places.tag_place, Places.tag_due, declared.Kind.Kind}
use Rattle.pack.specs.declared.Kind.TheVariants.{Trivium, Enocoro, Triad}
use Rattle.inspector.proofs.tag_wrong.Goals as goal

none_differ : (kind : Kind) (ring : List (List ℕ)) (file : List ℕ) → (kind ≡ Trivium) ⊎ (kind ≡ Enocoro)
    → false ≡ not (eqb (tag_due (cipher_of kind) ring file) (tag_in (cipher_of kind) file (tag_place (cipher_of kind) file)))
unfolding tag_due number_after
none_differ Trivium ring file h = refl
none_differ Enocoro ring file h = refl
none_differ Triad ring file (inl e) = absurd cc
none_differ Triad ring file (inr e) = absurd cc

pub returns-in-Trivium : goal.returns-in-Trivium
returns-in-Trivium c = none_differ c.args.kind c.args.ring c.args.file.now c.in-Trivium.is
