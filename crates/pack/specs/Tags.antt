-- What a tag decides: on what callers see, whether a file is refused for it.
use Rattle.std.specs.Prelude.{ℕ, ℤ}
use mathlib.Core.{List.List, Logic.◌≢◌, Path.◌≡◌}
use Rattle.refusals.specs.Numbers.{accepted, wrong_tag}
use Rattle.pack.specs.Calls.{surveying_file, opening_file}
use Rattle.pack.specs.Ciphers.{cipher_of, kind_in, ring_for}
use Rattle.pack.specs.declared.Rings.{Rings}
use Rattle.pack.specs.{Places.tag_in, Places.tag_place, Places.tag_due, declared.Kind.Kind}

-- the tag that a file has is the one that is due to it
abbrev pub TagAgrees : Kind → Rings → List ℕ → Type 0
TagAgrees kind r file =
    tag_in (cipher_of kind) file (tag_place (cipher_of kind) file) ≡ tag_due (cipher_of kind) (ring_for kind r) file

pub record Tags (kind : Kind) (r : Rings) : Type 0 where
  -- a file without a fault in itself passes 38 exactly if its tag agrees, whatever the room
  pub decides : (file : List ℕ) (sound : List ℤ) → kind_in file ≡ kind → (surveying_file file).refusal ≡ accepted
      → let passed = (opening_file r file sound).answer.refusal ≢ wrong_tag in
      (TagAgrees kind r file → passed) × (passed → TagAgrees kind r file)
  -- and no other file is refused so
  pub only : (file : List ℕ) (sound : List ℤ) → kind_in file ≡ kind
      → (opening_file r file sound).answer.refusal ≡ wrong_tag
      → (surveying_file file).refusal ≡ accepted
