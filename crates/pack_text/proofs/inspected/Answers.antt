-- The rings are those of the input's first bytes, and the file is the rest.
use Rattle.std.proofs.Common.{◌≡◌, ℕ, List, length, refl, ap, ap₂, ◌∙◌}
use Rattle.std.specs.Prelude.{Ok}
use borrow.Author.Tests.{eq-eqb}
use Rattle.pack.specs.{Calls.inspecting_file, declared.Rings.Rings}
use Rattle.rings.specs.Ring.{keys_bytes, rings_of, rings_in}
use Rattle.pack_text.proofs.inspected.Goals as goal

-- all keys have their rings
all_keys : (keys : List ℕ) → length keys ≡ keys_bytes → rings_in keys ≡ Ok (rings_of keys)
all_keys keys long = rw (eq-eqb (length keys) keys_bytes long) refl

given : (keys : List ℕ) (r : Rings) → length keys ≡ keys_bytes → Ok r ≡ rings_in keys → r ≡ rings_of keys
given keys r long e = let h = e ∙ all_keys keys long in cc

pub returns-in_err-rings : goal.returns-in_err-rings
returns-in_err-rings c =
    let e = c.in_err-rings.ensures ∙ all_keys c.split_at.result.0.now c.split_at.ensures.front_len in absurd cc

pub returns : goal.returns
returns c =
    let parts = c.split_at.ensures in
    c.inspect.ensures
    ∙ ap₂ inspecting_file
    (given c.split_at.result.0.now _ parts.front_len c.in_ok-rings.ensures ∙ ap rings_of parts.front) parts.back
