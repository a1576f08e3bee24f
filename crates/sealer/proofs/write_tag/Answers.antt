-- Without a tag its row has no bytes; with one, the tag is that of what stands before it, behind its count.
use mathlib.Core.{Path.◌≡◌, Path.refl, Path.sym, Path.ap, Path.ap₂, Path.◌∙◌, Logic.⊎_elim, List.List, List.[], List.◌∷◌, List.◌++◌}
use mathlib.Core.List.{append-nil}
use Prim.Native.Nat.{ℕ, ◌+◌, ◌≤◌}
use native.Mathlib.Omega.{arith}
use lib.ListN.{length, set}
use Rattle.octets.specs.{Buffers.put, Digits.digits, Rows.row}
use Rattle.octets.proofs.{Buffers.put_nothing, Buffers.puts_on, Numbers.length_digits, Numbers.one_digit}
use Rattle.refusals.proofs.Settled.{done_if}
use Rattle.sealer.specs.Tags.{tag_row}
use Rattle.sealer.proofs.Stores.{one_put}
use Rattle.sealer.proofs.write_tag.Goals as goal

-- a count of eight, and eight bytes behind it
behind_count : (d : List ℕ) (at : ℕ) {e : List ℕ} {n due : ℕ} → at + 9 ≤ length d → n ≡ due
    → e ≡ put (set d at 8) (at + 1) (digits 256 8 n)
    → e ≡ put d at (digits 256 1 8 ++ (digits 256 8 due ++ []))
behind_count d at {n = n} {due = due} room same e =
    e
    ∙ puts_on d at (8 ∷ []) (digits 256 8 n) (one_put d at 8 (omega arith)) refl (omega (arith, length_digits 256 8 n))
    ∙ ap₂ (λ (l : List ℕ) (m : ℕ). put d at (l ++ digits 256 8 m)) (sym (one_digit 256 8 (omega arith))) same
    ∙ ap (λ (l : List ℕ). put d at (digits 256 1 8 ++ l)) (sym (append-nil (digits 256 8 due)))

pub returns-in-Trivium : goal.returns-in-Trivium
unfolding tag_row row digits
returns-in-Trivium c =
    ⊎_elim (λ e. rw e (put_nothing c.args.output.now c.args.at)) (λ e. rw e (put_nothing c.args.output.now c.args.at))
    c.in-Trivium.is

pub returns-in-Triad : goal.returns-in-Triad
unfolding tag_row row
returns-in-Triad c =
    let q = rw c.in-Triad.is at c.requires in
    rw c.in-Triad.is (behind_count c.args.output.now c.args.at (omega (arith, q))
    (c.tag_due-due.ensures ∙ sym (done_if _ _ _ (omega (arith, q), tt))) c.write_number.ensures)
