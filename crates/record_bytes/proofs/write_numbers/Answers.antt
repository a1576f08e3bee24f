-- `write_numbers`: without room it does nothing; with it the numbers stand in their place.
use Rattle.std.proofs.Common.{◌≡◌, ◌∙◌, ℕ, ◌≤◌, List, ◌++◌, ap, sym, length, drop, arith, rules, zero-add}
use Rattle.octets.specs.Buffers.{placed, put}
use Rattle.octets.proofs.Buffers.{put_placed, put_none}
use Rattle.record_bytes.proofs.write_numbers.Goals as goal

-- a run that stands in front of the rest of a buffer
in_front : (d run : List ℕ) {own : List ℕ} → own ≡ run → length run ≤ length d
    → own ++ drop (length run) d ≡ put d 0 run
unfolding placed
in_front d run same room =
    ap (λ (l : List ℕ). l ++ drop (length run) d) same
    ∙ ap (λ (n : ℕ). run ++ drop n d) (sym (zero-add (length run)))
    ∙ sym (put_placed d 0 run (omega arith))

pub returns-then-n-d : goal.returns-then-n-d
returns-then-n-d c = search (rules, in_front)

pub returns-else-n-d : goal.returns-else-n-d
returns-else-n-d c = let p = c.args in put_none p.d.now 0 p.numbers.now (omega arith)
