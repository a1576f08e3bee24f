-- What is passed was in rule, so the whole is as good as what is left.
use Rattle.octets.specs.Digits.{number_at}
use Rattle.std.proofs.Common.{◌≡◌, ap, ◌≤◌, ◌⊎◌, Bool, false, drop}
use mathlib.Core.Logic.{inl, inr}
use Rattle.std.proofs.Common.{sym, ◌∙◌, ℕ, ◌+◌, ◌*◌, ◌<◌, List, length, get_or, arith}
use Rattle.octets.specs.Rows.{numbers_at}
use Rattle.octets.proofs.Rows.{many_read, number_in}
use Rattle.pack.specs.Layout.{loops_good, fours}
use Rattle.pack.proofs.Loops.{none_left, bad_start, bad_end, good_loop}
use Rattle.end_faults.proofs.loops_good.Goals as goal

-- number j of the run, as the code reads it
number_read : (file : List ℕ) (at count j : ℕ) {n : ℕ} (place : ℕ) → n ≡ number_at file place 4 → place ≡ at + j * 4
    → j < 2 * count
    → n ≡ get_or (numbers_at (fours (2 * count)) file at) j 0
number_read file at count j place e same h =
    e ∙ ap (λ (k : ℕ). number_at file k 4) same ∙ sym (number_in 4 (2 * count) file at j h)

module _ (file : List ℕ) (at count samples i : ℕ) (below : i < count) {start end : ℕ}
    (s : start ≡ number_at file (at + 8 * i) 4) (e : end ≡ number_at file (at + 8 * i + 4) 4) where
  abbrev loops : List ℕ
  loops = numbers_at (fours (2 * count)) file at

  there : 2 * i + 1 < length loops
  there = omega (arith, many_read 4 (2 * count) file at)

  start_read : start ≡ get_or loops (2 * i) 0
  start_read = number_read file at count (2 * i) (at + 8 * i) s (omega arith) (omega arith)

  end_read : end ≡ get_or loops (2 * i + 1) 0
  end_read = number_read file at count (2 * i + 1) (at + 8 * i + 4) e (omega arith) (omega arith)

  abbrev left : ℕ → Bool
  left j = loops_good samples (drop (2 * j) loops)

  out_of_rule : (end ≤ start) ⊎ (start < end × samples < end) → left i ≡ false
  out_of_rule (inl h) = bad_start samples loops i there start_read end_read h
  out_of_rule (inr h) = bad_end samples loops i there start_read end_read h.0 h.1

  in_rule : start < end → end ≤ samples → left i ≡ left (i + 1)
  in_rule h k = good_loop samples loops i there start_read end_read h k

pub returns-then-end-start : goal.returns-then-end-start
returns-then-end-start c =
    let a = c.args in
    sym (c.loop-i.invariant
    ∙ out_of_rule a.file.now a.at a.count a.samples c.loop-i.i (omega arith) c.four_there-start.ensures c.four_there-end.ensures
    c.then-end-start.either)

pub loop-i-preserved : goal.loop-i-preserved
loop-i-preserved c =
    let a = c.args in
    c.loop-i.invariant
    ∙ in_rule a.file.now a.at a.count a.samples c.loop-i.i (omega arith) c.four_there-start.ensures c.four_there-end.ensures
    (omega arith) (omega arith)

pub returns : goal.returns
returns c =
    let a = c.args in
    sym
    (c.loop-i.invariant
    ∙ none_left a.samples _ c.loop-i.i (omega (arith, many_read 4 (2 * a.count) a.file.now a.at)))
