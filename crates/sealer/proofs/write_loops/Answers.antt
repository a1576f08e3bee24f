use mathlib.Core.{Path.◌≡◌, Path.refl, Path.sym, Path.ap, Path.◌∙◌, List.List, List.[], List.◌∷◌}
use Prim.Native.Nat.{ℕ, ◌+◌, ◌*◌, ◌/◌, ◌≤◌}
use native.Mathlib.{Numerals.add-one, Omega.arith}
use lib.ListN.{length, get_or, set, length-set}
use Rattle.octets.specs.{Buffers.put, Digits.digits, Rows.row}
use Rattle.octets.proofs.{Buffers.put_nothing, Buffers.puts_on, Numbers.length_digits}
use Rattle.octets.proofs.Rows.{length_row, length_equal, row_more}
use Rattle.pack.specs.Layout.{fours}
use Rattle.sealer.proofs.Stores.{one_put}
use Rattle.sealer.proofs.write_loops.Goals as goal

nothing : (d loops : List ℕ) (at : ℕ) → d ≡ put d at (row (fours 0) loops)
unfolding row
nothing d loops at = put_nothing d at

long : (n : ℕ) (loops : List ℕ) → length (row (fours n) loops) ≡ 4 * n
long n loops = let e = length_row (fours n) loops ∙ length_equal n 4 in omega arith

-- one number more
one_more : (d loops : List ℕ) (at i : ℕ) {e : List ℕ} {next : ℕ} → at + 4 * length loops ≤ length d
    → i + 1 ≤ length loops
    → next ≡ at + 4 * i → e ≡ put d at (row (fours i) loops)
    → put e next (digits 256 4 (get_or loops i 0)) ≡ put d at (row (fours (i + 1)) loops)
one_more d loops at i room h place e =
    let four = length_digits 256 4 (get_or loops i 0) in
    let size = long i loops in
    puts_on d at (row (fours i) loops) (digits 256 4 (get_or loops i 0)) e (omega arith) (omega arith)
    ∙ ap (put d at) (sym (row_more 4 i loops) ∙ ap (λ (n : ℕ). row (fours n) loops) (sym (add-one i)))

pub loop-i-init : goal.loop-i-init
loop-i-init c = (refl, nothing _ _ _)

pub loop-i-preserved : goal.loop-i-preserved
loop-i-preserved c =
    let p = c.args in
    let l = c.loop-i in
    let d : List ℕ = set p.output.now p.at (length p.loops.now / 2) in
    let long = length-set p.output.now p.at (length p.loops.now / 2) in (
      omega arith,
      c.write_number.ensures ∙ ap (λ (n : ℕ). put l.output (p.at + 1 + 4 * l.i) (digits 256 4 n)) c.from.ensures
          ∙ one_more d p.loops.now (p.at + 1) l.i (omega arith) (omega arith) refl l.invariant.1,
    )

pub returns : goal.returns
returns c =
    let p = c.args in
    let n : ℕ = length p.loops.now in
    let all : c.loop-i.i ≡ n = omega arith in
    c.loop-i.invariant.1
    ∙ ap (λ (k : ℕ). put (set p.output.now p.at (n / 2)) (p.at + 1) (row (fours k) p.loops.now)) all
    ∙ puts_on p.output.now p.at (n / 2 ∷ []) (row (fours n) p.loops.now)
    (one_put p.output.now p.at (n / 2) (omega arith)) refl (omega (arith, long n p.loops.now))
