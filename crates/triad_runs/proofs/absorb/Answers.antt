-- A word at each turn, and then the rest.
use mathlib.Core.List.{reverse}
use mathlib.Core.{Path.◌≡◌, Path.refl, Path.ap, Path.subst, Path.◌∙◌, List.List, List.[]}
use Prim.Native.Nat.{ℕ, ◌+◌, ◌*◌, ◌/◌, ◌%◌}
use native.Mathlib.Omega.{arith}
use lib.{ListN.length, ListN.get_or, Seq.take_all}
use Rattle.std.specs.Int.{w64, from_le_bytes}
use Rattle.std.specs.Simd.{first_chunks}
use Rattle.octets.specs.{Buffers.slice, Digits.number, LowFirst.bits_up_of}
use Rattle.shift_registers.specs.{Registers.State, Steps.steps_by}
use Rattle.triad.specs.{Calls.absorbing, Record.state, Record.packed, Tag.absorbed}
use Rattle.triad.proofs.Steps.{ran_state, short_next}
use Rattle.triad_runs.proofs.Runs.{absorbs_on, rest_at, word_at}
use Rattle.triad_runs.proofs.absorb.Goals as goal

pub loop-word-init : goal.loop-word-init
unfolding absorbed bits_up_of steps_by
loop-word-init c = refl

pub loop-word-preserved : goal.loop-word-preserved
loop-word-preserved c =
    let bytes : List ℕ = c.args.bytes.now in
    let words : List (List ℕ) = c.as_chunks.result.0.now in
    let s : State = state c.args.registers in
    let l = c.loop-word in
    let i : ℕ = l.word-index in
    let cut : words ≡ first_chunks 8 (length bytes / 8) bytes = c.as_chunks.ensures.front in
    let many : length words ≡ length bytes / 8 = c.as_chunks.ensures.front_len in
    let read : c.from_le_bytes.result ≡ from_le_bytes w64 (get_or words i []) = c.from_le_bytes.ensures in
    let on : 8 * i + 8 ≡ 8 * (i + 1) = omega arith in
    absorbs_on bytes s (state l.moved) (8 * i) 8 (omega arith) (λ j. omega (arith, c.type_inv.bytes j)) l.invariant
    (ran_state l.moved _ c.run.ensures) (omega arith) refl
    (word_at bytes (length bytes / 8) i cut refl (omega arith) (omega arith) read)
    ∙ ap (λ (n : ℕ). absorbed (slice bytes 0 n) s) on

pub returns : goal.returns
unfolding absorbing
returns c =
    let bytes : List ℕ = c.args.bytes.now in
    let rest : List ℕ = c.as_chunks.result.1.now in
    let s : State = state c.args.registers in
    let l = c.loop-word in
    let at : ℕ = length bytes / 8 * 8 in
    let many : length c.as_chunks.result.0.now ≡ length bytes / 8 = c.as_chunks.ensures.front_len in
    let few : length rest ≡ length bytes % 8 = c.as_chunks.ensures.back_len in
    let turns : 8 * l.word-index ≡ at = omega arith in
    let taken = subst (λ (n : ℕ). state l.moved ≡ absorbed (slice bytes 0 n) s) turns l.invariant in
    short_next l.moved _ _ c.short_stride.ensures (omega arith)
    ∙ ap packed
    (absorbs_on bytes s (state l.moved) at (length rest) (omega arith) (λ j. omega (arith, c.type_inv.bytes j)) taken
    refl refl refl
    (c.word_in.ensures ∙ ap (λ (xs : List ℕ). number 256 (reverse xs)) (rest_at bytes c.as_chunks.ensures.back few))
    ∙ ap (λ (xs : List ℕ). absorbed xs s) (take_all (at + length rest) bytes (omega arith)))
