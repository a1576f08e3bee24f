-- A word at each turn, and then the rest.
use mathlib.Core.Path.{◌≡◌, refl, sym, ap, subst, ◌∙◌}
use mathlib.Core.List.{List}
use Prim.Native.Nat.{ℕ, ◌+◌, ◌-◌, ◌*◌, ◌/◌}
use native.Mathlib.Omega.{arith}
use borrow.Rule.Slice.PartMut.{put_mid}
use lib.ListN.{length}
use Rattle.octets.specs.{Buffers.slice, Buffers.placed, Stream.enciphered}
use Rattle.octets.proofs.{Buffers.placed_nothing, Slices.length_slice}
use Rattle.refusals.specs.Outcome.{outcome}
use Rattle.shift_registers.specs.{Registers.State, Steps.steps_by}
use Rattle.triad.specs.Calls.{ahead, skipping}
use Rattle.triad.specs.{Record.state, Record.packed, State.updates, State.zeros}
use Rattle.triad.proofs.{Bytes.gone, Bytes.word_gives, Steps.ran_word, Steps.ran_state, Steps.short_word}
use Rattle.triad.proofs.Steps.{short_next}
use Rattle.triad.proofs.Covers.{bytes_of, gone_on, covers_on, covers_part, covers_all}
use Rattle.triad.proofs.RegistersStreamCipher.cover.Goals as goal

pub loop-i-init : goal.loop-i-init
unfolding enciphered steps_by
loop-i-init c = record { there = refl; done = sym (placed_nothing c.args.bytes.now 0) }

pub loop-i-preserved : goal.loop-i-preserved
loop-i-preserved c =
    let l = c.loop-i in
    let at : ℕ = 8 * l.i in
    let on : at + 8 ≡ 8 * (l.i + 1) = omega arith in
    let width : at + 8 - at ≡ 8 = omega arith in
    let s : State = state c.args.self in
    let word : ℕ = c.run-ran.result.word in
    let bytes : List ℕ = c.args.bytes.now in
    record {
      there =
          gone_on s (state l.moved) at 8 l.invariant.there (ran_state l.moved _ c.run-ran.ensures) (omega arith)
          (omega arith)
          ∙ ap (λ (n : ℕ). updates (zeros (8 * n)) s) on;
      done =
          ap (λ (n : ℕ). put_mid at n l.bytes c.cover_word.new.bytes) width
          ∙ covers_on (ahead c.args.self) (ahead l.moved) bytes l.bytes at 8 word l.invariant.done (omega arith)
          (omega arith) (gone s at l.invariant.there)
          (word_gives (state l.moved) (ran_word l.moved _ c.run-ran.ensures) (omega arith))
          (c.cover_word.ensures ∙ ap (λ (n : ℕ). enciphered (bytes_of word) (slice l.bytes at n)) width)
          ∙ ap (λ (n : ℕ). placed bytes 0 (enciphered (ahead c.args.self) (slice bytes 0 n))) on;
    }

pub returns : goal.returns
unfolding skipping
returns c =
    let l = c.loop-i in
    let s : State = state c.args.self in
    let k = ahead c.args.self in
    let bytes : List ℕ = c.args.bytes.now in
    let word : ℕ = c.short_stride-ran.result.word in
    let at : ℕ = 8 * (length bytes / 8) in
    let few : ℕ = length l.bytes - at in
    let turns : l.i ≡ length bytes / 8 = omega arith in
    let all : at + few ≡ length bytes = omega arith in
    let there = subst (λ (i : ℕ). state l.moved ≡ updates (zeros (8 * (8 * i))) s) turns l.invariant.there in
    let done =
    subst (λ (i : ℕ). l.bytes ≡ placed bytes 0 (enciphered k (slice bytes 0 (8 * i)))) turns l.invariant.done in
    let rest : length (slice l.bytes at few) ≡ few = length_slice l.bytes at few (omega arith) in
    let next =
    short_next l.moved _ _ c.short_stride-ran.ensures (omega arith)
    ∙ ap packed
    (gone_on s (state l.moved) at few there refl (omega arith) (omega arith)
    ∙ ap (λ (n : ℕ). updates (zeros (8 * n)) s) all) in
    let covered =
    covers_all k bytes
    (covers_part k (ahead l.moved) bytes l.bytes at few word (omega arith) done (omega arith) (omega arith) (gone s at there)
    (word_gives (state l.moved) (short_word l.moved _ _ c.short_stride-ran.ensures) (omega arith)) c.cover_word-2.ensures
    (omega arith))
    all in
    λ i. outcome (next i) (covered i)
