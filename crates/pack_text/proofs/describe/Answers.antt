-- What stands at the front of the local buffer is the text, which fits there.
use Rattle.std.proofs.Common.{◌≡◌, ℕ, ◌≤◌, List, length, take, replicate, ap, ap₂, ◌∙◌, arith}
use lib.ListN.{length-take, length-replicate}
use Rattle.octets.specs.Buffers.{put}
use Rattle.octets.proofs.Buffers.{put_placed, take_placed}
use Rattle.refusals.specs.Outcome.{Outcome, outcome}
use Rattle.pack_text.specs.Text.{text_of, writing}
use Rattle.pack_text.proofs.{Lines.text_ends, Theorems.text_fits}
use Rattle.pack_text.proofs.describe.Goals as goal

abbrev blank : List ℕ
blank = replicate 128 0

long : length blank ≡ 128
long = length-replicate {A = ℕ} 128 0

module _ (input : List ℕ) {end : ℕ} {lines : List ℕ}
    (e : outcome end lines ≡ writing (text_of input) blank) where
  fits : end ≤ length lines
  fits = omega (arith, text_ends blank (text_of input) e, text_fits input, long)

  front : take end lines ≡ text_of input
  front =
      let t : List ℕ = text_of input in
      let room : length t ≤ length blank = omega (arith, text_fits input, long) in
      ap₂ take (ap (λ (o : Outcome ℕ ℕ). o.answer) e) (ap (λ (o : Outcome ℕ ℕ). o.buffer) e)
      ∙ ap (take (length t)) (put_placed blank 0 t (omega arith))
      ∙ take_placed blank t room

pub slice_bounds-lines-end : goal.slice_bounds-lines-end
slice_bounds-lines-end c = fits c.args.input.now c.write_text-length.ensures

pub slice_bounds-copy-end : goal.slice_bounds-copy-end
slice_bounds-copy-end c =
    let h = fits c.args.input.now c.write_text-length.ensures in
    omega (arith, length-take c.write_text-length.result c.write_text-length.new.d)

pub returns : goal.returns
returns c =
    let e = c.write_text-length.ensures in
    ap₂ (λ (n : ℕ) (d : List ℕ). outcome n d) (ap (λ (o : Outcome ℕ ℕ). o.answer) e)
    (c.copy.ensures ∙ ap (put c.args.text.now 0) (front c.args.input.now e))
