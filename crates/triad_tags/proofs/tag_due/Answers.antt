-- The value's length decides, since the key's is known, and the pieces that were taken in are what the tag is over. Which
-- calls were made is told by what they promise, and not by their names.
use mathlib.Core.{Path.◌≡◌, Path.◌∙◌, List.List, List.◌++◌}
use Prim.Native.Nat.{ℕ}
use native.Mathlib.Omega.{arith}
use lib.ListN.{length}
use Rattle.octets.specs.Stream.{enciphered}
use Rattle.refusals.specs.{Answers.answer, Numbers.accepted}
use Rattle.refusals.proofs.Settled.{done_if, left_at}
use Rattle.triad.specs.Calls.{making_cipher, making_tag, absorbing, absorbing_under, tagging}
use Rattle.triad.specs.{Tag.padded, Tag.triad, declared.Registers.Registers}
use Rattle.triad.proofs.Theorems.{made_sized, refused_unsized, tag_received}
use Rattle.triad_tags.proofs.tag_due.Goals as goal

-- what is taken in, from the registers that were made
module _ (key value front loops body : List ℕ) (start cipher : Registers) (long : length key ≡ 16)
    (short : length value ≡ 12) where
  tagged : answer accepted start ≡ making_tag key value → answer accepted cipher ≡ making_cipher key value
      → tagging (absorbing_under (absorbing start (padded (front ++ loops))) cipher body)
      ≡ triad.tag key value (front ++ loops) (enciphered (triad.stream key value) body)
  tagged begun at =
      (λ i.
      tagging
      (absorbing_under (absorbing (begun i).next (padded (front ++ loops))) (at i).next body))
      ∙ tag_received key value (front ++ loops) body long short

pub returns-in_default : goal.returns-in_default
unfolding making_tag
returns-in_default c =
    left_at _ _ _ 0 tt (refused_unsized 1 c.args.key.now c.args.value.now c.in_default.field-0 c.in_default.ensures (omega arith))

pub returns-in_default-new : goal.returns-in_default-new
unfolding making_cipher
returns-in_default-new c =
    left_at _ _ _ 0 tt (refused_unsized 0 c.args.key.now c.args.value.now c.in_default-new.field-0 c.in_default-new.ensures (omega arith))

pub returns : goal.returns
unfolding making_cipher
returns c =
    let short = (made_sized 0 c.args.key.now c.args.value.now c.in-Ok-new.ensures).1 in
    let all : c.tag.result
    ≡ tagging
    (absorbing_under (absorbing c.in-Ok.start (padded (c.args.front.now ++ c.args.loops.now))) c.in-Ok-new.cipher
    c.args.body.now) = cc in
    all
    ∙ tagged c.args.key.now c.args.value.now c.args.front.now c.args.loops.now c.args.body.now c.in-Ok.start
    c.in-Ok-new.cipher (omega arith) short c.in-Ok.ensures c.in-Ok-new.ensures
    ∙ done_if _ _ _ (short, tt)
