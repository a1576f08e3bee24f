-- A stride's word enciphers eight bytes, and the next stride's the eight behind them. Both eights are read before a byte
-- is written.
use mathlib.Core.{Path.◌≡◌, Path.sym, Path.ap, Path.◌∙◌, List.List}
use Prim.Native.Nat.{ℕ}
use native.Mathlib.Omega.{arith}
use lib.Seq.{take_all}
use Rattle.octets.specs.{Buffers.slice, Buffers.put, Stream.enciphered}
use Rattle.octets.proofs.{Buffers.put_placed, Buffers.put_whole, Numbers.Below}
use Rattle.octets.proofs.Streams.{length_enciphered, length_run, under}
use Rattle.samples.proofs.Reversed.{swapped_under}
use Rattle.taps.specs.{Keystream.keystream, Registers.State, Registers.steps}
use Rattle.taps.proofs.{Bytes.two_covers, Steps.steps_add}
use Rattle.trivium.specs.{Record.state, declared.Ran.Ran}
use Rattle.trivium.proofs.Steps.{ran_word, ran_below, ran_state}
use Rattle.trivium.proofs.Running.cover_sixteen.Goals as goal

pub returns : goal.returns
returns c =
    let p = c.args in
    let bytes : List ℕ = p.bytes.now in
    let below : Below 256 bytes = λ i. grind arith in
    let one : Ran = c.stride-one.result in
    let two : Ran = c.stride-two.result in
    let ran1 = c.stride-one.ensures in
    let ran2 = c.stride-two.ensures in
    let s : State = state p.self.registers in
    let mid : State = state one.next.registers in
    let on : mid ≡ steps 64 s = ran_state p.self one ran1 in
    let left : List ℕ = c.write_low.new.d in
    let first : left ≡ put bytes 0 (under bytes 0 8 one.word) =
    c.write_low.ensures
    ∙ ap (put bytes 0)
    (swapped_under bytes 0 one.word c.eight_from-first.ensures (omega arith) c.swapped.ensures (omega arith)
    (ran_below p.self one ran1) (omega arith) below) in
    let second =
    swapped_under bytes 8 two.word c.eight_from-second.ensures (omega arith) c.swapped-2.ensures (omega arith)
    (ran_below one.next two ran2) (omega arith) below in
    let k = keystream s in
    let long = length_run k bytes 0 16 (omega arith) in
    let all : slice bytes 0 16 ≡ bytes = take_all 16 bytes (omega arith) in (
      ran_state one.next two ran2 ∙ ap (steps 64) on ∙ sym (steps_add 64 64 s),
      c.write_low-2.ensures
          ∙ ap (put left 8) second
          ∙ two_covers s mid bytes bytes left 0 8 8 one.word two.word (omega arith) (omega arith) below (omega arith)
          (omega arith) on (ran_word p.self one ran1) first (ran_word one.next two ran2)
          ∙ sym (put_placed bytes 0 _ (omega arith))
          ∙ ap (λ (l : List ℕ). put bytes 0 (enciphered k l)) all
          ∙ put_whole bytes (enciphered k bytes) (length_enciphered k bytes),
    )
