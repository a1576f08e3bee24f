-- `chunks::write_samples` meets its contract: the samples' bytes fill the part that they are lent, and are enciphered there.
use Rattle.std.proofs.Common.{arith, ◌≡◌, ℕ, ◌*◌, List, length, refl, ap, ◌∙◌, ◌+◌, ◌-◌}
use Rattle.std.proofs.lemmas.Slice.{put_mid-paste}
use Rattle.octets.specs.{Buffers.slice, Stream.enciphered}
use Rattle.octets.proofs.{Buffers.put_whole, Buffers.paste_all, Slices.length_slice, Streams.length_enciphered}
use Rattle.samples.specs.Words.{bytes_of_all}
use Rattle.samples.proofs.Words.{length_bytes, no_room}
use Rattle.chunks.specs.Ahead.{ahead}
use Rattle.chunks.proofs.write_samples.Goals as goal
use Rattle.chunks.proofs.write_samples.Goals.{else-at-output-via-then-at-output+else-n-output, else-at-output-via-else-at-output}

pub returns-then-n-output : goal.returns-then-n-output
returns-then-n-output c =
    let d : List ℕ = c.args.output.now in
    let at : ℕ = c.args.at in
    let n : ℕ = at + 2 * length c.args.samples.now - at in
    let run : List ℕ = bytes_of_all c.args.samples.now in
    let done : List ℕ = enciphered (ahead c.args.start) run in
    let long = length_bytes c.args.samples.now in
    let same = length_enciphered (ahead c.args.start) run in
    let part : length (slice d at n) ≡ n = length_slice d at n (omega arith) in
    let written = c.write_words.ensures ∙ put_whole (slice d at n) run (omega arith) in
    put_mid-paste at n d c.cover.new.bytes done (length done) (c.cover.ensures.1 ∙ ap (enciphered (ahead c.args.start)) written)
    (omega arith) refl
    ∙ paste_all d at done (length done) refl (omega arith)

pub returns-else-at-output : goal.returns-else-at-output
returns-else-at-output c =
    let none = no_room (ahead c.args.start) c.args.output.now c.args.at c.args.samples.now in
    elim c.else-at-output.branch [
      | else-at-output-via-then-at-output+else-n-output w ↦ none (omega arith)
      | else-at-output-via-else-at-output w ↦ none (omega arith)
    ]
