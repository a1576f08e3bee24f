-- `stereo_bodies::read_chunk` meets its contract: the bytes' samples fill the part of the chunk that is lent for them, and
-- go to the front of the output as frames.
use Rattle.std.proofs.Common.{rules, arith, ◌≡◌, ℕ, ◌/◌, ◌%◌, List, length, sym, ap, ◌∙◌, ℤ}
use Rattle.octets.specs.{Buffers.placed, Buffers.put, Stream.Keystream, Stream.from, Stream.enciphered}
use Rattle.octets.proofs.{Buffers.put_placed, Buffers.put_whole, Streams.length_enciphered}
use Rattle.refusals.specs.Outcome.{Outcome, outcome}
use Rattle.refusals.proofs.Settled.{done_if}
use Rattle.samples.specs.Words.{by_twos, word_of, words_of}
use Rattle.samples.proofs.Bodies.{length_read}
use Rattle.stereo.specs.Frames.{floats_of}
use Rattle.chunks.specs.Ahead.{ahead, reading_on}
use Rattle.stereo_bodies.specs.Reading.{level_from}
use Rattle.stereo_bodies.proofs.Floats.{floats_twos}
use Rattle.stereo_bodies.proofs.read_chunk.Goals as goal

-- what reading bytes under a keystream to just the room for them comes to
module _ (k : Keystream) (bytes : List ℕ) (room : List ℤ) {next : Keystream} {filled : List ℤ}
    (exact : length room ≡ length bytes / 2) (read : outcome next filled ≡ reading_on k bytes room) where
  abbrev words : List ℤ
  words = words_of (enciphered k bytes)

  both : outcome next filled ≡ outcome {A = Keystream} (from (length bytes) k) (placed room 0 words)
  unfolding reading_on
  both = read ∙ sym (done_if _ _ _ (omega arith, tt))

  gone : next ≡ from (length bytes) k
  gone = ap (λ (o : Outcome Keystream ℤ). o.answer) both

  framed : length bytes / 2 % 2 ≡ 0 → floats_of filled ≡ by_twos level_from (enciphered k bytes)
  framed whole =
      let long : length words ≡ length room = length_read word_of k bytes ∙ sym exact in
      ap floats_of
      (ap (λ (o : Outcome Keystream ℤ). o.buffer) both
      ∙ sym (put_placed room 0 words (omega arith)) ∙ put_whole room words long)
      ∙ floats_twos (enciphered k bytes) (ap (λ (m : ℕ). m / 2 % 2) (length_enciphered k bytes) ∙ whole)

pub returns : goal.returns
returns c =
    let k : Keystream = ahead c.args.cipher in
    let bytes : List ℕ = c.args.bytes.now in (
      gone k bytes _ (search rules) c.read_samples-next.ensures,
      c.write_frames.ensures
          ∙ ap (put c.args.output.now 0) (framed k bytes _ (search rules) c.read_samples-next.ensures c.requires.1),
    )
