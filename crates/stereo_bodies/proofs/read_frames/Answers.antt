-- `stereo_bodies::read_frames` meets its contract: chunk after chunk, from where the cipher has come to.
use Rattle.std.proofs.Common.{rules, arith, ◌≡◌, ℕ, ◌/◌, ◌%◌, min, List, length, sym, ap, ◌∙◌}
use Rattle.std.specs.Slice.Iter.{chunks_rest}
use mathlib.Core.Path.{subst}
use lib.Ieee.{Float}
use Rattle.octets.specs.{Buffers.placed, Buffers.put, Stream.Keystream, Stream.from, Stream.enciphered}
use Rattle.octets.proofs.Streams.{length_enciphered}
use Rattle.refusals.proofs.Settled.{done_if, left_at}
use Rattle.chunks.specs.Ahead.{ahead}
use Rattle.samples.specs.Words.{by_twos}
use Rattle.chunks.proofs.SoFar.{nothing_so_far, chunk_at, one_more, all_so_far}
use Rattle.stereo_bodies.specs.Reading.{level_from, reading_frames}
use Rattle.stereo_bodies.proofs.Floats.{floats_twos}
use Rattle.stereo_bodies.proofs.read_frames.Goals as goal
use Rattle.stereo_bodies.proofs.read_frames.Goals.{then-samples-ne0-via-then-samples-ne0, then-samples-ne0-via-else-samples-ne0+then-output-samples}

-- what is read is the chunk, as the bytes that are lent are
chunk_read : (k : Keystream) {next : Keystream} (d : List Float) {part : List Float} {lent bytes : List ℕ}
    → (next ≡ from (length lent) k) × (part ≡ put d 0 (by_twos level_from (enciphered k lent))) → lent ≡ bytes
    → (next ≡ from (length bytes) k) × (part ≡ put d 0 (by_twos level_from (enciphered k bytes)))
chunk_read k {next} d {part} read same =
    subst (λ (b : List ℕ). (next ≡ from (length b) k) × (part ≡ put d 0 (by_twos level_from (enciphered k b)))) same read

pub returns-then-samples-ne0 : goal.returns-then-samples-ne0
unfolding reading_frames
returns-then-samples-ne0 c =
    elim c.then-samples-ne0.branch [
      | then-samples-ne0-via-then-samples-ne0 w ↦ left_at _ _ _ 0 tt (omega arith)
      | then-samples-ne0-via-else-samples-ne0+then-output-samples w ↦ left_at _ _ _ 1 tt (omega arith, omega arith)
    ]

pub loop-bytes-init : goal.loop-bytes-init
loop-bytes-init c =
    record {
      can = search rules;
      finite = tt;
      size = search rules;
      so_far = nothing_so_far level_from (ahead c.args.start) c.args.body.now c.args.output.now _ (search rules);
    }

pub loop-bytes-preserved : goal.loop-bytes-preserved
loop-bytes-preserved c =
    let so = c.loop-bytes.invariant in
    let steps = c.in-Some.ensures.steps in
    let here = chunk_at level_from (ahead c.args.start) c.args.body.now c.args.output.now c.in-Some.bytes.now
    (chunks_rest c.next.new.self) so.so_far steps.1.0 in
    let read = chunk_read _ _ c.read_chunk-cipher.ensures (cc here) in
    let long : length c.in-Some.bytes.now ≡ min 1024 (length (chunks_rest c.loop-bytes.bytes-iterator)) =
    omega (arith, so.size, steps.1.1) in
    record {
      can = search rules;
      finite = tt;
      size = steps.0 ∙ so.size;
      so_far = one_more level_from (ahead c.args.start) c.args.body.now c.args.output.now c.in-Some.bytes.now
          (chunks_rest c.next.new.self) so.so_far (omega arith) c.loop-bytes.auto.output steps.1.0 long steps.1.2 read.0 read.1;
    }

pub returns : goal.returns
unfolding reading_frames
returns c =
    let plain : List ℕ = enciphered (ahead c.args.start) c.args.body.now in
    let all = all_so_far level_from (ahead c.args.start) c.args.body.now c.args.output.now c.loop-bytes.invariant.so_far
    c.in-None.ensures.steps.1.0 (omega arith) in
    all.1
    ∙ ap (placed c.args.output.now 0)
    (sym (floats_twos plain (ap (λ (m : ℕ). m / 2 % 2) (length_enciphered (ahead c.args.start) c.args.body.now) ∙ omega arith)))
    ∙ done_if _ _ _ (omega arith, (omega arith, tt))
