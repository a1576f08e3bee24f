-- `chunks::read_samples` meets its contract: chunk after chunk, from where the cipher has come to.
use Rattle.std.proofs.Common.{rules, arith, ◌≡◌, ℕ, min, List, length, ap₂, ◌∙◌, ℤ}
use Rattle.std.specs.Slice.Iter.{chunks_rest}
use mathlib.Core.Path.{subst}
use Rattle.octets.specs.{Buffers.put, Stream.Keystream, Stream.from, Stream.enciphered}
use Rattle.refusals.specs.Outcome.{outcome}
use Rattle.refusals.proofs.Settled.{done_if, left_at}
use Rattle.samples.specs.Words.{word_of, words_of}
use Rattle.chunks.specs.Ahead.{ahead, reading_on}
use Rattle.chunks.proofs.SoFar.{nothing_so_far, chunk_at, one_more, all_so_far}
use Rattle.chunks.proofs.read_samples.Goals as goal

-- what is read is the chunk, as the bytes that are lent are
chunk_read : (k : Keystream) {next : Keystream} (d : List ℤ) {part : List ℤ} {lent bytes : List ℕ}
    → (next ≡ from (length lent) k) × (part ≡ put d 0 (words_of (enciphered k lent))) → lent ≡ bytes
    → (next ≡ from (length bytes) k) × (part ≡ put d 0 (words_of (enciphered k bytes)))
chunk_read k {next} d {part} read same =
    subst (λ (b : List ℕ). (next ≡ from (length b) k) × (part ≡ put d 0 (words_of (enciphered k b)))) same read

pub returns-then-output-body : goal.returns-then-output-body
unfolding reading_on
returns-then-output-body c = left_at _ _ _ 0 tt (omega arith)

pub loop-bytes-init : goal.loop-bytes-init
loop-bytes-init c =
    record {
      can = search rules;
      finite = tt;
      size = search rules;
      so_far = nothing_so_far word_of (ahead c.args.start) c.args.body.now c.args.output.now _ (search rules);
    }

pub loop-bytes-preserved : goal.loop-bytes-preserved
loop-bytes-preserved c =
    let so = c.loop-bytes.invariant in
    let steps = c.in-Some.ensures.steps in
    let here = chunk_at word_of (ahead c.args.start) c.args.body.now c.args.output.now c.in-Some.bytes.now
    (chunks_rest c.next.new.self) so.so_far steps.1.0 in
    let read = chunk_read _ _ c.read_chunk-cipher.ensures (cc here) in
    let long : length c.in-Some.bytes.now ≡ min 1024 (length (chunks_rest c.loop-bytes.bytes-iterator)) =
    omega (arith, so.size, steps.1.1) in
    record {
      can = search rules;
      finite = tt;
      size = steps.0 ∙ so.size;
      so_far = one_more word_of (ahead c.args.start) c.args.body.now c.args.output.now c.in-Some.bytes.now
          (chunks_rest c.next.new.self) so.so_far (omega arith) c.loop-bytes.auto.output steps.1.0 long steps.1.2 read.0 read.1;
    }

pub returns : goal.returns
unfolding reading_on
returns c =
    let all = all_so_far word_of (ahead c.args.start) c.args.body.now c.args.output.now c.loop-bytes.invariant.so_far
    c.in-None.ensures.steps.1.0 (omega arith) in
    ap₂ (λ (q : Keystream) (d : List ℤ). outcome q d) all.0 all.1 ∙ done_if _ _ _ (omega arith, tt)
