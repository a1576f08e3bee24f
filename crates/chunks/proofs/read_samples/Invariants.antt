-- after each turn the samples of the first `at` bytes are in place, and the cipher has gone as far
use Rattle.std.proofs.Common.{◌≡◌}
use Rattle.std.specs.Slice.Iter.{chunks_rest, chunks_size}
use Rattle.samples.specs.Words.{word_of}
use Rattle.chunks.specs.Ahead.{ahead}
use Rattle.chunks.proofs.SoFar.{SoFar}
use Rattle.chunks.proofs.read_samples.Given as goal

abbrev pub invariant-loop-bytes : goal.invariant-loop-bytes
invariant-loop-bytes l =
    record {
      can : (goal.iterator-loop-bytes).can_next l.bytes-iterator;
      finite : (goal.iterator-loop-bytes).is_finite l.bytes-iterator;
      size : chunks_size l.bytes-iterator ≡ 1024;
      so_far : SoFar word_of (ahead l.fn.start) l.body l.fn.output l.at (chunks_rest l.bytes-iterator) (ahead l.cipher) l.output;
    }
