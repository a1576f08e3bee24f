-- after each turn the floats of the first `at` bytes are in place, and the cipher has gone as far
use Rattle.std.proofs.Common.{◌≡◌}
use Rattle.std.specs.Slice.Iter.{chunks_rest, chunks_size}
use Rattle.stereo_bodies.specs.Reading.{level_from}
use Rattle.chunks.specs.Ahead.{ahead}
use Rattle.chunks.proofs.SoFar.{SoFar}
use Rattle.stereo_bodies.proofs.read_frames.Given as goal

abbrev pub invariant-loop-bytes : goal.invariant-loop-bytes
invariant-loop-bytes l =
    record {
      can : (goal.iterator-loop-bytes).can_next l.bytes-iterator;
      finite : (goal.iterator-loop-bytes).is_finite l.bytes-iterator;
      size : chunks_size l.bytes-iterator ≡ 1024;
      so_far : SoFar level_from (ahead l.fn.start) l.body l.fn.output l.at (chunks_rest l.bytes-iterator) (ahead l.cipher) l.output;
    }
