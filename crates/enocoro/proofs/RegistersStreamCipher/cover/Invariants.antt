-- After each stretch the bytes before `at` are enciphered, those ahead are as they were, and the registers have gone as
-- far.
use Rattle.std.proofs.Common.{◌≡◌, min, length}
use Rattle.enocoro.specs.Calls.{skipping}
use Rattle.enocoro.proofs.Stretches.{front_covered}
use Rattle.enocoro.proofs.RegistersStreamCipher.cover.Given as goal

abbrev pub invariant-loop-at : goal.invariant-loop-at
invariant-loop-at l =
    let gone = min l.at (length l.initial.bytes) in
    (l.registers ≡ skipping l.fn.self gone) × (l.bytes ≡ front_covered l.fn.self l.initial.bytes gone)
