-- At each turn, what is still to be enciphered leads to what is owed.
use Rattle.std.proofs.Common.{◌≡◌, ◌*◌}
use Rattle.octets.specs.Stream.{enciphered}
use Rattle.taps.specs.{Keystream.keystream, Registers.steps}
use Rattle.trivium.specs.Record.{state}
use Rattle.trivium.proofs.Covers.{covered}
use Rattle.trivium.proofs.RegistersStreamCipher.cover.Given as goal

abbrev pub invariant-loop-i : goal.invariant-loop-i
invariant-loop-i l =
    record {
      moved_on : state l.running.registers ≡ steps (8 * (16 * l.i)) (state l.fn.self);
      written : covered (state l.running.registers) l.bytes (16 * l.i)
          ≡ enciphered (keystream (state l.fn.self)) l.initial.bytes;
    }
