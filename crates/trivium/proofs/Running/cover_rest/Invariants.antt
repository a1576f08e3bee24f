-- At each turn, what is still to be enciphered leads to what is owed.
use Rattle.std.proofs.Common.{◌≡◌, min, length}
use Rattle.octets.specs.Stream.{enciphered}
use Rattle.octets.proofs.Numbers.{Below}
use Rattle.taps.specs.Keystream.{keystream}
use Rattle.trivium.specs.{Calls.skipping, Record.state}
use Rattle.trivium.proofs.Covers.{covered}
use Rattle.trivium.proofs.Running.cover_rest.Given as goal

abbrev pub invariant-loop-at : goal.invariant-loop-at
invariant-loop-at l =
    record {
      bytes : Below 256 l.bytes;
      moved_on : l.registers ≡ skipping l.fn.self.registers (min l.at (length l.bytes));
      written : covered (state l.registers) l.bytes (min l.at (length l.bytes))
          ≡ enciphered (keystream (state l.fn.self.registers)) l.initial.bytes;
    }
