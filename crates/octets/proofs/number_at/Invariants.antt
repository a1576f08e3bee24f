-- after i turns the value is the number that the first i of the bytes make
use Rattle.std.proofs.Common.{◌≡◌, take}
use Rattle.octets.specs.Digits.{number, word}
use Rattle.octets.proofs.number_at.Given as goal

abbrev pub invariant-loop-byte : goal.invariant-loop-byte
invariant-loop-byte l = l.value ≡ word (number 256 (take l.byte-index l.bytes))
