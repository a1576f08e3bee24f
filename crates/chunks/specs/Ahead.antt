-- The keystream from the place where a cipher stands: that of its own record. And what is read under it.
use Rattle.std.specs.Prelude.{ℕ, ◌/◌, List, [], ◌∷◌}
use lib.{IntN.ℤ, ListN.length}
use Rattle.octets.specs.{Buffers.placed, Stream.Keystream, Stream.from, Stream.enciphered}
use Rattle.refusals.specs.{Numbers.no_room, Outcome.Outcome, Outcome.outcome, Rules.◌over◌, Rules.◌says◌, Rules.settled}
use Rattle.samples.specs.Words.{words_of}
use Rattle.trivium.specs.Calls as trivium
use Rattle.enocoro.specs.Calls as enocoro
use Rattle.triad.specs.Calls as triad
use Rattle.chunks.specs.declared.Cipher.{Cipher}
use Rattle.chunks.specs.declared.Cipher.TheVariants.{Trivium, Enocoro, Triad}

unfoldable pub ahead : Cipher → Keystream
ahead (Trivium registers) = trivium.ahead registers
ahead (Enocoro registers) = enocoro.ahead registers
ahead (Triad registers) = triad.ahead registers

-- the samples of a body at the front of the output, and the keystream behind it; without room for them, all as it was
unfoldable pub reading_on : Keystream → List ℕ → List ℤ → Outcome Keystream ℤ
reading_on k body output =
    settled ((length body / 2 over length output says no_room) ∷ [])
    (outcome (from (length body) k) (placed output 0 (words_of (enciphered k body))))
    (λ n. outcome k output)
