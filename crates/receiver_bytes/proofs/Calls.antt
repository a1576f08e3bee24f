-- A receiver that is made finds too little room.
use mathlib.Core.{Path.◌≡◌, Path.refl, List.List}
use Prim.Native.Nat.{ℕ, ◌<◌}
use lib.ListN.{length}
use Rattle.refusals.specs.{Numbers.accepted, Numbers.no_room, Outcome.outcome}
use Rattle.record_bytes.proofs.Making.{made_short}
use Rattle.receiver.specs.Receiver.{ReceiverMade, making_receiver}
use Rattle.receiver_bytes.specs.{Calls.receiver_make, Record.receiver_size, Record.receiver_bytes}

pub make_short : (buffer key pair : List ℕ) → (making_receiver key pair).refusal ≡ accepted
    → length buffer < receiver_size
    → outcome no_room buffer ≡ receiver_make buffer key pair
unfolding receiver_make making_receiver
make_short buffer key pair own short =
    made_short _ _ _ (λ (a : ReceiverMade). a.refusal) (λ a. receiver_bytes a.receiver) _ _ tt refl (λ n. refl) refl own short
