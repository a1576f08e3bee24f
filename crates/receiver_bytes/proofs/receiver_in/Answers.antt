-- `receiver_in`: each field is read at its place.
use Rattle.std.proofs.Common.{arith, length}
use borrow.Author.Tests.{eq-eqb}
use Rattle.receiver_bytes.specs.Record.{receiver_size, receiver_in}
use Rattle.receiver_bytes.proofs.receiver_in.Goals as goal

pub returns : goal.returns
unfolding receiver_in
returns c =
    let front = c.front_in-front.ensures in
    rw (eq-eqb (length c.args.bytes.now) receiver_size (omega arith))
    (λ i. record {
      key = (front i).key;
      pair = (front i).pair;
      session = (front i).session;
      length = (front i).length;
      count = c.two_at.ensures i;
    })
