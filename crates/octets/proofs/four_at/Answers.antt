-- `octets::four_at` meets its contract: four bytes fill no more than a word, and no more than the type.
use Rattle.std.proofs.Common.{arith, ◌≡◌, ◌^◌, ◌<◌}
use Rattle.octets.specs.Digits.{number_at}
use Rattle.octets.proofs.Numbers.{word_read}
use Rattle.octets.proofs.four_at.Goals as goal

read : (c : goal.After-number_at)
    → (c.number_at.result ≡ number_at c.args.s.now c.args.at 4) × (c.number_at.result < 256 ^ 4)
read c = word_read c.args.s.now c.args.at 4 (λ i. omega (arith, c.type_inv.s i)) (omega arith) c.number_at.ensures

pub overflow_cast-result : goal.overflow_cast-result
overflow_cast-result c = record { fits = (read c).1 }

pub returns : goal.returns
returns c = (read c).0
