-- `octet_writer::byte_above` meets its contract: a shift by 8 bits for each byte below is a quotient, and above a word
-- there is nothing.
use Rattle.std.proofs.Common.{arith, ℕ, ◌/◌, ◌%◌, sym, ap}
use native.Mathlib.Nat.{div-eq_of_lt, lt_of_lt_of_le, pow-le-pow_right}
use Rattle.octets.proofs.Streams.{power_of_bytes}
use Rattle.octet_writer.proofs.byte_above.Goals as goal

pub returns-then-below-lt8 : goal.returns-then-below-lt8
returns-then-below-lt8 c = ap (λ (p : ℕ). c.args.value / p % 256) (sym (power_of_bytes c.args.below))

pub returns-else-below-lt8 : goal.returns-else-below-lt8
returns-else-below-lt8 c =
    let high = pow-le-pow_right {n = 256} (omega arith) c.if-below-lt8.false in
    sym (ap (λ (q : ℕ). q % 256) (div-eq_of_lt (lt_of_lt_of_le c.ranges.value.fits high)))
