-- From its power of ten on a number fills its digits, and 0 has one.
use Rattle.std.proofs.Common.{◌≡◌, ℕ, refl, arith}
use Rattle.octets.specs.Digits.{digits}
use Rattle.pack_text.specs.Text.{trimmed}
use Rattle.pack_text.proofs.Decimals.{fills}
use Rattle.pack_text.proofs.width.Goals as goal

pub returns-in-Some : goal.returns-in-Some
returns-in-Some c =
    let k = c.in-Some.ensures in
    (omega (arith, k.bound), fills c.in-Some.below c.args.value k.power_le k.next_power_gt k.bound)

zero_fills : (x : ℕ) → x ≡ 0 → digits 10 1 x ≡ trimmed (digits 10 20 x)
unfolding digits trimmed
zero_fills x e = rw e refl

pub returns-in-None : goal.returns-in-None
returns-in-None c = (omega arith, zero_fills c.args.value c.in-None.ensures.none)
