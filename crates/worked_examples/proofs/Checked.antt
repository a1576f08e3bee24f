-- The table holds: both sides of each example compute to the same value.
use mathlib.Core.Path.{refl}
use Rattle.frames.specs.Frames.{bytes}
use Rattle.octets.specs.{Digits.digits, Digits.number_after, Digits.bits_of, Rows.row}
use Rattle.samples.specs.Words.{signed, sample_of}
use Rattle.trivium.specs.Registers.{loaded, output_bit}
use Rattle.worked_examples.specs.Table.{Holds, table}

pub checked : Holds table
unfolding digits number_after bits_of row signed sample_of loaded output_bit bytes
checked = (refl, (refl, (refl, (refl, (refl, (refl, (refl, (refl, (refl, (refl, (refl, tt)))))))))))
