-- Trivium's internal state and how it moves, from `taps`.
pub use Rattle.taps.specs.Registers.{State, new_a, new_b, new_c, warm_up, started}
unfoldable pub use Rattle.taps.specs.Registers.{loaded, next, output_bit, steps}
