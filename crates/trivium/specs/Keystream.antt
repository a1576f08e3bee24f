-- Trivium's keystream, from `taps`.
pub use Rattle.taps.specs.Keystream.{trivium}
unfoldable pub use Rattle.taps.specs.Keystream.{bits, keystream}
