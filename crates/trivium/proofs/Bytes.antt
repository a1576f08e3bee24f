-- The keystream as bytes, from `octets` and `taps`.
pub use Rattle.octets.proofs.Streams.{length_run}
pub use Rattle.taps.proofs.Bytes.{keystream_from, gone, keystream_bytes, run_read, two_covers}
