-- The library's version, 0.8.0, as one number.
use Rattle.std.specs.Prelude.{ℕ, ◌+◌, ◌*◌}

-- ten thousand times its first part, a hundred times its second, and its third
abbrev pub version : ℕ
version = 10000 * 0 + 100 * 8 + 0
