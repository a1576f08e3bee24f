-- A sound that is to be sealed, as the parts of its pack.
use Rattle.std.specs.Prelude.{ℕ, ◌+◌, ◌*◌, length}
use Rattle.pack.specs.Layout.{Parts, parts}
use Rattle.seal_faults.specs.declared.Sound.{Sound}

abbrev pub sound_parts : Sound → Parts
sound_parts s = parts s.name.now s.key s.value.now s.samples.now s.loops.now

-- the length of its file, with a tag section of this length
abbrev pub file_length : Sound → ℕ → ℕ
file_length s tag =
    8 + length s.name.now + length s.value.now + 2 * length s.samples.now + 4 * length s.loops.now + tag
