-- Four lines, each where the one before it ended.
use Rattle.std.proofs.Common.{◌≡◌, ℕ, ◌+◌, ◌≤◌, List, ◌++◌, length, arith}
use lib.ListN.{length-append}
use Rattle.octets.specs.Buffers.{put}
use Rattle.refusals.specs.Outcome.{outcome}
use Rattle.pack_text.specs.Text.{decimal, line, name_word, key_word, samples_word, loops_word, pack_lines, writing}
use Rattle.pack_text.proofs.Decimals.{length_decimal}
use Rattle.pack_text.proofs.Lines.{length_line, text_ends, text_on}
use Rattle.pack_text.proofs.write_pack.Goals as goal

-- a line about a number has at most 21 bytes behind its word
length_on : (text word : List ℕ) (x : ℕ) → length (text ++ line word (decimal x)) ≤ length text + (length word + 21)
length_on text word x =
    let both = length-append text (line word (decimal x)) in
    omega (arith, length_line word (decimal x), length_decimal x)

-- the text as far as each line
module _ (d name : List ℕ) (key samples loops : ℕ) (few : length name ≤ 32) (room : 128 ≤ length d) where
  abbrev named : List ℕ
  named = line name_word name

  abbrev keyed : List ℕ
  keyed = named ++ line key_word (decimal key)

  abbrev counted : List ℕ
  counted = keyed ++ line samples_word (decimal samples)

  named_short : length named ≤ 38
  named_short = omega (arith, length_line name_word name)

  keyed_short : length keyed ≤ 63
  keyed_short = omega (arith, length_on named key_word key, named_short)

  counted_short : length counted ≤ 92
  counted_short = omega (arith, length_on keyed samples_word samples, keyed_short)

  module _ {d₁ d₂ : List ℕ} {key_at samples_at : ℕ} (n : outcome key_at d₁ ≡ writing named d)
      (k : outcome samples_at d₂
      ≡ outcome (key_at + length (line key_word (decimal key))) (put d₁ key_at (line key_word (decimal key)))) where
    after_key : outcome samples_at d₂ ≡ writing keyed d
    after_key = text_on d named _ (omega (arith, keyed_short)) n k

    after_samples : {d₃ : List ℕ} {loops_at : ℕ}
        → outcome loops_at d₃ ≡ outcome (samples_at + length (line samples_word (decimal samples)))
        (put d₂ samples_at (line samples_word (decimal samples)))
        → outcome loops_at d₃ ≡ writing counted d
    after_samples s = text_on d keyed _ (omega (arith, counted_short)) after_key s

pub write_line-loops_at-requires : goal.write_line-loops_at-requires
write_line-loops_at-requires c =
    let a = c.args in
    let text = after_key a.d.now a.name.now a.key a.samples a.loops c.requires.0 c.requires.1 c.write_name-key_at.ensures
    c.write_line-samples_at.ensures in
    omega (
      arith,
      text_ends a.d.now _ text,
      keyed_short a.d.now a.name.now a.key a.samples a.loops c.requires.0 c.requires.1,
    )

pub write_line-requires : goal.write_line-requires
write_line-requires c =
    let a = c.args in
    let text = after_samples a.d.now a.name.now a.key a.samples a.loops c.requires.0 c.requires.1
    c.write_name-key_at.ensures c.write_line-samples_at.ensures c.write_line-loops_at.ensures in
    omega (
      arith,
      text_ends a.d.now _ text,
      counted_short a.d.now a.name.now a.key a.samples a.loops c.requires.0 c.requires.1,
    )

pub returns : goal.returns
unfolding pack_lines
returns c =
    let a = c.args in
    let text = after_samples a.d.now a.name.now a.key a.samples a.loops c.requires.0 c.requires.1
    c.write_name-key_at.ensures c.write_line-samples_at.ensures c.write_line-loops_at.ensures in
    let before = counted a.d.now a.name.now a.key a.samples a.loops c.requires.0 c.requires.1 in
    text_on a.d.now before (line loops_word (decimal a.loops))
    (omega (
      arith,
      length_on before loops_word a.loops,
      counted_short a.d.now a.name.now a.key a.samples a.loops c.requires.0 c.requires.1,
    )) text c.write_line.ensures
