-- The text by what is told to one who has the keys: both are settled by the pack's rules, once the keys are there.
use mathlib.Core.{Path.◌≡◌, Path.refl, Path.sym, Path.ap, Path.◌∙◌, List.List, Logic.◌≢◌}
use Prim.Native.Nat.{ℕ, ◌<◌, ◌≤◌}
use native.Mathlib.Omega.{arith}
use lib.ListN.{length}
use Rattle.octets.specs.{Buffers.slice, Stream.Cipher}
use Rattle.refusals.specs.{Numbers.accepted, Numbers.bad_key, Rules.first, Rules.lacking, Rules.Verdict}
use Rattle.refusals.proofs.Faults.{none_wrong, rule_passes, lacking_passes, verdict_at}
use Rattle.refusals.proofs.Settled.{settled_done, settled_left, answer_left}
use Rattle.pack.specs.{Calls.accepted_opening, Calls.inspecting, Calls.inspecting_file, Ciphers.cipher_in}
use Rattle.pack.specs.{Ciphers.ring_in, Faults.file_faults, Faults.keyed_faults, Answers.Opened}
use Rattle.pack.proofs.Theorems.{keyed_numbered, keyed_shown, keyed_lacks, inspect_refusal}
use Rattle.rings.specs.Ring.{keys_bytes}
use Rattle.pack_text.specs.Text.{pack_lines, refused_line, keys_in, pack_in, input_faults, text_of}

-- the lines about what was found in a file
abbrev pub lines_of : List ℕ → Opened → List ℕ
lines_of file o = pack_lines (slice file o.name_at o.name_length) o.key o.samples o.loops

-- too few bytes for the keys
pub short_keys : (input : List ℕ) → length input < keys_bytes → refused_line 0 bad_key ≡ text_of input
unfolding text_of
short_keys input short =
    let found = verdict_at 0 (input_faults input) short refl refl in
    ap (λ (v : Verdict). refused_line v.lacks bad_key) found
    ∙ settled_left (input_faults input) _ _ bad_key (omega arith) (ap (λ (v : Verdict). v.number) found)

module _ (input : List ℕ) {o : Opened} (keys : keys_bytes ≤ length input)
    (e : o ≡ inspecting_file (keys_in input) (pack_in input)) where
  abbrev file : List ℕ
  file = pack_in input

  abbrev cipher : Cipher
  cipher = cipher_in file

  abbrev ring : List (List ℕ)
  ring = ring_in (keys_in input) file

  found : o.refusal ≡ first (keyed_faults cipher ring file)
  found = ap (λ (a : Opened). a.refusal) e ∙ inspect_refusal cipher ring file

  number : o.refusal ≡ first (input_faults input)
  number = found ∙ rule_passes _ (keyed_faults cipher ring file) keys

  done : o.refusal ≡ accepted → o ≡ accepted_opening cipher file
  unfolding inspecting
  done z = e ∙ sym (settled_done _ _ _ (sym z ∙ found))

  -- a name that was found has at most 32 bytes
  pub name_short : o.refusal ≡ accepted → o.name_length ≤ 32
  unfolding file_faults
  name_short z =
      let all = none_wrong _ (keyed_numbered cipher ring file) (sym found ∙ z) in
      let right = (keyed_shown cipher ring file all).0 in
      omega (arith, ap (λ (a : Opened). a.name_length) (done z))

  pub told_accepted : o.refusal ≡ accepted → lines_of file o ≡ text_of input
  unfolding text_of
  told_accepted z = ap (lines_of file) (done z) ∙ settled_done (input_faults input) _ _ (sym z ∙ number)

  -- the keys' own rule lacks nothing, so what is lacking is lacking in the file
  lacks : o.refusal ≢ accepted → o.lacks ≡ lacking (input_faults input)
  unfolding inspecting
  lacks h =
      ap (λ (a : Opened). a.lacks) (answer_left _ _ _ (λ (a : Opened). a.refusal) refl (λ n. refl) e h)
      ∙ sym (keyed_lacks cipher ring file)
      ∙ lacking_passes _ (keyed_faults cipher ring file) keys

  pub told_refused : o.refusal ≢ accepted → refused_line o.lacks o.refusal ≡ text_of input
  unfolding text_of
  told_refused h =
      ap (λ (l : ℕ). refused_line l o.refusal) (lacks h)
      ∙ settled_left (input_faults input) _ _ o.refusal h number
