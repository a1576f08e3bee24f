-- The keys' length decides, then what the pack says under them, and the lines say it.
use Rattle.std.proofs.Common.{◌≡◌, ℕ, ◌-◌, List, length, drop, length-drop, refl, ap, ◌∙◌, arith}
use lib.{ListN.length-take, Seq.take_all}
use Rattle.std.specs.Prelude.{Ok}
use Rattle.octets.specs.Buffers.{slice}
use Rattle.refusals.specs.{Answers.number_of, declared.Flaw.Flaw}
use Rattle.refusals.proofs.Answers.{never_accepted}
use Rattle.pack.specs.{Answers.opening_of}
use Rattle.rings.specs.Ring.{keys_bytes}
use Rattle.pack_text.specs.Text.{pack_lines, refused_line, pack_in, writing}
use Rattle.pack_text.proofs.Surveys.{lines_of, short_keys, name_short, told_accepted, told_refused}
use Rattle.pack_text.proofs.write_text.Goals as goal

-- all that stands behind the keys
behind : (input : List ℕ) → slice input keys_bytes (length input - keys_bytes) ≡ pack_in input
behind input = take_all (length input - keys_bytes) (drop keys_bytes input) (simp length-drop (omega arith))

pub returns-then-input-lt-KEYS_BYTES : goal.returns-then-input-lt-KEYS_BYTES
returns-then-input-lt-KEYS_BYTES c =
    let d = c.args.d.now in
    c.write_refused.ensures
    ∙ ap (λ (f : Flaw). writing (refused_line f.lacks (number_of f.refusal)) d) c.into.ensures
    ∙ ap (λ (t : List ℕ). writing t d) (short_keys c.args.input.now c.if-input-lt-KEYS_BYTES.true)

pub write_pack-requires : goal.write_pack-requires
write_pack-requires c =
    let few = name_short c.args.input.now c.if-input-lt-KEYS_BYTES.false c.in-Ok.ensures refl in
    let part = ap length c.slice-name.ensures ∙ length-take c.in-Ok.opened.name_length _ in
    (omega arith, omega arith)

pub returns-in-Ok : goal.returns-in-Ok
returns-in-Ok c =
    let input = c.args.input.now in
    let o = c.in-Ok.opened in
    c.write_pack.ensures
    ∙ ap (λ (t : List ℕ). writing t c.args.d.now)
    (ap (λ (name : List ℕ). pack_lines name o.key o.samples o.loops) c.slice-name.ensures
    ∙ ap (λ (f : List ℕ). lines_of f (opening_of (Ok o))) (behind input)
    ∙ told_accepted input c.if-input-lt-KEYS_BYTES.false c.in-Ok.ensures refl)

pub returns-in-Err : goal.returns-in-Err
returns-in-Err c =
    c.write_refused-in-Err.ensures
    ∙ ap (λ (t : List ℕ). writing t c.args.d.now)
    (told_refused c.args.input.now c.if-input-lt-KEYS_BYTES.false c.in-Err.ensures (never_accepted c.in-Err.flaw.refusal))
