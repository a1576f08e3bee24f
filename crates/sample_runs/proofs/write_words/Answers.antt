-- `sample_runs::write_words` meets its contract: the two bytes of sample after sample, in their place.
use Rattle.std.proofs.Common.{arith, rules, ◌≡◌, ℕ, ◌+◌, ◌*◌, ◌/◌, ◌%◌, ◌<◌, ◌≤◌, List, length, get_or, sym, ap, ◌∙◌, ℤ, pos}
use Rattle.std.proofs.lemmas.Int.{to_z-of_z}
use Rattle.std.specs.Int.{w16}
use mir.Val.{SFits}
use lib.ListN.{set}
use lib.Seq.{paste}
use Rattle.octets.proofs.Buffers.{put_none, paste_front, paste_all}
use Rattle.samples.specs.Words.{unsigned, bytes_of_all}
use Rattle.samples.proofs.Words.{byte_upper, byte_lower, length_bytes}
use Rattle.sample_runs.proofs.write_words.Goals as goal

-- one sample more, its upper byte first
write_more : (samples : List ℤ) (output : List ℕ) (i : ℕ) {bits upper lower : ℕ}
    → i < length samples → 2 * length samples ≤ length output
    → bits ≡ unsigned (get_or samples i (pos 0)) → upper ≡ bits / 256 % 256 → lower ≡ bits % 256
    → set (set (paste output 0 (bytes_of_all samples) (2 * i)) (2 * i) upper) (2 * i + 1) lower
    ≡ paste output 0 (bytes_of_all samples) (2 * (i + 1))
write_more samples output i h room e u l =
    let run : List ℕ = bytes_of_all samples in
    let long : length run ≡ 2 * length samples = length_bytes samples in
    let upper = u ∙ ap (λ (n : ℕ). n / 256 % 256) e ∙ sym (byte_upper samples i h) in
    let lower = l ∙ ap (λ (n : ℕ). n % 256) e ∙ sym (byte_lower samples i h) in
    let next : 2 * i + 1 + 1 ≡ 2 * (i + 1) = omega arith in
    (λ j. set (set (paste output 0 run (2 * i)) (2 * i) (upper j)) (2 * i + 1) (lower j))
    ∙ ap (λ (d : List ℕ). set d (2 * i + 1) (get_or run (2 * i + 1) 0))
    (paste_front output run (2 * i) 0 (omega arith) (omega arith))
    ∙ paste_front output run (2 * i + 1) 0 (omega arith) (omega arith)
    ∙ ap (paste output 0 run) next

pub loop-i-preserved : goal.loop-i-preserved
loop-i-preserved c =
    let sound : List ℤ = c.args.sound.now in
    let i : ℕ = c.loop-i.i in
    let z : ℤ = get_or sound i (pos 0) in
    let fits : SFits w16 z = search rules in
    let bits = c.bits.ensures ∙ ap unsigned (to_z-of_z w16 z fits) in
    let bytes = c.to_be_bytes.ensures in
    ap (λ (d : List ℕ). set (set d (2 * i) (get_or c.to_be_bytes.result 0 0)) (2 * i + 1) (get_or c.to_be_bytes.result 1 0))
    c.loop-i.invariant
    ∙ write_more sound c.args.output.now i (omega arith) (omega arith) bits
    (ap (λ (l : List ℕ). get_or l 0 0) bytes) (ap (λ (l : List ℕ). get_or l 1 0) bytes)

pub returns-after-loop-i : goal.returns-after-loop-i
returns-after-loop-i c =
    let sound : List ℤ = c.args.sound.now in
    let all : 2 * c.loop-i.i ≡ length (bytes_of_all sound) = omega (arith, length_bytes sound) in
    c.loop-i.invariant ∙ paste_all c.args.output.now 0 (bytes_of_all sound) (2 * c.loop-i.i) all (omega arith)

pub returns-else-sound-output : goal.returns-else-sound-output
returns-else-sound-output c =
    put_none c.args.output.now 0 (bytes_of_all c.args.sound.now) (omega (arith, length_bytes c.args.sound.now))
