-- `stereo::write_frames` meets its contract: frame after frame, its left float first.
use Rattle.std.proofs.Common.{arith, rules, ◌≡◌, ℕ, ◌+◌, ◌*◌, ◌/◌, ◌<◌, ◌≤◌, List, length, get_or, sym, ap, ap₂, ◌∙◌, ℤ, pos}
use Rattle.std.proofs.lemmas.Int.{to_z-of_z}
use Rattle.std.specs.Int.{w16}
use mir.Val.{SFits}
use lib.{Ieee.Float, Ieee.nan, ListN.set, Seq.paste}
use Rattle.octets.proofs.Buffers.{put_none, paste_front, paste_all}
use Rattle.stereo.specs.{Frames.frame_of, Frames.floats_of, declared.Stereo.Stereo}
use Rattle.stereo.proofs.Frames.{length_floats, floats_at}
use Rattle.stereo.proofs.write_frames.Goals as goal

-- one frame more
write_more : (samples : List ℤ) (output : List Float) (i : ℕ) (frame : Stereo)
    → i < length samples / 2 → length samples / 2 ≤ length output / 2
    → frame ≡ frame_of (get_or samples (2 * i) (pos 0)) (get_or samples (2 * i + 1) (pos 0))
    → set (set (paste output 0 (floats_of samples) (2 * i)) (2 * i) frame.left) (2 * i + 1) frame.right
    ≡ paste output 0 (floats_of samples) (2 * (i + 1))
unfolding frame_of
write_more samples output i frame h room e =
    let run : List Float = floats_of samples in
    let at : ℕ = 2 * i in
    let long = length_floats samples in
    let first = ap (λ (f : Stereo). f.left) e ∙ sym (floats_at samples at nan (omega arith)) in
    let second = ap (λ (f : Stereo). f.right) e ∙ sym (floats_at samples (at + 1) nan (omega arith)) in
    let next : at + 1 + 1 ≡ 2 * (i + 1) = omega arith in
    (λ j. set (set (paste output 0 run at) at (first j)) (at + 1) (second j))
    ∙ ap (λ (d : List Float). set d (at + 1) (get_or run (at + 1) nan))
    (paste_front output run at nan (omega arith) (omega arith))
    ∙ paste_front output run (at + 1) nan (omega arith) (omega arith)
    ∙ ap (paste output 0 run) next

pub loop-i-preserved : goal.loop-i-preserved
loop-i-preserved c =
    let samples : List ℤ = c.args.samples.now in
    let i : ℕ = c.loop-i.i in
    let x : ℤ = get_or samples (2 * i) (pos 0) in
    let y : ℤ = get_or samples (2 * i + 1) (pos 0) in
    let first : SFits w16 x = search rules in
    let second : SFits w16 y = search rules in
    let frame : Stereo = c.frame_of-frame.result in
    let seen = c.frame_of-frame.ensures ∙ ap₂ frame_of (to_z-of_z w16 x first) (to_z-of_z w16 y second) in
    ap (λ (d : List Float). set (set d (2 * i) frame.left) (2 * i + 1) frame.right) c.loop-i.invariant
    ∙ write_more samples c.args.output.now i frame (omega arith) (omega arith) seen

pub returns-after-loop-i : goal.returns-after-loop-i
returns-after-loop-i c =
    let samples : List ℤ = c.args.samples.now in
    let all : 2 * c.loop-i.i ≡ length (floats_of samples) = omega (arith, length_floats samples) in
    c.loop-i.invariant ∙ paste_all c.args.output.now 0 (floats_of samples) (2 * c.loop-i.i) all (omega arith)

pub returns-else-frames-output : goal.returns-else-frames-output
returns-else-frames-output c =
    put_none c.args.output.now 0 (floats_of c.args.samples.now) (omega (arith, length_floats c.args.samples.now))
