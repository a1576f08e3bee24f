-- Sixteen bytes at a turn, and then the few that are left: what is still to be enciphered leads to what is owed.
use Rattle.std.proofs.Common.{◌≡◌, length, take, drop, ◌++◌, ℕ, ◌+◌, ◌-◌, ◌≤◌, ◌*◌, ◌/◌, sym, ap, ◌∙◌, arith}
use Rattle.octets.specs.{Buffers.slice, Stream.enciphered}
use Rattle.octets.proofs.Streams.{length_run}
use Rattle.taps.specs.{Keystream.keystream, Registers.steps}
use Rattle.taps.proofs.Steps.{steps_none, steps_bytes}
use Rattle.trivium.specs.{Record.state}
use Rattle.trivium.proofs.Covers.{covered, covered_all, behind_covered, further, in_middle}
use Rattle.trivium.proofs.RegistersStreamCipher.cover.Goals as goal

pub loop-i-init : goal.loop-i-init
loop-i-init c =
    let r = c.args.self in
    let same : c.of-running.result.registers ≡ r = ap (λ w. w.registers) c.of-running.ensures in
    record {
      moved_on = ap state same ∙ sym (steps_none (state r));
      written = ap (λ q. covered (state q) c.args.bytes.now 0) same ∙ covered_all (state r) c.args.bytes.now;
    }

pub loop-i-preserved : goal.loop-i-preserved
loop-i-preserved c =
    let l = c.loop-i in
    let on = c.cover_sixteen-running.ensures in
    let s = state c.args.self in
    let k = keystream (state l.running.registers) in
    let at : ℕ = 16 * l.i in
    let room : at + 16 ≤ length l.bytes = omega arith in
    let count : at + 16 ≡ 16 * (l.i + 1) = omega arith in
    let same : at + 16 - at ≡ 16 = omega arith in
    let run = on.1 ∙ ap (λ (n : ℕ). enciphered k (slice l.bytes at n)) same in
    let there =
    (λ i. take at l.bytes ++ (run i ++ drop (same i) (drop at l.bytes)))
    ∙ in_middle l.bytes _ at 16 (length_run k l.bytes at 16 room) room in
    record {
      moved_on = on.0 ∙ ap (steps (8 * 16)) l.invariant.moved_on ∙ sym (steps_bytes at 16 s)
          ∙ ap (λ (n : ℕ). steps (8 * n) s) count;
      written =
          further (state l.running.registers) (state c.cover_sixteen-running.result.registers) l.bytes _ at 16 room on.0
          there (sym count)
          ∙ l.invariant.written;
    }

pub returns : goal.returns
returns c =
    let l = c.loop-i in
    let k : ℕ = 16 * (length c.args.bytes.now / 16) in
    let all : 16 * l.i ≡ k = omega arith in
    behind_covered c.args.self l.running.registers c.cover_rest.result c.args.bytes.now l.bytes c.cover_rest.new.bytes k
    (omega arith) l.auto.bytes (l.invariant.moved_on ∙ ap (λ (n : ℕ). steps (8 * n) (state c.args.self)) all)
    (ap (covered (state l.running.registers) l.bytes) (sym all) ∙ l.invariant.written) c.cover_rest.ensures
