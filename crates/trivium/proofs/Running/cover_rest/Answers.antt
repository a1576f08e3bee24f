use Rattle.std.proofs.Common.{◌≡◌, min, length, ◌+◌, sym, ap, ◌∙◌, arith}
use Rattle.trivium.specs.{Calls.skipping, Calls.stopping, Record.state, Record.packed}
use Rattle.trivium.proofs.Covers.{covered, covered_all, turn, finished}
use Rattle.trivium.proofs.Steps.{steps_none, run_stopped}
use Rattle.trivium.proofs.Running.cover_rest.Goals as goal

pub loop-at-init : goal.loop-at-init
unfolding skipping stopping
loop-at-init c =
    let bytes = c.args.bytes.now in
    let stopped = c.stop-registers.ensures in
    let none : min 0 (length bytes) ≡ 0 = omega arith in
    let here = run_stopped c.args.self c.stop-registers.result stopped in
    record {
      bytes = λ i. omega (arith, c.type_inv.bytes i);
      moved_on = stopped ∙ ap packed (sym (steps_none _)) ∙ ap (skipping c.args.self.registers) (sym none);
      written = (λ i. covered (here i) bytes (none i)) ∙ covered_all (state c.args.self.registers) bytes;
    }

pub loop-at-preserved : goal.loop-at-preserved
loop-at-preserved c =
    let l = c.loop-at in
    let n = c.min-n.result in
    let here : min l.at (length l.bytes) ≡ l.at = omega arith in
    let next : min (l.at + 8) (length c.cover.new.bytes) ≡ l.at + n = omega arith in
    let got =
    turn c.args.self.registers c.args.bytes.now l.registers l.bytes c.cover.new.bytes l.at n (omega arith) (omega arith)
    l.invariant.bytes (l.invariant.moved_on ∙ ap (skipping c.args.self.registers) here)
    (ap (covered (state l.registers) l.bytes) (sym here) ∙ l.invariant.written) c.short_stride-strode.ensures
    c.cover.ensures in
    record {
      bytes = λ i. omega (arith, c.type_inv.bytes i);
      moved_on = got.0 ∙ ap (skipping c.args.self.registers) (sym next);
      written = ap (covered (state c.short_stride-strode.result.next) c.cover.new.bytes) next ∙ got.1;
    }

pub returns : goal.returns
returns c =
    let l = c.loop-at in
    finished c.args.self.registers c.args.bytes.now l.registers l.bytes _ (omega arith) l.auto.bytes
    l.invariant.moved_on l.invariant.written

pub returns-2 : goal.returns-2
returns-2 c =
    let l = c.loop-at in
    let n = c.min-n.result in
    let here : min l.at (length l.bytes) ≡ l.at = omega arith in
    let got =
    turn c.args.self.registers c.args.bytes.now l.registers l.bytes c.cover.new.bytes l.at n (omega arith) (omega arith)
    l.invariant.bytes (l.invariant.moved_on ∙ ap (skipping c.args.self.registers) here)
    (ap (covered (state l.registers) l.bytes) (sym here) ∙ l.invariant.written) c.short_stride-strode.ensures
    c.cover.ensures in
    finished c.args.self.registers c.args.bytes.now _ _ (l.at + n) (omega arith) (omega arith) got.0 got.1
