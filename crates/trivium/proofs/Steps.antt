-- Steps of the record: what is packed stands for the state that it was packed from, so laws of states are its laws.
use mathlib.Core.{Path.◌≡◌, Path.refl, Path.sym, Path.ap, Path.subst, Path.◌∙◌, List.List}
use Prim.Native.Nat.{ℕ, ◌+◌, ◌*◌, ◌^◌, ◌<◌, ◌≤◌, min}
use native.Mathlib.Omega.{arith}
use Rattle.octets.specs.Digits.{number}
use Rattle.shift_registers.proofs.Words.{joined_apart}
use Rattle.taps.specs.{Keystream.bits, Registers.State, Registers.loaded, Registers.started, Registers.steps}
use Rattle.taps.proofs.{Steps.held_words, Steps.held_moved, Steps.bits_small, Strides.strode}
use Rattle.trivium.specs.Calls.{strides, short_striding, running_from, running, stopping, skipping}
use Rattle.trivium.specs.{Record.state, Record.packed, declared.Ran.Ran, declared.Registers.Registers}
use Rattle.trivium.specs.declared.Running.{Running}
pub use Rattle.taps.proofs.Steps.{Held, held_steps, steps_none, steps_add, steps_bytes, length_bits, bits_below}

pub held_state : (r : Registers) → Held (state r)
unfolding state
held_state r = held_words r.words

-- what was packed is there again
pub state_packed : (s : State) → Held s → state (packed s) ≡ s
unfolding state packed
state_packed s h =
    let a = joined_apart 93 s.a h.a in
    let b = joined_apart 84 s.b h.b in
    let c = joined_apart 111 s.c h.c in
    λ i. record { a = a i; b = b i; c = c i }

pub state_steps : (n : ℕ) (r : Registers) → state (packed (steps n (state r))) ≡ steps n (state r)
state_steps n r = state_packed (steps n (state r)) (held_steps n (state r) (held_state r))

-- whatever was loaded, what is started is held
pub state_started : (key iv : List ℕ) → state (packed (started key iv)) ≡ started key iv
state_started key iv = state_packed (started key iv) (held_moved 1151 (loaded key iv))

-- ---- whole bytes passed over

pub state_skip : (r : Registers) (n : ℕ) → state (skipping r n) ≡ steps (8 * n) (state r)
unfolding skipping
state_skip r n = state_steps (8 * n) r

pub skip_packed : (r : Registers) (n : ℕ) → packed (steps (8 * n) (state r)) ≡ skipping r n
unfolding skipping
skip_packed r n = refl

-- from registers that have gone on by n bytes
pub skip_from : (r now : Registers) (n m : ℕ) → state now ≡ steps (8 * n) (state r)
    → skipping now m ≡ skipping r (n + m)
unfolding skipping
skip_from r now n m e = ap packed (ap (steps (8 * m)) e ∙ sym (steps_bytes n m (state r)))

pub skip_add : (r : Registers) (n m : ℕ) → skipping (skipping r n) m ≡ skipping r (n + m)
skip_add r n m = skip_from r (skipping r n) n m (state_skip r n)

-- a part of a stride, by bytes
pub few_strode : (r : Registers) (n : ℕ) → n ≤ 8 → short_striding r (8 * n) ≡ strides (8 * n) r
few_strode r n few =
    let all : min (8 * n) 64 ≡ 8 * n = omega arith in
    ap (λ (k : ℕ). strides k r) all

-- ---- a run of strides, for callers, who need not unfold its definitions

pub run_begun : (r : Registers) (w : Running) → w ≡ running_from r → state w.registers ≡ state r
run_begun r w e = ap (λ (x : Running). state x.registers) e

pub run_stopped : (w : Running) (r : Registers) → r ≡ stopping w → state r ≡ state w.registers
unfolding stopping
run_stopped w r e = ap state e ∙ state_packed (state w.registers) (held_state w.registers)

pub ran_word : (w : Running) (r : Ran) → r ≡ running w → r.word ≡ number 2 (bits 64 (state w.registers))
unfolding running
ran_word w r e = ap (λ (x : Ran). x.word) e

pub ran_below : (w : Running) (r : Ran) → r ≡ running w → r.word < 2 ^ 64
ran_below w r e = subst (λ (n : ℕ). n < 2 ^ 64) (sym (ran_word w r e)) (bits_small 64 (state w.registers))

-- what an upper word keeps of bits that the cipher is done with counts for nothing
pub ran_state : (w : Running) (r : Ran) → r ≡ running w → state r.next.registers ≡ steps 64 (state w.registers)
unfolding running state
ran_state w r e =
    ap (λ (x : Ran). state x.next.registers) e ∙ strode w.registers.words
