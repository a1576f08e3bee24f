-- What the public calls' definitions come to. Each theorem rests on the laws of steps, and those on enciphering are
-- what holds of any cipher.
use mathlib.Core.{Path.◌≡◌, Path.refl, Path.sym, Path.ap, Path.subst, Path.◌∙◌, List.List, List.◌∷◌}
use Prim.Native.Nat.{ℕ, zero, suc, ◌*◌, ◌≤◌, min}
use native.Mathlib.Omega.{arith}
use lib.{ListN.length, ListN.take, Pow.shr_lt}
use Rattle.octets.specs.{Buffers.placed, Digits.number, Stream.from, Stream.enciphered}
use Rattle.refusals.specs.{Numbers.accepted, Answers.Answer, Answers.answer, Outcome.outcome, Rules.Leaves}
use Rattle.refusals.proofs.Settled.{done_if, settled_leaves, by_settled}
use Rattle.ciphers.specs.Calls.{make_faults, TakenInTwo, GivesBack}
use Rattle.ciphers.proofs.Enciphering as any
use Rattle.taps.specs.Keystream.{bits, keystream, trivium}
use Rattle.taps.specs.Registers.{State, loaded, next, steps, started, output_bit}
use Rattle.taps.proofs.{Bytes.gone, Steps.Held, Steps.held_steps, Steps.held_moved}
use Rattle.trivium.specs.{Engines.plainly, Engines.plain_bits, Record.state, Record.packed, Record.Clean}
use Rattle.trivium.specs.{declared.Registers.Registers}
use Rattle.trivium.specs.{declared.Running.Running, Calls.refused_making, Calls.making_cipher}
use Rattle.trivium.specs.Calls.{making_at, stepping, striding, short_striding, running, stopping, skipping}
use Rattle.trivium.specs.Calls.{ahead, enciphering}
use Rattle.trivium.proofs.Steps.{held_state, state_packed, state_started, state_steps, state_skip, skip_add}
use Rattle.trivium.proofs.Steps.{ran_word, ran_state}

-- ---- a refused call leaves everything as given

pub making_leaves : (key iv : List ℕ) → Leaves (λ m. m.refusal) refused_making (making_cipher key iv)
unfolding making_cipher
making_leaves key iv = settled_leaves _ _ _ (λ m. m.refusal) refl (λ n. refl)

pub making_at_leaves : (key iv : List ℕ) (n : ℕ) → Leaves (λ m. m.refusal) refused_making (making_at key iv n)
unfolding making_at
making_at_leaves key iv n = settled_leaves _ _ _ (λ m. m.refusal) refl (λ n. refl)

pub enciphering_leaves : (r : Registers) (input output : List ℕ)
    → Leaves (λ o. o.answer.refusal) (λ n. outcome (answer n r) output) (enciphering r input output)
enciphering_leaves = any.enciphering_leaves answer ahead skipping (λ a. a.refusal) (λ n r. refl)

-- a key and a value of ten bytes each aren't refused
pub makes : (key iv : List ℕ) → length key ≡ 10 → length iv ≡ 10
    → making_cipher key iv ≡ answer accepted (packed (started key iv))
unfolding making_cipher
makes key iv ten teni = sym (done_if _ _ _ (ten, (teni, tt)))

-- and what is made has their keystream
pub made_stream : (key iv : List ℕ) → length key ≡ 10 → length iv ≡ 10
    → ahead (making_cipher key iv).next ≡ keystream (started key iv)
made_stream key iv ten teni =
    ap (λ (m : Answer Registers). ahead m.next) (makes key iv ten teni) ∙ ap keystream (state_started key iv)

-- ---- made and moved on

-- by no stride: just made
pub made_at_none : (key iv : List ℕ) {n : ℕ} → n ≡ 0 → making_at key iv n ≡ making_cipher key iv
unfolding making_at making_cipher steps
made_at_none key iv none = ap (making_at key iv) none

pub makes_at : (key iv : List ℕ) (n : ℕ) → length key ≡ 10 → length iv ≡ 10
    → making_at key iv n ≡ answer accepted (packed (steps (64 * n) (started key iv)))
unfolding making_at
makes_at key iv n ten teni = sym (done_if _ _ _ (ten, (teni, tt)))

held_started : (key iv : List ℕ) → Held (started key iv)
held_started key iv = held_moved 1151 (loaded key iv)

-- it stands where the cipher comes to by so many strides
pub moved_on : (key iv : List ℕ) (n : ℕ)
    → state (packed (steps (64 * n) (started key iv))) ≡ steps (64 * n) (started key iv)
moved_on key iv n = state_packed _ (held_steps (64 * n) (started key iv) (held_started key iv))

-- ---- both engines

after_one : (r : Registers) → state (stepping r).next ≡ next (state r)
unfolding stepping steps
after_one r = state_steps 1 r

pub plainly_packed : (n : ℕ) (r : Registers) → plainly (suc n) r ≡ packed (steps (suc n) (state r))
unfolding plainly steps stepping
plainly_packed zero r = refl
plainly_packed (suc n) r =
    plainly_packed n (stepping r).next ∙ ap (λ (s : State). packed (steps (suc n) s)) (after_one r)

plain_bits_lem : (n : ℕ) (r : Registers) → plain_bits n r ≡ bits n (state r)
unfolding plain_bits bits stepping
plain_bits_lem zero r = refl
plain_bits_lem (suc n) r =
    ap (λ (l : List ℕ). output_bit (state r) ∷ l) (plain_bits_lem n (stepping r).next ∙ ap (bits n) (after_one r))

-- 64 bits a step and one bit a step give the same bits and leave the same registers, whatever the registers hold
pub engines_agree : (r : Registers) → striding r ≡ record { word = number 2 (plain_bits 64 r); next = plainly 64 r }
engines_agree r = λ i. record { word = number 2 (sym (plain_bits_lem 64 r) i); next = sym (plainly_packed 63 r) i }

-- a stride in a run and a plain one give the same word, and what they leave stands for the same state
pub running_agrees : (w : Running)
    → ((running w).word ≡ (striding w.registers).word)
    × (state (running w).next.registers ≡ state (striding w.registers).next)
running_agrees w =
    (ran_word w (running w) refl, ran_state w (running w) refl ∙ sym (state_steps 64 w.registers))

-- ---- enciphering

-- with room the call isn't refused
pub enciphers : (r : Registers) (input output : List ℕ) → length input ≤ length output
    → enciphering r input output
    ≡ outcome (answer accepted (skipping r (length input)))
    (placed output 0 (enciphered (keystream (state r)) input))
enciphers = any.enciphers answer ahead skipping

-- and what it was asked for stands at the output's front
pub enciphered_there : (r : Registers) (input output : List ℕ) (n : ℕ) → length input ≡ n → n ≤ length output
    → take n (enciphering r input output).buffer ≡ enciphered (ahead r) input
enciphered_there = any.enciphered_there answer ahead skipping

-- and with 0 it wasn't
unrefused : (r : Registers) (input output : List ℕ) → (enciphering r input output).answer.refusal ≡ accepted
    → enciphering r input output
    ≡ outcome (answer accepted (skipping r (length input)))
    (placed output 0 (enciphered (keystream (state r)) input))
unrefused = any.unrefused answer ahead skipping (λ a. a.refusal) (λ n r. refl)

-- ---- spare bits

clean : (s : State) → Held s → Clean (packed s)
unfolding packed
clean s h = record { a = shr_lt 29 64 h.a; b = shr_lt 20 64 h.b; c = shr_lt 47 64 h.c }

clean_steps : (n : ℕ) (r : Registers) → Clean (packed (steps n (state r)))
clean_steps n r = clean (steps n (state r)) (held_steps n (state r) (held_state r))

-- they come back zero from every call that isn't refused, whatever they were
pub clean_made_at : (key iv : List ℕ) (n : ℕ) → Clean (making_at key iv n).next
unfolding making_at
clean_made_at key iv n =
    by_settled (make_faults trivium key iv) _ _ (λ (m : Answer Registers). Clean m.next)
    (λ e. clean _ (held_steps (64 * n) (started key iv) (held_started key iv)))
    (λ n e h. record { a = omega arith; b = omega arith; c = omega arith })

pub clean_made : (key iv : List ℕ) → Clean (making_cipher key iv).next
clean_made key iv = subst (λ (m : Answer Registers). Clean m.next) (made_at_none key iv refl) (clean_made_at key iv 0)

pub clean_stepped : (r : Registers) → Clean (stepping r).next
unfolding stepping steps
clean_stepped r = clean_steps 1 r

pub clean_strode : (r : Registers) → Clean (striding r).next
clean_strode r = clean_steps 64 r

pub clean_short : (r : Registers) (n : ℕ) → Clean (short_striding r n).next
clean_short r n = clean_steps (min n 64) r

pub clean_skipped : (r : Registers) (n : ℕ) → Clean (skipping r n)
unfolding skipping
clean_skipped r n = clean_steps (8 * n) r

pub clean_enciphered : (r : Registers) (input output : List ℕ)
    → let answer = (enciphering r input output).answer in answer.refusal ≡ accepted → Clean answer.next
clean_enciphered r input output z = rw (unrefused r input output z) (clean_skipped r (length input))

pub clean_stopped : (w : Running) → Clean (stopping w)
unfolding stopping
clean_stopped w = clean (state w.registers) (held_state w.registers)

-- They are ignored: records that stand for the same state are the same to every call. One that is refused hands back
-- the record that it was given.
module _ (r q : Registers) (same : state r ≡ state q) where
  pub same_stepped : stepping r ≡ stepping q
  unfolding stepping
  same_stepped = λ i. record { bit = output_bit (same i); next = packed (next (same i)) }

  pub same_strode : striding r ≡ striding q
  same_strode = λ i. record { word = number 2 (bits 64 (same i)); next = packed (steps 64 (same i)) }

  pub same_short : (n : ℕ) → short_striding r n ≡ short_striding q n
  same_short n =
      λ i. record { word = number 2 (bits (min n 64) (same i)); next = packed (steps (min n 64) (same i)) }

  pub same_skipped : (n : ℕ) → skipping r n ≡ skipping q n
  unfolding skipping
  same_skipped n = λ i. packed (steps (8 * n) (same i))

  module _ (input output : List ℕ) where
    pub same_number : (enciphering r input output).answer.refusal ≡ (enciphering q input output).answer.refusal
    same_number = any.same_number answer ahead skipping (λ a. a.refusal) (λ n r. refl) r q input output

    pub same_buffer : (enciphering r input output).buffer ≡ (enciphering q input output).buffer
    same_buffer =
        any.same_buffer answer ahead skipping (λ a. a.refusal) (λ n r. refl) r q input output (ap keystream same)

    pub same_enciphered : (enciphering r input output).answer.refusal ≡ accepted
        → enciphering r input output ≡ enciphering q input output
    same_enciphered =
        any.same_enciphered answer ahead skipping (λ a. a.refusal) (λ n r. refl) r q input output (ap keystream same)
        (same_skipped (length input))

-- in a run as well
pub same_ran : (w v : Running) → state w.registers ≡ state v.registers
    → ((running w).word ≡ (running v).word) × (state (running w).next.registers ≡ state (running v).next.registers)
    × (stopping w ≡ stopping v)
unfolding stopping
same_ran w v same = (
  ran_word w _ refl ∙ ap (λ (s : State). number 2 (bits 64 s)) same ∙ sym (ran_word v _ refl),
  ran_state w _ refl ∙ ap (steps 64) same ∙ sym (ran_state v _ refl),
  ap packed same,
)

-- the keystream goes on from where a record was moved to
pub goes_on : (r : Registers) (n : ℕ) → ahead (skipping r n) ≡ from n (ahead r)
goes_on r n = gone (state r) n (state_skip r n)

-- A stream taken in two calls, the second at the place where the first stopped, is the stream taken in one.
pub cut : TakenInTwo (λ a. a.next) enciphering
cut = any.in_two answer ahead skipping (λ a. a.next) (λ n r. refl) skip_add goes_on

-- To encipher twice from the same registers is to have the bytes back.
pub twice : GivesBack enciphering
twice = any.back answer ahead skipping
