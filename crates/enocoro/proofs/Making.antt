-- Ciphers that are made: key and initial value in their places are the words that the code reads, and what a call
-- refuses the other refuses alike.
use mathlib.Core.{Path.◌≡◌, Path.refl, Path.sym, Path.ap, Path.◌∙◌, List.List, List.◌++◌}
use Rattle.std.specs.Prelude.{Ok, Err}
use Prim.Native.Nat.{ℕ, ◌+◌, ◌≤◌}
use native.Mathlib.Omega.{arith}
use lib.{ListN.length, ListN.length-append, Seq.take_all}
use Rattle.ciphers.specs.Calls.{make_faults}
use Rattle.octets.specs.{Digits.number, Digits.number_after, Digits.number_at, Digits.word}
use Rattle.octets.proofs.{Numbers.Below, Numbers.number_read, Slices.slice_front, Slices.slice_behind}
use Rattle.refusals.specs.{Answers.number_of, Answers.answer, Numbers.accepted, declared.Refusal.Refusal}
use Rattle.refusals.proofs.Answers.{never_accepted, ok_first, ok_done, err_first}
use Rattle.refusals.proofs.{Faults.none_wrong, Settled.settled_left, Settled.settled_done, Settled.done_if}
use Rattle.enocoro.specs.Calls.{blank, loading, making_cipher, warming}
use Rattle.enocoro.specs.{Keystream.enocoro, Record.state, Record.packed}
use Rattle.enocoro.specs.State.{State, loaded, constants, blanks, warm_up, started}
use Rattle.enocoro.specs.declared.Registers.{Registers}
use Rattle.enocoro.proofs.States.{Bytes, bytes_loaded, bytes_blanks, state_packed}

module _ (key iv : List ℕ) (long : length key ≡ 16) (short : length iv ≡ 8) (bk : Below 256 key) (bv : Below 256 iv)
  where
    -- the words of a loaded state; that the constants are in print so is a fact about numbers
    pub loads : {a0 a1 w0 w1 w2 w3 : ℕ} → w0 ≡ word (number_at key 0 8) → w1 ≡ word (number_at key 8 8)
        → w2 ≡ word (number_at iv 0 8)
        → a0 ≡ 0x88 → a1 ≡ 0x4c → w3 ≡ 0x66e94bd4ef8a2c3b
        → answer accepted (record { a0 = a0; a1 = a1; b0 = w0; b1 = w1; b2 = w2; b3 = w3 }) ≡ loading key iv
    unfolding loading packed loaded number_after
    loads e0 e1 e2 qa0 qa1 q3 =
        let joined : length (key ++ iv) ≡ 24 = length-append key iv ∙ omega arith in
        let front : (at : ℕ) → at + 8 ≤ 16 → word (number_at key at 8) ≡ number_at (key ++ iv ++ constants) at 8 =
        λ at h.
        number_read key at 8 bk (omega arith)
        ∙ sym
        (ap (number 256)
        (slice_front (key ++ iv) constants at 8 (omega arith) ∙ slice_front key iv at 8 (omega arith))) in
        (λ i.
        answer accepted
        (record {
          a0 = qa0 i;
          a1 = qa1 i;
          b0 = (e0 ∙ front 0 (omega arith)) i;
          b1 = (e1 ∙ front 8 (omega arith)) i;
          b2 =
              (e2 ∙ number_read iv 0 8 bv (omega arith)
              ∙ ap (number 256) (take_all 8 iv (omega arith))
              ∙ sym
              (ap (number 256)
              (slice_front (key ++ iv) constants 16 8 (omega arith) ∙ slice_behind key iv 16 8 long short)))
              i;
          b3 = (q3 ∙ sym (ap (number 256) (slice_behind (key ++ iv) constants 24 8 joined refl))) i;
        }))
        ∙ done_if (make_faults enocoro key iv) _ (λ n. answer n blank) (long, (short, tt))

    bytes_here : Bytes (loaded key iv)
    bytes_here = bytes_loaded key iv long short bk bv

    -- a started state, packed, stands for itself
    pub bytes_started : Bytes (started key iv)
    bytes_started = bytes_blanks warm_up 1 (loaded key iv) (omega arith) bytes_here

    pub state_started : state (packed (started key iv)) ≡ started key iv
    state_started = state_packed (started key iv) bytes_started

    pub warmed : warming (packed (loaded key iv)) ≡ packed (started key iv)
    unfolding warming
    warmed = ap (λ (s : State). packed (blanks warm_up 1 s)) (state_packed (loaded key iv) bytes_here)

-- ---- what comes of a loaded cipher

module _ (key iv : List ℕ) where
  pub making_left : (refusal : Refusal) → answer (number_of refusal) blank ≡ loading key iv
      → answer (number_of refusal) blank ≡ making_cipher key iv
  unfolding loading making_cipher
  making_left refusal e =
      let faults = make_faults enocoro key iv in
      settled_left faults _ (λ n. answer n blank) (number_of refusal) (never_accepted refusal)
      (err_first faults (packed (loaded key iv)) blank {result = Err refusal} e refl)

  pub making_done : {r next : Registers} → Below 256 key → Below 256 iv → answer accepted r ≡ loading key iv
      → next ≡ warming r → answer accepted next ≡ making_cipher key iv
  unfolding loading making_cipher
  making_done {r} bk bv e warm =
      let faults = make_faults enocoro key iv in
      let fine = ok_first faults (packed (loaded key iv)) blank {result = Ok r} e refl in
      let right = none_wrong faults tt (sym fine) in
      ap (answer accepted)
      (warm ∙ ap warming (ok_done faults (packed (loaded key iv)) blank {result = Ok r} e refl)
      ∙ warmed key iv right.0 right.1.0 bk bv)
      ∙ settled_done faults _ (λ n. answer n blank) fine
