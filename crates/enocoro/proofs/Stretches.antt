-- Bytes enciphered a stretch at a time: each goes on from where the one before it left the registers.
use mathlib.Core.Path.{◌≡◌, sym, ap, ◌∙◌}
use mathlib.Core.List.{List, ◌++◌, append_assoc, append-nil}
use Prim.Native.Nat.{ℕ, ◌+◌, ◌-◌, ◌<◌, ◌≤◌}
use native.Mathlib.{Nat.zero-add, Nat.mod-eq_of_lt, Omega.arith}
use lib.ListN.{length, take, drop, length-append, length-drop, drop_of_length-le}
use lib.Seq.{paste, take_at, drop_at, drop-drop, take_all, length-take-le}
use Rattle.octets.specs.{Buffers.slice, Stream.Keystream, Stream.from, Stream.enciphered}
use Rattle.octets.proofs.{Slices.length_slice, Streams.length_enciphered, Streams.runs_append, Streams.all_covered}
use Rattle.refusals.specs.Outcome.{Outcome, outcome}
use Rattle.enocoro.specs.{Calls.rounding, Calls.skipping, Calls.ahead, Calls.covering, Keystream.keystream}
use Rattle.enocoro.specs.{Record.state, Record.packed, State.State, State.rounds, Window.windowed}
use Rattle.enocoro.specs.{declared.Registers.Registers, declared.Rounded.Rounded}
use Rattle.enocoro.proofs.States.{keystream_from, state_skip, skip_add}

-- all the bytes of a stretch, and where the window has come to
pub stretch_done : (r : Registers) (bytes w : List ℕ) (a0 a1 : ℕ) {s : State} {i at : ℕ} {left : List ℕ}
    {new : Registers} → s ≡ state r → windowed w (256 - i) a0 a1 ≡ rounds i s
    → new ≡ packed (windowed w at a0 a1) → at ≡ 256 - i → i ≡ length bytes
    → left ≡ paste bytes 0 (enciphered (keystream s) bytes) i → outcome new left ≡ covering r bytes
unfolding skipping
stretch_done r bytes w a0 a1 {s} from-r here taken place whole done =
    let registers =
    taken ∙ ap (λ (k : ℕ). packed (windowed w k a0 a1)) place ∙ ap packed here
    ∙ (λ i. packed (rounds (whole i) (from-r i))) in
    let all =
    all_covered (keystream s) bytes done whole ∙ ap (λ (t : State). enciphered (keystream t) bytes) from-r in
    λ i. outcome (registers i) (all i)

-- so many bytes more
pub gone_on : (r now : Registers) (n size : ℕ) {m : ℕ} {new : Registers} → now ≡ skipping r n → new ≡ skipping now size
    → m ≡ n + size → new ≡ skipping r m
gone_on r now n size gone more on =
    more ∙ ap (λ (x : Registers). skipping x size) gone ∙ skip_add r n size ∙ ap (skipping r) (sym on)

-- the first n bytes enciphered, and those ahead as they were
abbrev pub front_covered : Registers → List ℕ → ℕ → List ℕ
front_covered r bytes n = enciphered (ahead r) (take n bytes) ++ drop n bytes

module _ (r : Registers) (bytes : List ℕ) where
  pub length_covered : (n : ℕ) → n ≤ length bytes → length (front_covered r bytes n) ≡ length bytes
  length_covered n h =
      let front : length (enciphered (ahead r) (take n bytes)) ≡ n =
      length_enciphered (ahead r) (take n bytes) ∙ length-take-le n bytes h in
      simp (length-append, length-drop) (omega arith)

  -- One stretch more, up to `m`. The code has come to `at`, and `n` is what it says of the stretch's length.
  pub stretch_more : (at size n : ℕ) {here m : ℕ} {left part : List ℕ} {now new : Registers} → here ≡ at
      → now ≡ skipping r here → left ≡ front_covered r bytes here → outcome new part ≡ covering now (slice left at n)
      → n ≡ size → m ≡ at + size → at + size ≤ length bytes
      → (new ≡ skipping r m) × (take at left ++ (part ++ drop n (drop at left)) ≡ front_covered r bytes m)
  stretch_more at size n {m = m} {left = left} {part = part} {now = now} {new = new} come moved covered_there covered same
      on room =
      let gone = moved ∙ ap (skipping r) come in
      let done = covered_there ∙ ap (front_covered r bytes) come in
      let k : Keystream = ahead r in
      let front : List ℕ = enciphered k (take at bytes) in
      let some : List ℕ = slice bytes at size in
      let long : length front ≡ at =
      length_enciphered k (take at bytes) ∙ length-take-le at bytes (omega arith) in
      let before : take at left ≡ front = ap (take at) done ∙ take_at front (drop at bytes) at long in
      let behind : drop at left ≡ drop at bytes = ap (drop at) done ∙ drop_at front (drop at bytes) at long in
      let held : slice left at n ≡ some = (λ i. take (same i) (behind i)) in
      let stream : ahead now ≡ from at k =
      ap (λ (x : Registers). ahead x) gone ∙ ap keystream (state_skip r at) ∙ sym (keystream_from at (state r)) in
      let so : outcome new part ≡ outcome (skipping now size) (enciphered (from at k) some) =
      covered ∙ ap (λ (l : List ℕ). covering now l) held
      ∙ (λ i. outcome (skipping now (length_slice bytes at size room i)) (enciphered (stream i) some)) in
      let rest : drop n (drop at left) ≡ drop (at + size) bytes =
      (λ i. drop (same i) (behind i)) ∙ drop-drop size at bytes in
      let joined : front ++ enciphered (from at k) some ≡ enciphered k (take (at + size) bytes) =
      ap (λ (p : ℕ). front ++ enciphered (from at k) (slice bytes p size)) (sym (zero-add at))
      ∙ runs_append k bytes 0 at size (omega arith) in (
        gone_on r now at size gone (ap (λ (o : Outcome Registers ℕ). o.answer) so) on,
        (λ i. before i ++ ((so i).buffer ++ rest i))
            ∙ sym (append_assoc front (enciphered (from at k) some) (drop (at + size) bytes))
            ∙ (λ i. joined i ++ drop (at + size) bytes)
            ∙ ap (front_covered r bytes) (sym on),
      )

  -- all stretches
  pub cover_done : {n : ℕ} {left : List ℕ} {new : Registers} → new ≡ skipping r n → left ≡ front_covered r bytes n
      → n ≡ length bytes → outcome new left ≡ covering r bytes
  cover_done {n} gone done whole =
      let all =
      done
      ∙ (λ i.
      enciphered (ahead r) (take_all n bytes (omega arith) i) ++ drop_of_length-le bytes {i = n} (omega arith) i)
      ∙ append-nil (enciphered (ahead r) bytes) in
      λ i. outcome ((gone ∙ ap (skipping r) whole) i) (all i)

-- ---- where the registers are

-- behind bytes that nobody reads
pub gone_over : (r : Registers) (bytes : List ℕ) {n : ℕ} {part : List ℕ} {new : Registers}
    → outcome new part ≡ covering r bytes → n ≡ length bytes → new ≡ skipping r n
gone_over r bytes covered long = ap (λ (o : Outcome Registers ℕ). o.answer) covered ∙ ap (skipping r) (sym long)

pub one_round : (r : Registers) {byte n : ℕ} {new : Registers} → r.a1 < 256 → byte ≡ r.a1 → new ≡ skipping r n → n ≡ 1
    → ◌≡◌ {A = Rounded} (record { byte = byte; next = new }) (rounding r)
unfolding rounding skipping rounds state
one_round r small e gone one =
    let all = gone ∙ ap (skipping r) one in λ i. record { byte = (e ∙ sym (mod-eq_of_lt small)) i; next = all i }
