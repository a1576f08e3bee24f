-- Bytes enciphered where they stand, run by run: what is still to be done after each leads to what is owed, since a run
-- leaves alone what stands behind it, and the keystream goes on from there.
use mathlib.Core.{Path.◌≡◌, Path.refl, Path.sym, Path.ap, Path.◌∙◌, List.List, List.◌++◌, List.append_assoc}
use Prim.Native.Nat.{ℕ, ◌+◌, ◌-◌, ◌*◌, ◌≤◌}
use native.Mathlib.Omega.{arith}
use lib.{ListN.length, ListN.take, ListN.drop, ListN.length-append, ListN.length-take, ListN.length-drop}
use lib.{Seq.drop-length, Seq.drop_at, Seq.drop-drop, Seq.take_all}
use Rattle.octets.specs.{Buffers.slice, Buffers.placed, Buffers.put, Stream.Keystream, Stream.enciphered}
use Rattle.octets.proofs.{Buffers.put_placed, Buffers.put_whole, Buffers.put_nothing, Buffers.put_part, Numbers.Below}
use Rattle.octets.proofs.{Slices.length_slice, Slices.slice_rest}
use Rattle.octets.proofs.Streams.{length_enciphered, length_run, read_on, under}
use Rattle.refusals.specs.Outcome.{Outcome, outcome}
use Rattle.taps.specs.{Keystream.keystream, Registers.State, Registers.steps}
use Rattle.taps.proofs.Bytes.{gone, run_read}
use Rattle.trivium.specs.Calls.{skipping, short_striding, covering}
use Rattle.trivium.specs.{Record.state, declared.Registers.Registers, declared.Strode.Strode}
use Rattle.trivium.proofs.Steps.{state_skip, skip_add, skip_from, skip_packed, few_strode}

-- the bytes with everything from `at` on enciphered
abbrev pub covered : State → List ℕ → ℕ → List ℕ
covered s bytes at = put bytes at (enciphered (keystream s) (drop at bytes))

-- what stands behind a run stays
behind : (d : List ℕ) (at : ℕ) (run : List ℕ) (n : ℕ) → length run ≡ n → at + n ≤ length d
    → drop (at + n) (put d at run) ≡ drop (at + n) d
unfolding placed
behind d at run n e room =
    ap (drop (at + n)) (put_placed d at run (omega arith))
    ∙ drop_at (take at d ++ run) (drop (at + length run) d) (at + n) (simp (length-append, length-take) (omega arith))
    ∙ ap (λ (k : ℕ). drop (at + k) d) e

-- so many bytes enciphered, and then everything behind them; `next` is where the code goes on
pub further : (s mid : State) (bytes left : List ℕ) (at size : ℕ) {next : ℕ} → at + size ≤ length bytes
    → mid ≡ steps (8 * size) s
    → left ≡ put bytes at (enciphered (keystream s) (slice bytes at size)) → next ≡ at + size
    → covered mid left next ≡ covered s bytes at
further s mid bytes left at size room on done there =
    let xs : List ℕ = slice bytes at size in
    let ys : List ℕ = drop (at + size) bytes in
    let front : length xs ≡ size = length_slice bytes at size room in
    let long = length_run (keystream s) bytes at size room in
    let same = length_enciphered (keystream mid) ys in
    let count = length-drop (at + size) bytes in
    ap (covered mid left) there
    ∙ ap (λ (l : List ℕ). put left (at + size) (enciphered (keystream mid) l))
    (ap (drop (at + size)) done ∙ behind bytes at (enciphered (keystream s) xs) size long room)
    ∙ read_on (λ l. l) (keystream s) xs ys bytes at (λ us vs e. refl)
    (gone s (length xs) (on ∙ ap (λ (n : ℕ). steps (8 * n) s) (sym front))) done
    (omega arith) (omega arith)
    ∙ ap (λ (l : List ℕ). put bytes at (enciphered (keystream s) l)) (slice_rest bytes at size)

-- a run that is read back in the middle stands there
pub in_middle : (d run : List ℕ) (at n : ℕ) → length run ≡ n → at + n ≤ length d
    → take at d ++ (run ++ drop n (drop at d)) ≡ put d at run
unfolding placed
in_middle d run at n long room =
    ap (λ (l : List ℕ). take at d ++ (run ++ l)) (drop-drop n at d)
    ∙ sym (append_assoc (take at d) run (drop (at + n) d))
    ∙ ap (λ (m : ℕ). take at d ++ run ++ drop (at + m) d) (sym long)
    ∙ sym (put_placed d at run (omega arith))

-- nothing is done yet
pub covered_all : (s : State) (bytes : List ℕ) → covered s bytes 0 ≡ enciphered (keystream s) bytes
covered_all s bytes = put_whole bytes _ (length_enciphered (keystream s) bytes)

-- or nothing is left to do
pub covered_none : (s : State) (bytes : List ℕ) (at : ℕ) → at ≡ length bytes → covered s bytes at ≡ bytes
unfolding enciphered
covered_none s bytes at all =
    ap (λ (l : List ℕ). put bytes at (enciphered (keystream s) l)) (ap (λ (n : ℕ). drop n bytes) all ∙ drop-length bytes)
    ∙ sym (put_nothing bytes at)

-- ---- in two parts: up to `at`, and what is behind, which another call covers

pub behind_covered : (r mid last : Registers) (bytes left part : List ℕ) (at : ℕ) → at ≤ length left
    → length left ≡ length bytes → state mid ≡ steps (8 * at) (state r)
    → covered (state mid) left at ≡ enciphered (keystream (state r)) bytes
    → outcome last part ≡ covering mid (slice left at (length left - at))
    → outcome last (take at left ++ (part ++ drop (length left - at) (drop at left))) ≡ covering r bytes
behind_covered r mid last bytes left part at room same gone front rest =
    let n : ℕ = length left - at in
    let k : Keystream = keystream (state mid) in
    let xs : List ℕ = slice left at n in
    let run : List ℕ = enciphered k xs in
    let long : length xs ≡ n = length_slice left at n (omega arith) in
    let kept : length run ≡ length xs = length_enciphered k xs in
    let all : xs ≡ drop at left = take_all n (drop at left) (omega (arith, length-drop at left)) in
    let whole : at + n ≡ length bytes = omega arith in
    let next =
    ap (λ (o : Outcome Registers ℕ). o.answer) rest ∙ ap (skipping mid) long ∙ skip_from r mid at n gone
    ∙ ap (skipping r) whole in
    let covers =
    ap (λ (l : List ℕ). take at left ++ (l ++ drop n (drop at left)))
    (ap (λ (o : Outcome Registers ℕ). o.buffer) rest ∙ sym (put_whole xs run kept))
    ∙ put_part left at run (omega arith)
    ∙ ap (λ (l : List ℕ). put left at (enciphered k l)) all
    ∙ front in
    λ i. outcome (next i) (covers i)

-- ---- what is behind the sixteens, n bytes at a turn

module _ (begun : Registers) (bytes₀ : List ℕ) where
  abbrev whole : List ℕ
  whole = enciphered (keystream (state begun)) bytes₀

  pub turn : (r : Registers) (bytes after : List ℕ) (at n : ℕ) {strode : Strode} → at + n ≤ length bytes → n ≤ 8
      → Below 256 bytes → r ≡ skipping begun at → covered (state r) bytes at ≡ whole → strode ≡ short_striding r (8 * n)
      → after ≡ put bytes at (under bytes at n strode.word)
      → (strode.next ≡ skipping begun (at + n)) × (covered (state strode.next) after (at + n) ≡ whole)
  turn r bytes after at n {strode} room few below here rest ran wrote =
      let went = ran ∙ few_strode r n few in
      let next : strode.next ≡ skipping r n = ap (λ (s : Strode). s.next) went ∙ skip_packed r n in
      let gone : state strode.next ≡ steps (8 * n) (state r) = ap state next ∙ state_skip r n in
      let run =
      wrote
      ∙ ap (λ (s : Strode). put bytes at (under bytes at n s.word)) went
      ∙ ap (put bytes at) (run_read bytes at n (state r) few room below) in (
        next ∙ ap (λ (q : Registers). skipping q n) here ∙ skip_add begun at n,
        further (state r) (state strode.next) bytes after at n room gone run refl ∙ rest,
      )

  pub finished : (last : Registers) (bytes : List ℕ) (at : ℕ) → at ≡ length bytes → length bytes ≡ length bytes₀
      → last ≡ skipping begun at → covered (state last) bytes at ≡ whole → outcome last bytes ≡ covering begun bytes₀
  finished last bytes at all same there done =
      let next = there ∙ ap (skipping begun) (all ∙ same) in
      let now = sym (covered_none (state last) bytes at all) ∙ done in
      λ i. outcome (next i) (now i)
