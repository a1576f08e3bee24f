-- A block placed behind the front of a sound makes a longer front: where it goes is where the front ends.
use mathlib.Core.{Path.◌≡◌, Path.sym, Path.ap, Path.◌∙◌, List.List, List.◌++◌}
use Prim.Native.Nat.{ℕ, ◌+◌, ◌<◌, ◌≤◌}
use native.Mathlib.Omega.{arith}
use lib.ListN.{length, take, drop, length-append, length-take, length-drop}
use lib.Seq.{take-add, take_at}
use Rattle.octets.specs.{Buffers.placed, Stream.Cipher}
use Rattle.octets.proofs.{Buffers.length_placed, Slices.take_there}
use Rattle.blocks.specs.{Blocks.whole, Blocks.blocks, Blocks.place, Blocks.block_of, Covering.covered}
use Rattle.blocks.proofs.Covering.{covered_twice, length_block_of}
use Rattle.link.specs.World.{held_bytes}
use Rattle.link.proofs.Invariant.{Held}

-- what the receiver makes of a block of its own session
pub uncovered : (cipher : Cipher) (sound : ℕ → List ℕ) (k : ℕ) {key pair key' pair' : List ℕ} {s s' : ℕ}
    → key' ≡ key → pair' ≡ pair → s ≡ s'
    → covered cipher key' pair' s' k (covered cipher key pair s k (block_of (sound s) k)) ≡ block_of (sound s') k
uncovered cipher sound k {key} {pair} {s = s} p q e =
    (λ j. covered cipher (p j) (q j) (sym e j) k (covered cipher key pair s k (block_of (sound s) k)))
    ∙ covered_twice cipher key pair s k (block_of (sound s) k)
    ∙ (λ j. block_of (sound (e j)) k)

pub held_more : (sound : ℕ → List ℕ) (room : ℕ) (buffer : List ℕ) (session long count : ℕ)
    → Held sound room buffer session long count → count < blocks long
    → Held sound room (placed buffer (place count) (block_of (sound session) count)) session long (count + 1)
unfolding placed
held_more sound room buffer session long count h more =
    let run : List ℕ = block_of (sound session) count in
    let at : ℕ = place count in
    let n : ℕ = held_bytes long (count + 1) in
    let long-run = length_block_of (sound session) count in
    let behind : length (take at buffer ++ run) ≡ n = simp (length-append, length-take, length-drop) (omega arith) in
    let old : held_bytes long count ≡ at = omega arith in
    let inside : at + length run ≤ length buffer = omega arith in
    record {
      same = h.same;
      fits = h.fits;
      counted = omega arith;
      whole = length_placed buffer at run inside ∙ h.whole;
      front =
          take_at (take at buffer ++ run) (drop (at + length run) buffer) n behind
          ∙ ap (λ (l : List ℕ). l ++ run) (rw old at h.front)
          ∙ sym (take-add at whole (sound session))
          ∙ sym (take_there (sound session) 0 (at + whole) n (omega arith));
    }
