-- Keys copied over blank bytes (`keys_in`): as many bytes are the run itself, and a part of it is that part.
use mathlib.Core.{Path.◌≡◌, Path.sym, Path.ap, Path.◌∙◌, List.List}
use Prim.Native.Nat.{ℕ, ◌+◌, ◌≤◌}
use native.Mathlib.Omega.{arith}
use borrow.Author.Tests.{eq-eqb}
use lib.{ListN.length, ListN.replicate, ListN.length-replicate, Seq.take_all}
use Rattle.std.specs.Prelude.{Ok}
use Rattle.octets.specs.Buffers.{slice, put}
use Rattle.octets.proofs.{Buffers.put_whole, Slices.length_slice}
use Rattle.pack.specs.declared.Rings.{Rings}
use Rattle.rings.specs.Ring.{keys_bytes, rings_of, rings_in}

pub key_copied : (size at : ℕ) (bytes : List ℕ) {part key : List ℕ} → key ≡ put (replicate size 0) 0 part
    → part ≡ slice bytes at size → at + size ≤ length bytes
    → key ≡ slice bytes at size
key_copied size at bytes copied cut room =
    let blank : List ℕ = replicate size 0 in
    copied ∙ ap (put blank 0) cut
    ∙ put_whole blank (slice bytes at size) (length_slice bytes at size room ∙ sym (length-replicate {A = ℕ} size 0))

-- all keys, from as many bytes
pub whole : (bytes : List ℕ) {keys : List ℕ} → keys ≡ put (replicate keys_bytes 0) 0 bytes → length bytes ≡ keys_bytes
    → keys ≡ bytes
whole bytes e long =
    let all : slice bytes 0 keys_bytes ≡ bytes = take_all keys_bytes bytes (omega arith) in
    key_copied keys_bytes 0 bytes e (sym all) (omega arith) ∙ all

-- and so the rings that are read from the copy are those of the run
pub all_rings : (bytes : List ℕ) {keys : List ℕ} {r : Rings} → r ≡ rings_of keys
    → keys ≡ put (replicate keys_bytes 0) 0 bytes → length bytes ≡ keys_bytes
    → Ok r ≡ rings_in bytes
all_rings bytes {keys} read copied long =
    ap Ok (read ∙ ap rings_of (whole bytes copied long)) ∙ rw (eq-eqb (length bytes) keys_bytes long)
