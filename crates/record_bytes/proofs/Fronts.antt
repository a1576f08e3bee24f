-- A front's bytes read back are the front, with anything behind them; and bytes that were read as a front are written
-- back. Both are the laws of rows, with the two names before them.
use mathlib.Core.{Path.◌≡◌, Path.sym, Path.ap, Path.ap₂, Path.◌∙◌, List.List, List.◌++◌, List.append_assoc}
use Prim.Native.Nat.{ℕ, ◌≤◌}
use native.Mathlib.Omega.{arith}
use lib.{ListN.length, ListN.get_or, ListN.take, ListN.length-append, Seq.take_at}
use Rattle.octets.specs.{Buffers.slice, Rows.row, Rows.numbers_at}
use Rattle.octets.proofs.Numbers.{Below}
use Rattle.octets.proofs.Rows.{length_row, numbers_back, row_back}
use Rattle.octets.proofs.Slices.{length_slice, slice_front, slice_behind, slice_add}
use Rattle.refusals.proofs.Settled.{done_if}
use Rattle.names.specs.{Naming.key_bytes, Naming.pair_bytes, Naming.Named, Naming.named}
use Rattle.record_bytes.specs.Front.{front_widths, front_numbers, front_size, front_bytes, front_in, FrontFits}
use Rattle.record_bytes.specs.declared.Front.{Front}

-- names of the right lengths are read as they are
names_read : (key pair : List ℕ) → length key ≡ key_bytes → length pair ≡ pair_bytes
    → named key pair ≡ record { refusal = 0; key = key; pair = pair }
unfolding named
names_read key pair k p = sym (done_if _ _ _ (k, (p, tt)))

pub length_front : (f : Front) → length f.key ≡ key_bytes → length f.pair ≡ pair_bytes
    → length (front_bytes f) ≡ front_size
unfolding front_bytes
length_front f k p =
    simp length-append (omega (arith, length_row front_widths (front_numbers f)))

pub front_back : (f : Front) (rest : List ℕ) → FrontFits f → front_in (front_bytes f ++ rest) ≡ f
unfolding front_in front_bytes
front_back f rest fits =
    let key : List ℕ = f.key in
    let pair : List ℕ = f.pair in
    let numbers : List ℕ = row front_widths (front_numbers f) in
    let flat : key ++ pair ++ numbers ++ rest ≡ (key ++ pair) ++ (numbers ++ rest) =
    append_assoc (key ++ pair) numbers rest in
    let two : length (key ++ pair) ≡ 16 = length-append key pair ∙ omega (arith, fits.key_long, fits.pair_long) in
    let first : slice (key ++ pair ++ numbers ++ rest) 0 key_bytes ≡ key =
    ap (λ (l : List ℕ). slice l 0 key_bytes) (flat ∙ append_assoc key pair (numbers ++ rest))
    ∙ take_at key (pair ++ (numbers ++ rest)) key_bytes fits.key_long in
    let second : slice (key ++ pair ++ numbers ++ rest) key_bytes pair_bytes ≡ pair =
    ap (λ (l : List ℕ). slice l key_bytes pair_bytes) flat
    ∙ slice_front (key ++ pair) (numbers ++ rest) key_bytes pair_bytes (omega arith)
    ∙ slice_behind key pair key_bytes pair_bytes fits.key_long fits.pair_long in
    let n : named (slice (key ++ pair ++ numbers ++ rest) 0 key_bytes)
    (slice (key ++ pair ++ numbers ++ rest) key_bytes pair_bytes)
    ≡ record { refusal = 0; key = key; pair = pair } =
    ap₂ named first second ∙ names_read key pair fits.key_long fits.pair_long in
    let x : numbers_at front_widths (key ++ pair ++ numbers ++ rest) 16 ≡ front_numbers f =
    ap (λ (l : List ℕ). numbers_at front_widths l 16) flat
    ∙ numbers_back front_widths (front_numbers f) (key ++ pair) rest 16 two fits.numbers in
    λ i. record { key = (n i).key; pair = (n i).pair; session = get_or (x i) 0 0; length = get_or (x i) 1 0 }

pub front_again : (bytes : List ℕ) → Below 256 bytes → front_size ≤ length bytes
    → front_bytes (front_in bytes) ≡ take front_size bytes
unfolding front_in front_bytes numbers_at
front_again bytes b room =
    let key : List ℕ = slice bytes 0 key_bytes in
    let pair : List ℕ = slice bytes key_bytes pair_bytes in
    let numbers : List ℕ = row front_widths (numbers_at front_widths bytes 16) in
    ap (λ (n : Named). n.key ++ n.pair ++ numbers)
    (names_read key pair (length_slice bytes 0 key_bytes (omega arith))
    (length_slice bytes key_bytes pair_bytes (omega arith)))
    ∙ ap₂ (λ (l r : List ℕ). l ++ r) (sym (slice_add bytes 0 key_bytes pair_bytes))
    (row_back front_widths bytes 16 (omega arith) b)
    ∙ sym (slice_add bytes 0 16 8)
