-- Count, key number and value stand where a key section has them.
use mathlib.Core.{Path.◌≡◌, Path.ap, Path.◌∙◌, List.List}
use Prim.Native.Nat.{ℕ, ◌+◌, ◌<◌}
use lib.ListN.{length, drop, length-take, length-drop, get_or-eq_default}
use Rattle.std.proofs.Common.{arith, add-zero}
use Rattle.std.proofs.lemmas.List.{get_or-drop, get_or-take}
use Rattle.octets.specs.Buffers.{slice}
use Rattle.refusals.specs.Numbers.{bad_value}
use Rattle.refusals.proofs.Settled.{left_at}
use Rattle.pack.specs.{Ciphers.cipher_of, Ciphers.picked, Places.byte_at, declared.Kind.Kind, declared.Rings.Rings}
use Rattle.pack.specs.declared.Kind.TheVariants.{Trivium, Enocoro, Triad}
use Rattle.bodies.specs.Bodies.{refused_beginning, beginning, beginning_from}
use Rattle.bodies.proofs.begin_from.Goals as goal

some_value : (kind : Kind) → 0 < (cipher_of kind).value_bytes
some_value Trivium = omega arith
some_value Enocoro = omega arith
some_value Triad = omega arith

-- a file that ends before the value has none
no_value : (r : Rings) (file : List ℕ) (at : ℕ) → length file < at + 2
    → refused_beginning bad_value ≡ beginning_from r file at
unfolding beginning_from beginning
no_value r file at short =
    let kind : Kind = picked (byte_at file at) in
    let number : byte_at file (at + 1) ≡ 0 = get_or-eq_default file 0 (omega arith) in
    let none : length (slice file (at + 2) (cipher_of kind).value_bytes) ≡ 0 =
    length-take (cipher_of kind).value_bytes (drop (at + 2) file) ∙ omega (arith, length-drop (at + 2) file) in
    left_at _ _ _ 1 tt (omega arith, λ e. omega (arith, some_value kind))

pub returns-in_default : goal.returns-in_default
returns-in_default c =
    let f = c.args.file.now in
    let at = c.args.at in
    no_value c.args.rings f at
    (omega (arith, ap length c.slice.ensures, length-take 2 (drop at f), length-drop at f))

-- what the code read is what stands there
read_there : (r : Rings) (file part value : List ℕ) (at : ℕ) (kind : Kind) {n : ℕ}
    → part ≡ slice file at 2 → kind ≡ picked (byte_at part 0)
    → n ≡ (cipher_of kind).value_bytes → value ≡ slice file (at + 2) n
    → beginning kind r (byte_at part 1) value ≡ beginning_from r file at
unfolding beginning_from
read_there r file part value at kind cut which size there =
    let byte : (k : ℕ) → k < 2 → byte_at part k ≡ byte_at file (at + k) = λ k h.
    ap (λ (l : List ℕ). byte_at l k) cut ∙ get_or-take 2 (drop at file) k 0 h ∙ get_or-drop at file k 0 in
    let count = byte 0 (omega arith) ∙ ap (byte_at file) (add-zero at) in
    let number = byte 1 (omega arith) in
    let named = which ∙ ap picked count in
    let same = size ∙ ap (λ (k : Kind). (cipher_of k).value_bytes) named in
    λ i. beginning (named i) r (number i) ((there ∙ ap (slice file (at + 2)) same) i)

pub returns : goal.returns
returns c =
    c.begin.ensures
    ∙ read_there c.args.rings c.args.file.now _ _ c.args.at _ c.slice.ensures c.picked-kind.ensures c.value_bytes.ensures
    c.slice-value.ensures
