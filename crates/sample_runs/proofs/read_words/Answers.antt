-- `sample_runs::read_words` meets its contract: word after word is taken as it stands and then turned, in its place; and
-- words that are taken so and turned are the samples that are read.
use Rattle.std.proofs.Common.{arith, ◌≡◌, ℕ, ◌+◌, ◌*◌, ◌/◌, ◌%◌, ◌<◌, [], ◌∷◌, List, length, get_or, map, sym, ap, ap₂, ◌∙◌, ℤ, pos}
use Rattle.std.proofs.lemmas.{Int.to_z-of_z, List.get_or-map}
use Rattle.std.specs.Int.{w16}
use lib.ListN.{set, take}
use lib.Seq.{paste, take_all}
use Rattle.octets.specs.Digits.{number, number_after}
use Rattle.octets.proofs.{Buffers.put_none, Buffers.paste_front, Buffers.paste_all, Numbers.Below}
use Rattle.samples.specs.Words.{signed, unsigned, word_of, words_of}
use Rattle.samples.proofs.Words.{length_twos, twos_at}
use Rattle.sample_runs.specs.Unturned.{low_first, unturned, turned, turned_front}
use Rattle.sample_runs.proofs.Samples.{turned_samples}
use Rattle.sample_runs.proofs.read_words.Goals as goal

long : (bytes : List ℕ) → length (words_of bytes) ≡ length bytes / 2
long bytes = length_twos word_of bytes

-- all words of a run as they stand, turned
abbrev front : List ℕ → List ℤ
front bytes = turned_front (length bytes / 2) (unturned bytes)

of_all : (bytes : List ℕ) → take (length bytes / 2) (unturned bytes) ≡ unturned bytes
of_all bytes = take_all (length bytes / 2) (unturned bytes) (omega (arith, length_twos low_first bytes))

read : (bytes : List ℕ) → Below 256 bytes → front bytes ≡ words_of bytes
unfolding turned_front
read bytes below = ap (map turned) (of_all bytes) ∙ turned_samples bytes below

-- a sample of these is the word of its two bytes, turned
in_place : (bytes : List ℕ) → (i : ℕ) → i < length bytes / 2
    → turned (low_first (get_or bytes (2 * i) 0) (get_or bytes (2 * i + 1) 0)) ≡ get_or (front bytes) i (pos 0)
unfolding turned_front
in_place bytes i h =
    ap turned (sym (twos_at low_first bytes i (pos 0) h))
    ∙ sym (get_or-map turned (unturned bytes) i (pos 0) (pos 0) (omega (arith, length_twos low_first bytes)))
    ∙ ap (λ (l : List ℤ). get_or (map turned l) i (pos 0)) (sym (of_all bytes))

-- two bytes as a number, the least significant first
low_number : (first second : ℕ) → first + second * 256 ≡ number 256 (second ∷ first ∷ [])
unfolding number_after
low_number first second = omega arith

pub loop-i-preserved : goal.loop-i-preserved
loop-i-preserved c =
    let bytes : List ℕ = c.args.bytes.now in
    let i : ℕ = c.loop-i.i in
    let first : ℕ = get_or bytes (2 * i) 0 in
    let second : ℕ = get_or bytes (2 * i + 1) 0 in
    let z : ℤ = c.signed-taken.result in
    let taken : z ≡ low_first first second =
    c.signed-taken.ensures ∙ ap signed (c.from_le_bytes.ensures ∙ low_number first second) in
    let bits : c.bits.result ≡ unsigned z =
    c.bits.ensures ∙ ap unsigned (to_z-of_z w16 z (record { sfits = c.signed-taken.type_inv })) in
    let bytes_of = c.to_le_bytes.ensures in
    let lower : get_or c.to_le_bytes.result 0 0 ≡ unsigned z % 256 =
    ap (λ (l : List ℕ). get_or l 0 0) bytes_of ∙ ap (λ (n : ℕ). n % 256) bits in
    let top : c.bits.result / 256 % 256 ≡ c.bits.result / 256 = omega (arith, c.bits.type_inv) in
    let upper : get_or c.to_le_bytes.result 1 0 ≡ unsigned z / 256 =
    ap (λ (l : List ℕ). get_or l 1 0) bytes_of ∙ top ∙ ap (λ (n : ℕ). n / 256) bits in
    let below : Below 256 bytes = λ j. omega (arith, c.type_inv.bytes j) in
    let made =
    to_z-of_z w16 c.word.result (record { sfits = c.word.type_inv })
    ∙ c.word.ensures ∙ ap₂ word_of lower upper ∙ ap turned taken
    ∙ in_place bytes i (omega arith) in
    (λ j. set (c.loop-i.invariant j) i (made j))
    ∙ paste_front c.args.output.now (front bytes) i (pos 0) (omega arith) (omega (arith, ap length (read bytes below), long bytes))

pub returns-after-loop-i : goal.returns-after-loop-i
returns-after-loop-i c =
    let bytes : List ℕ = c.args.bytes.now in
    let whole : front bytes ≡ words_of bytes = read bytes (λ j. omega (arith, c.type_inv.bytes j)) in
    c.loop-i.invariant
    ∙ ap (λ (l : List ℤ). paste c.args.output.now 0 l c.loop-i.i) whole
    ∙ paste_all c.args.output.now 0 (words_of bytes) c.loop-i.i (omega (arith, long bytes)) (omega arith)

pub returns-else-words-output : goal.returns-else-words-output
returns-else-words-output c =
    put_none c.args.output.now 0 (words_of c.args.bytes.now) (omega (arith, long c.args.bytes.now))
