-- What it lends are the parts of the file that the tag is over, and what it compares are two words.
use Rattle.std.proofs.Common.{◌≡◌, ℕ, ◌+◌, ◌-◌, ◌*◌, ◌^◌, ◌<◌, ◌≤◌, List, ◌++◌, length, get_or, not, eqb, sym, ap, ◌∙◌, arith}
use mathlib.Core.Path.{subst}
use native.Mathlib.Nat.{mod-eq_of_lt}
use Rattle.std.specs.Prelude.{Ok}
use Rattle.octets.specs.{Buffers.slice, Digits.number_at, Digits.word, Stream.enciphered}
use Rattle.octets.proofs.{Numbers.number_lent, Numbers.word_read, Slices.length_slice}
use Rattle.refusals.specs.{Numbers.accepted, Rules.first}
use Rattle.refusals.proofs.Settled.{done_if}
use Rattle.triad.specs.Tag.{triad}
use Rattle.pack.specs.Places.{key_number, value_place, sample_count, body_place, loop_place, loop_count, plain_of, tag_in}
use Rattle.pack.specs.Places.{tag_place, tag_due}
use Rattle.pack.specs.{Answers.Opened, Answers.opening_of, Calls.accepted_opening, Faults.file_faults, Layout.key_named}
use Rattle.pack.specs.declared.Opened as code
use Rattle.pack.proofs.Theorems.{file_right}
use Rattle.inspector.proofs.Shown.{Shown, shown}
use Rattle.inspector.proofs.tag_differs.Goals as goal

module _ (file : List ℕ) (told : code.Opened) (ring : List (List ℕ))
    (is : (opening_of (Ok told) ≡ accepted_opening triad file) × (accepted ≡ first (file_faults triad file))) where
  known : Shown triad file
  known = shown triad file (file_right triad file (sym is.1))

  -- the numbers that it goes by are those of the file
  record Told : Type 0 where
    key : told.key ≡ key_number file
    value : told.value_at ≡ value_place file
    body : told.value_at + 16 ≡ body_place triad file
    size : 2 * told.samples ≡ 2 * sample_count triad file
    loop : told.loops_at - 1 ≡ loop_place triad file
    many : 1 + 8 * told.loops ≡ 1 + 8 * loop_count triad file
    row : told.key ≤ 3
    samples : told.samples ≤ 16384
    loops : told.loops ≤ 8
    place : 1 ≤ told.loops_at
    far : told.value_at + 16 + 2 * told.samples ≤ length file
    end : told.loops_at + 8 * told.loops + 9 ≡ length file

  as_told : Told
  as_told =
      let k = known in
      let o = is.0 in
      let key = ap (λ (a : Opened). a.key) o in
      let value = ap (λ (a : Opened). a.value_at) o in
      let samples = ap (λ (a : Opened). a.samples) o in
      let place = ap (λ (a : Opened). a.loops_at) o in
      let loops = ap (λ (a : Opened). a.loops) o in
      record {
        key = key;
        value = value;
        body = omega (arith, value, k.body);
        size = omega (arith, samples);
        loop = omega (arith, place);
        many = omega (arith, loops);
        row = omega (arith, key, k.number);
        samples = omega (arith, samples, k.samples);
        loops = omega (arith, loops, k.loops);
        place = omega (arith, place);
        far = omega (arith, value, samples, k.body, k.loop, k.tag, k.end);
        end = omega (arith, place, loops, k.tag, k.end);
      }

  -- a tag by its row and what it is over
  abbrev under : ℕ → List ℕ → List ℕ → List ℕ → ℕ
  under row value beside body =
      let key = key_named ring row in
      triad.tag key value beside (enciphered (triad.stream key value) body)

  -- the same by the numbers of the row and of the places of what it is over
  abbrev by : ℕ → ℕ → ℕ → ℕ → ℕ → ℕ → ℕ
  by row at body size loop many =
      under row (slice file at 12) (slice file 0 body ++ slice file loop many) (slice file body size)

  -- and by those of the file it is the one that is due
  due_by : (due : ℕ) → due < 2 ^ 64
      → due ≡ by (key_number file) (value_place file) (body_place triad file) (2 * sample_count triad file)
      (loop_place triad file) (1 + 8 * loop_count triad file)
      → due ≡ tag_due triad ring file
  unfolding tag_due plain_of
  due_by due small e = e ∙ sym (mod-eq_of_lt (subst (λ (n : ℕ). n < 2 ^ 64) e small))

  -- the tag is due under the key told and over the parts that are lent
  due_lent : (due : ℕ) (front value body loops : List ℕ) → due < 2 ^ 64 → front ≡ slice file 0 (told.value_at + 16)
      → value ≡ slice file told.value_at 12 → body ≡ slice file (told.value_at + 16) (2 * told.samples)
      → loops ≡ slice file (told.loops_at - 1) (1 + 8 * told.loops) → due ≡ under told.key value (front ++ loops) body
      → due ≡ tag_due triad ring file
  due_lent due front value body loops small f v b l e =
      let t = as_told in
      due_by due small
      (e ∙ (λ i. under told.key (v i) (f i ++ l i) (b i))
      ∙ (λ i. by (t.key i) (t.value i) (t.body i) (t.size i) (t.loop i) (t.many i)))

  abbrev at : ℕ
  at = told.loops_at - 1 + (1 + 8 * told.loops) + 1

  -- and the tag that is there, which is lent by itself
  there_lent : (n : ℕ) → ((i : ℕ) → get_or file i 0 < 256) → n ≡ word (number_at (slice file at (at + 8 - at)) 0 8)
      → n ≡ tag_in triad file (tag_place triad file)
  there_lent n bytes e =
      let t = as_told in
      let place : at ≡ tag_place triad file + 1 = omega (arith, t.loop, t.many, known.tag) in
      (word_read file at 8 bytes (omega arith) (e ∙ ap word (number_lent file at 8))).0
      ∙ ap (λ (n : ℕ). number_at file n 8) place

pub bounds-ring-told : goal.bounds-ring-told
bounds-ring-told c = omega (arith, as_told c.args.file.now c.args.told c.args.ring c.requires)

pub overflow_add-tag_at-2 : goal.overflow_add-tag_at-2
overflow_add-tag_at-2 c = omega (arith, as_told c.args.file.now c.args.told c.args.ring c.requires)

pub overflow_add-tag_at-3 : goal.overflow_add-tag_at-3
overflow_add-tag_at-3 c = omega (arith, as_told c.args.file.now c.args.told c.args.ring c.requires)

pub slice_bounds-number_at-end : goal.slice_bounds-number_at-end
slice_bounds-number_at-end c = omega (arith, as_told c.args.file.now c.args.told c.args.ring c.requires)

pub returns : goal.returns
returns c =
    let f = c.args.file.now in
    let o = c.args.told in
    let is = c.requires in
    let t = as_told f o c.args.ring is in
    let long : length c.slice-value.result.now ≡ 12 =
    ap length c.slice-value.ensures ∙ length_slice f o.value_at 12 (omega (arith, t.far)) in
    let due = due_lent f o c.args.ring is c.tag_due-due.result c.slice-front.result.now c.slice-value.result.now
    c.slice-body.result.now c.slice-loops.result.now (omega arith) c.slice-front.ensures c.slice-value.ensures
    c.slice-body.ensures c.slice-loops.ensures (c.tag_due-due.ensures ∙ sym (done_if _ _ _ (long, tt))) in
    let there = there_lent f o c.args.ring is c.number_at-there.result
    (λ i. omega (arith, c.type_inv.file i)) c.number_at-there.ensures in
    λ i. not (eqb (due i) (there i))
