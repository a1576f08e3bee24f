-- Five runs, each put where the one before it ended.
use mathlib.Core.Path.{◌≡◌, refl, sym, ap, ◌∙◌}
use mathlib.Core.List.{List, [], ◌∷◌, ◌++◌, append_assoc, append-nil}
use Prim.Native.Nat.{ℕ, suc, ◌+◌, ◌≤◌}
use native.Mathlib.{Numerals.add-one, Omega.arith}
use lib.ListN.{length, length-append, length-set, set}
use Rattle.octets.specs.{Buffers.put, Digits.digits, Rows.row}
use Rattle.octets.proofs.{Buffers.puts_on, Rows.length_row}
use Rattle.pack.specs.Layout.{fours}
use Rattle.sealer.proofs.Stores.{one_put, two_put}
use Rattle.sealer.proofs.write_front.Goals as goal

module _ (d name value count : List ℕ) (many key : ℕ)
    (room : 3 + length name + length value + length count ≤ length d) where
  abbrev named : List ℕ
  named = length name ∷ name

  abbrev keyed : List ℕ
  keyed = named ++ (many ∷ key ∷ [])

  behind : {e₁ e₂ e₃ e₄ e₅ : List ℕ} {at₃ at₄ at₅ : ℕ} → e₁ ≡ put d 0 (length name ∷ []) → e₂ ≡ put e₁ 1 name
      → e₃ ≡ put e₂ at₃ (many ∷ key ∷ []) → e₄ ≡ put e₃ at₄ value → e₅ ≡ put e₄ at₅ count → at₃ ≡ 1 + length name
      → at₄ ≡ at₃ + 2 → at₅ ≡ at₄ + length value
      → e₅ ≡ put d 0 (named ++ ((many ∷ key ∷ value) ++ count))
  behind p₁ p₂ p₃ p₄ p₅ q₃ q₄ q₅ =
      let long = length-append named (many ∷ key ∷ []) in
      let all = length-append keyed value in
      p₅
      ∙ puts_on d 0 (keyed ++ value) count
      (p₄
      ∙ puts_on d 0 keyed value
      (p₃
      ∙ puts_on d 0 named (many ∷ key ∷ []) (p₂ ∙ puts_on d 0 (length name ∷ []) name p₁ (omega arith) (omega arith))
      (omega arith)
      (omega arith))
      (omega arith) (omega arith))
      (omega arith) (omega arith)
      ∙ ap (put d 0) (simp append_assoc)

pub returns : goal.returns
unfolding row
returns c =
    let p = c.args in
    let d : List ℕ = p.output.now in
    let count : List ℕ = row (fours 1) (length p.sound.samples.now ∷ []) in
    behind d p.sound.name.now p.sound.value.now count (suc (length p.sound.value.now)) p.sound.key
    (omega (arith, length_row (fours 1) (length p.sound.samples.now ∷ [])))
    (one_put d 0 (length p.sound.name.now) (omega arith)) c.copy.ensures
    (ap (λ (n : ℕ). set (set c.copy.new.d (1 + length p.sound.name.now) n) (1 + length p.sound.name.now + 1) p.sound.key)
    (add-one (length p.sound.value.now))
    ∙ two_put c.copy.new.d (1 + length p.sound.name.now) (suc (length p.sound.value.now)) p.sound.key
    (omega (arith, length-set d 0 (length p.sound.name.now)))) c.copy-2.ensures
    (c.write_number.ensures ∙ ap (put _ _) (sym (append-nil (digits 256 4 (length p.sound.samples.now)))))
    refl refl refl
