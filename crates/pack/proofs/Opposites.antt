-- Every sample that opening writes has an opposite: it is read from a plain word, and none is read as -32768.
use Prim.Native.Nat.{ℕ, zero, suc, ◌+◌, ◌<◌}
use mathlib.Core.{List.List, Logic.◌≢◌, Path.◌≡◌, Path.sym, Path.ap, Path.subst, Path.◌∙◌}
use native.Mathlib.Omega.{arith}
use lib.{IntN.ℤ, IntN.pos, IntN.negsuc, IntN.neg_ℤ, IntN.nat_abs, ListN.length, ListN.get_or, ListN.drop, Signed.mag}
use lib.ListN.{get_or-append}
use Rattle.octets.specs.{Buffers.placed, Stream.Cipher}
use Rattle.refusals.specs.Numbers.{accepted}
use Rattle.samples.proofs.Words.{Good, words_good}
use Rattle.trivium.specs.Keystream.{trivium}
use Rattle.enocoro.specs.Keystream.{enocoro}
use Rattle.triad.specs.Tag.{triad}
use Rattle.pack.specs.{Calls.opening_pack, Ciphers.cipher_in, declared.Rings.Rings, Ciphers.ring_in, Opposites.Opposites}
use Rattle.pack.specs.Places.{parts_of}
use Rattle.pack.proofs.Demand2.{opened_given}

-- what a run at the front of a buffer leaves there
pub front_at : (sound run : List ℤ) (i : ℕ) → i < length run → get_or (placed sound 0 run) i (pos 0) ≡ get_or run i (pos 0)
unfolding placed
front_at sound run i h = get_or-append run (drop (0 + length run) sound) (pos 0) i h

good_raised : (z : ℤ) → Good z → z ≢ negsuc 32767
good_raised z h e = omega (arith, ap nat_abs e)

pub good_opposite : (z : ℤ) → Good z → mag (neg_ℤ z) < 32768
good_opposite (pos zero) h = omega arith
good_opposite (pos (suc n)) h = omega arith
good_opposite (negsuc n) h = omega arith

module _ (cipher : Cipher) (ring : List (List ℕ)) where
  pub given_good : (file : List ℕ) (i : ℕ) → Good (get_or (parts_of cipher ring file).samples i (pos 0))
  unfolding parts_of
  given_good file i = words_good _ i

  abbrev written : List ℕ → List ℤ → ℕ → ℤ
  written file sound i = get_or (opening_pack cipher ring file sound).buffer i (pos 0)

  -- whatever the file, and whatever its bytes are
  written_good : (file : List ℕ) (sound : List ℤ) (i : ℕ) → let o = opening_pack cipher ring file sound in
      o.answer.refusal ≡ accepted → i < o.answer.samples → Good (written file sound i)
  written_good file sound i e h =
      let given = opened_given cipher ring file sound e in
      let there = front_at sound (parts_of cipher ring file).samples i (omega (arith, given.sample_count)) in
      subst Good (sym (ap (λ (l : List ℤ). get_or l i (pos 0)) given.written ∙ there)) (given_good file i)

pub opposites : (pick : List ℕ → Cipher) (ring : List ℕ → List (List ℕ)) → Opposites pick ring
opposites pick ring =
    record {
      raised =
          λ file sound i e h.
          good_raised (written (pick file) (ring file) file sound i)
          (written_good (pick file) (ring file) file sound i e h);
      opposite =
          λ file sound i e h.
          good_opposite (written (pick file) (ring file) file sound i)
          (written_good (pick file) (ring file) file sound i e h);
    }

pub opposites_trivium : (ring : List (List ℕ)) → Opposites (λ file. trivium) (λ file. ring)
opposites_trivium ring = opposites (λ file. trivium) (λ file. ring)

pub opposites_enocoro : (ring : List (List ℕ)) → Opposites (λ file. enocoro) (λ file. ring)
opposites_enocoro ring = opposites (λ file. enocoro) (λ file. ring)

pub opposites_triad : (ring : List (List ℕ)) → Opposites (λ file. triad) (λ file. ring)
opposites_triad ring = opposites (λ file. triad) (λ file. ring)

-- for callers, under the cipher that a file is under
pub opposites_picked : (r : Rings) → Opposites cipher_in (ring_in r)
opposites_picked r = opposites cipher_in (ring_in r)
