-- What the public calls' definitions come to. Each theorem rests on the laws of updates, and those on enciphering are
-- what holds of any cipher.
use mathlib.Core.{Path.◌≡◌, Path.refl, Path.sym, Path.ap, Path.◌∙◌, List.List, List.[], List.◌∷◌, List.◌++◌}
use mathlib.Core.{List.append-nil, Logic.◌≢◌}
use Prim.Native.Nat.{ℕ, suc, ◌*◌, ◌/◌, ◌%◌, ◌<◌, ◌≤◌, min}
use native.Mathlib.{Nat.mod-eq_of_lt, Omega.arith}
use lib.{ListN.length, ListN.take, Pow.shr_lt}
use Rattle.octets.specs.{Buffers.placed, Digits.number, LowFirst.bits_up, LowFirst.bits_up_of, LowFirst.number_up}
use Rattle.octets.specs.Stream.{Keystream, from, enciphered}
use Rattle.octets.proofs.LowFirst.{below_up, turned_few, up_zeros}
use Rattle.octets.proofs.{Numbers.Below, Streams.enciphered_append}
use Rattle.refusals.specs.{Answers.Answer, Answers.answer, Answers.number_of, Numbers.accepted, Outcome.outcome}
use Rattle.refusals.specs.{Rules.Leaves, declared.Refusal.Refusal}
use Rattle.refusals.proofs.{Answers.never_accepted, Faults.none_wrong, Settled.answer_number, Settled.done_if}
use Rattle.refusals.proofs.Settled.{settled_leaves, by_settled}
use Rattle.ciphers.specs.Calls.{make_faults, TakenInTwo, GivesBack}
use Rattle.ciphers.proofs.Enciphering as any
use Rattle.shift_registers.specs.{Registers.State, Steps.steps_by, Steps.bits_by}
use Rattle.triad.specs.{Engines.plainly, Engines.plain_bits, Record.state, Record.packed, Record.Clean}
use Rattle.triad.specs.declared.Registers.{Registers}
use Rattle.triad.specs.Keystream.{keystream, started}
use Rattle.triad.specs.Pieces.{together, absorbing_all, absorbing_all_under}
use Rattle.triad.specs.State.{loaded, next, output_bit, outputs, permuted, updates, zeros}
use Rattle.triad.specs.Tag.{absorbed, padded, tag_of, tag_started, triad}
use Rattle.triad.specs.Calls.{blank, refused_making, making_by, making_cipher, making_tag, stepping, striding, running}
use Rattle.triad.specs.Calls.{short_striding, skipping}
use Rattle.triad.specs.Calls.{ahead, enciphering, covering, absorbing, absorbing_under, tagging}
use Rattle.triad.proofs.{Bytes.gone, Steps.Held, Steps.held_state, Steps.held_first, Steps.held_updates}
use Rattle.triad.proofs.Steps.{state_packed, state_updates, state_skip, skip_add, ran_word, ran_state}
use Rattle.triad.proofs.Steps.{absorbed_append}

-- ---- a refused call leaves everything as given

pub making_leaves : (key nonce : List ℕ) → Leaves (λ m. m.refusal) refused_making (making_cipher key nonce)
unfolding making_cipher
making_leaves key nonce = settled_leaves _ _ _ (λ m. m.refusal) refl (λ n. refl)

pub making_tag_leaves : (key nonce : List ℕ) → Leaves (λ m. m.refusal) refused_making (making_tag key nonce)
unfolding making_tag
making_tag_leaves key nonce = settled_leaves _ _ _ (λ m. m.refusal) refl (λ n. refl)

pub enciphering_leaves : (r : Registers) (input output : List ℕ)
    → Leaves (λ o. o.answer.refusal) (λ n. outcome (answer n r) output) (enciphering r input output)
unfolding enciphering
enciphering_leaves = any.enciphering_leaves answer ahead skipping (λ a. a.refusal) (λ n r. refl)

-- ---- a key of 16 bytes and a nonce of twelve aren't refused

held_permuted : (bit : ℕ) (s : State) → Held (permuted bit s)
unfolding permuted
held_permuted bit s = held_first bit (zeros 1023) s

module _ (key nonce : List ℕ) (keys : length key ≡ 16) (values : length nonce ≡ 12) where
  made_by : (bit : ℕ)
      → making_by bit key nonce ≡ answer accepted (packed (permuted bit (loaded key nonce)))
  made_by bit = sym (done_if _ _ _ (keys, (values, tt)))

  state_by : (bit : ℕ) → state (making_by bit key nonce).next ≡ permuted bit (loaded key nonce)
  state_by bit =
      ap (λ (m : Answer Registers). state m.next) (made_by bit)
      ∙ state_packed (permuted bit (loaded key nonce)) (held_permuted bit (loaded key nonce))

  pub makes : making_cipher key nonce ≡ answer accepted (packed (started key nonce))
  unfolding making_cipher
  makes = made_by 0

  pub makes_tag : making_tag key nonce ≡ answer accepted (packed (tag_started key nonce))
  unfolding making_tag
  makes_tag = made_by 1

  -- what is made has their keystream
  pub made_stream : ahead (making_cipher key nonce).next ≡ keystream (started key nonce)
  unfolding making_cipher
  made_stream = ap keystream (state_by 0)

  -- and what is made for a tag begins where it begins
  pub made_tag : state (making_tag key nonce).next ≡ tag_started key nonce
  unfolding making_tag
  made_tag = state_by 1

-- and only these aren't
pub made_sized : (bit : ℕ) (key nonce : List ℕ) {r : Registers} → answer accepted r ≡ making_by bit key nonce
    → (length key ≡ 16) × (length nonce ≡ 12)
made_sized bit key nonce e =
    let right =
    none_wrong (make_faults triad key nonce) tt
    (sym (answer_number _ _ _ (λ (m : Answer Registers). m.refusal) refl (λ n. refl) e)) in
    (right.0, right.1.0)

pub refused_unsized : (bit : ℕ) (key nonce : List ℕ) (refusal : Refusal)
    → answer (number_of refusal) blank ≡ making_by bit key nonce → length key ≡ 16 → length nonce ≢ 12
refused_unsized bit key nonce refusal e keys values =
    never_accepted refusal (ap (λ (m : Answer Registers). m.refusal) (e ∙ made_by key nonce keys values bit))

-- ---- both engines

after_one : (r : Registers) (bit : ℕ) → state (stepping r bit).next ≡ next (bit % 2) (state r)
unfolding stepping steps_by
after_one r bit = state_updates (bit % 2 ∷ []) r

one_bit : {bit : ℕ} → bit < 2 → bit % 2 ≡ bit
one_bit h = mod-eq_of_lt h

plainly_packed : (bit : ℕ) (bits : List ℕ) (r : Registers) → Below 2 (bit ∷ bits)
    → plainly (bit ∷ bits) r ≡ packed (updates (bit ∷ bits) (state r))
unfolding plainly stepping steps_by
plainly_packed bit [] r b = ap (λ (x : ℕ). packed (next x (state r))) (one_bit (b 0))
plainly_packed bit (more ∷ bits) r b =
    plainly_packed more bits (stepping r bit).next (λ i. b (suc i))
    ∙ ap (λ (s : State). packed (updates (more ∷ bits) s))
    (after_one r bit ∙ ap (λ (x : ℕ). next x (state r)) (one_bit (b 0)))

plain_bits_lem : (bits : List ℕ) (r : Registers) → Below 2 bits → plain_bits bits r ≡ outputs bits (state r)
unfolding plain_bits stepping bits_by
plain_bits_lem [] r b = refl
plain_bits_lem (bit ∷ bits) r b =
    ap (λ (l : List ℕ). output_bit (state r) ∷ l)
    (plain_bits_lem bits (stepping r bit).next (λ i. b (suc i))
    ∙ ap (outputs bits) (after_one r bit ∙ ap (λ (x : ℕ). next x (state r)) (one_bit (b 0))))

-- 64 updates at once and one by one give the same bits and leave the same registers, whatever the registers hold and
-- whatever the message
pub engines_agree : (r : Registers) (message : ℕ)
    → let bits = bits_up 64 message in
    striding r message ≡ record { word = number_up (plain_bits bits r); next = plainly bits r }
unfolding striding bits_up
engines_agree r message =
    let bits : List ℕ = bits_up 64 message in
    let small : Below 2 bits = below_up 64 message in
    λ i.
    record {
      word = number_up (sym (plain_bits_lem bits r small) i);
      next = sym (plainly_packed (message % 2) (bits_up 63 (message / 2)) r small) i;
    }

-- and where there is none
pub engines_agree_idle : (r : Registers)
    → striding r 0 ≡ record { word = number_up (plain_bits (zeros 64) r); next = plainly (zeros 64) r }
engines_agree_idle r =
    engines_agree r 0
    ∙ (λ i. record { word = number_up (plain_bits (up_zeros 64 i) r); next = plainly (up_zeros 64 i) r })

-- Updates in a loop and plain ones give the same word, and what they leave stands for the same state.
pub running_agrees : (r : Registers) (message : ℕ)
    → ((running r message).word ≡ (striding r message).word)
    × (state (running r message).next ≡ state (striding r message).next)
unfolding running striding
running_agrees r message = (refl, ran_state r message refl ∙ sym (state_updates (bits_up 64 message) r))

-- a short stride of all 64 updates is a stride
pub short_whole : (r : Registers) (message n : ℕ) → 64 ≤ n → short_striding r message n ≡ striding r message
unfolding short_striding striding
short_whole r message n many =
    let all : min n 64 ≡ 64 = omega arith in
    λ i. record { word = (striding r message).word; next = packed (updates (bits_up (all i) message) (state r)) }

-- ---- enciphering

-- with room the call isn't refused
pub enciphers : (r : Registers) (input output : List ℕ) → length input ≤ length output
    → enciphering r input output
    ≡ outcome (answer accepted (skipping r (length input)))
    (placed output 0 (enciphered (ahead r) input))
unfolding enciphering
enciphers = any.enciphers answer ahead skipping

-- and what it was asked for stands at the output's front
pub enciphered_there : (r : Registers) (input output : List ℕ) (n : ℕ) → length input ≡ n → n ≤ length output
    → take n (enciphering r input output).buffer ≡ enciphered (ahead r) input
unfolding enciphering
enciphered_there = any.enciphered_there answer ahead skipping

-- and with 0 it wasn't
unrefused : (r : Registers) (input output : List ℕ) → (enciphering r input output).answer.refusal ≡ accepted
    → enciphering r input output
    ≡ outcome (answer accepted (skipping r (length input)))
    (placed output 0 (enciphered (ahead r) input))
unfolding enciphering
unrefused = any.unrefused answer ahead skipping (λ a. a.refusal) (λ n r. refl)

-- the keystream goes on from where a record was moved to
pub goes_on : (r : Registers) (n : ℕ) → ahead (skipping r n) ≡ from n (ahead r)
goes_on r n = gone (state r) n (state_skip r n)

-- A stream taken in two calls, the second at the place where the first stopped, is the stream taken in one.
pub cut : TakenInTwo (λ a. a.next) enciphering
unfolding enciphering
cut = any.in_two answer ahead skipping (λ a. a.next) (λ n r. refl) skip_add goes_on

-- To encipher twice from the same registers is to have the bytes back.
pub twice : GivesBack enciphering
unfolding enciphering
twice = any.back answer ahead skipping

-- ---- taking in

state_absorbed : (r : Registers) (bytes : List ℕ) → state (absorbing r bytes) ≡ absorbed bytes (state r)
unfolding absorbing absorbed
state_absorbed r bytes = state_updates _ r

-- pieces taken in one behind the other are both taken in
pub in_pieces : (r : Registers) (xs ys : List ℕ) → absorbing (absorbing r xs) ys ≡ absorbing r (xs ++ ys)
unfolding absorbing
in_pieces r xs ys = ap packed (ap (absorbed ys) (state_absorbed r xs) ∙ sym (absorbed_append xs ys (state r)))

-- what is lent enciphered is taken in as it was before, whatever has the same keystream
pub under_plain : (r cipher : Registers) (k : Keystream) (bytes : List ℕ) → ahead cipher ≡ k
    → absorbing_under r cipher bytes ≡ absorbing r (enciphered k bytes)
unfolding absorbing_under
under_plain r cipher k bytes e = ap (λ (j : Keystream). absorbing r (enciphered j bytes)) e

-- and in pieces, the cipher moved on by each
pub in_pieces_under : (r cipher : Registers) (xs ys : List ℕ)
    → absorbing_under (absorbing_under r cipher xs) (skipping cipher (length xs)) ys ≡ absorbing_under r cipher (xs ++ ys)
unfolding absorbing_under
in_pieces_under r cipher xs ys =
    ap (λ (k : Keystream). absorbing (absorbing r (enciphered (ahead cipher) xs)) (enciphered k ys))
    (goes_on cipher (length xs))
    ∙ in_pieces r (enciphered (ahead cipher) xs) (enciphered (from (length xs) (ahead cipher)) ys)
    ∙ ap (absorbing r) (sym (enciphered_append (ahead cipher) xs ys))

-- ---- the tag

-- by pieces that together are the padded associated data and the message
pub tag_whole : (key nonce associated message : List ℕ) → length key ≡ 16 → length nonce ≡ 12 → {r : Registers}
    → r ≡ absorbing (making_tag key nonce).next (padded associated ++ message)
    → tagging r ≡ triad.tag key nonce associated message
unfolding tagging
tag_whole key nonce associated message keys values taken =
    ap (λ (r : Registers). number 256 (tag_of (state r))) taken
    ∙ ap (λ (s : State). number 256 (tag_of s))
    (state_absorbed (making_tag key nonce).next (padded associated ++ message)
    ∙ ap (absorbed (padded associated ++ message)) (made_tag key nonce keys values))

-- the associated data, and then the message
pub tag_sent : (key nonce associated message : List ℕ) → length key ≡ 16 → length nonce ≡ 12
    → tagging (absorbing (absorbing (making_tag key nonce).next (padded associated)) message)
    ≡ triad.tag key nonce associated message
tag_sent key nonce associated message keys values =
    tag_whole key nonce associated message keys values
    (in_pieces (making_tag key nonce).next (padded associated) message)

-- the message lent enciphered
pub tag_received : (key nonce associated sent : List ℕ) → length key ≡ 16 → length nonce ≡ 12
    → tagging
    (absorbing_under (absorbing (making_tag key nonce).next (padded associated)) (making_cipher key nonce).next
    sent)
    ≡ triad.tag key nonce associated (enciphered (triad.stream key nonce) sent)
tag_received key nonce associated sent keys values =
    ap tagging
    (under_plain (absorbing (making_tag key nonce).next (padded associated)) (making_cipher key nonce).next
    (keystream (started key nonce)) sent (made_stream key nonce keys values))
    ∙ tag_sent key nonce associated (enciphered (keystream (started key nonce)) sent) keys values

-- ---- spare bits

clean : (s : State) → Held s → Clean (packed s)
unfolding packed
clean s h =
    record {
      a = turned_few 16 48 _ (omega arith) (shr_lt 16 64 h.a);
      b = turned_few 24 40 _ (omega arith) (shr_lt 24 64 h.b);
      c = turned_few 24 40 _ (omega arith) (shr_lt 24 64 h.c);
    }

clean_updates : (bits : List ℕ) (r : Registers) → Clean (packed (updates bits (state r)))
clean_updates bits r = clean (updates bits (state r)) (held_updates bits (state r) (held_state r))

-- they come back zero from every call that isn't refused but `run`, whatever they were
clean_by : (bit : ℕ) (key nonce : List ℕ) → Clean (making_by bit key nonce).next
clean_by bit key nonce =
    by_settled (make_faults triad key nonce) _ _ (λ (m : Answer Registers). Clean m.next)
    (λ e. clean _ (held_permuted bit (loaded key nonce)))
    (λ n e h. record { a = omega arith; b = omega arith; c = omega arith })

pub clean_made : (key nonce : List ℕ) → Clean (making_cipher key nonce).next
unfolding making_cipher
clean_made = clean_by 0

pub clean_made_tag : (key nonce : List ℕ) → Clean (making_tag key nonce).next
unfolding making_tag
clean_made_tag = clean_by 1

pub clean_stepped : (r : Registers) (message : ℕ) → Clean (stepping r message).next
unfolding stepping steps_by
clean_stepped r message = clean_updates (message % 2 ∷ []) r

pub clean_strode : (r : Registers) (message : ℕ) → Clean (striding r message).next
unfolding striding
clean_strode r message = clean_updates (bits_up 64 message) r

pub clean_short : (r : Registers) (message n : ℕ) → Clean (short_striding r message n).next
unfolding short_striding
clean_short r message n = clean_updates (bits_up (min n 64) message) r

pub clean_cleared : (r : Registers) → Clean (packed (state r))
clean_cleared r = clean (state r) (held_state r)

pub clean_skipped : (r : Registers) (n : ℕ) → Clean (skipping r n)
unfolding skipping
clean_skipped r n = clean_updates (zeros (8 * n)) r

pub clean_covered : (r : Registers) (bytes : List ℕ) → Clean (covering r bytes).answer
unfolding covering
clean_covered r bytes = clean_skipped r (length bytes)

pub clean_enciphered : (r : Registers) (input output : List ℕ)
    → let answer = (enciphering r input output).answer in answer.refusal ≡ accepted → Clean answer.next
clean_enciphered r input output z = rw (unrefused r input output z) (clean_skipped r (length input))

pub clean_absorbed : (r : Registers) (bytes : List ℕ) → Clean (absorbing r bytes)
unfolding absorbing absorbed
clean_absorbed r bytes = clean_updates _ r

pub clean_absorbed_under : (r cipher : Registers) (bytes : List ℕ) → Clean (absorbing_under r cipher bytes)
unfolding absorbing_under
clean_absorbed_under r cipher bytes = clean_absorbed r (enciphered (ahead cipher) bytes)

-- They are ignored: records that stand for the same state are the same to every call. One that is refused hands back
-- the record that it was given, and `run` leaves the same state.
module _ (r q : Registers) (same : state r ≡ state q) where
  pub same_stepped : (message : ℕ) → stepping r message ≡ stepping q message
  unfolding stepping
  same_stepped message = λ i. record { bit = output_bit (same i); next = packed (next (message % 2) (same i)) }

  pub same_strode : (message : ℕ) → striding r message ≡ striding q message
  unfolding striding
  same_strode message =
      λ i.
      record {
        word = number_up (outputs (bits_up 64 message) (same i));
        next = packed (updates (bits_up 64 message) (same i));
      }

  pub same_ran : (message : ℕ)
      → ((running r message).word ≡ (running q message).word)
      × (state (running r message).next ≡ state (running q message).next)
  same_ran message =
      let bits : List ℕ = bits_up 64 message in (
        ran_word r message refl ∙ ap (λ (s : State). number_up (outputs bits s)) same ∙ sym (ran_word q message refl),
        ran_state r message refl ∙ ap (updates bits) same ∙ sym (ran_state q message refl),
      )

  pub same_short : (message n : ℕ) → short_striding r message n ≡ short_striding q message n
  unfolding short_striding
  same_short message n =
      λ i. record { word = (same_strode message i).word; next = packed (updates (bits_up (min n 64) message) (same i)) }

  pub same_skipped : (n : ℕ) → skipping r n ≡ skipping q n
  unfolding skipping
  same_skipped n = λ i. packed (updates (zeros (8 * n)) (same i))

  pub same_covered : (bytes : List ℕ) → covering r bytes ≡ covering q bytes
  unfolding covering
  same_covered bytes = λ i. outcome (same_skipped (length bytes) i) (enciphered (keystream (same i)) bytes)

  pub same_absorbed : (bytes : List ℕ) → absorbing r bytes ≡ absorbing q bytes
  unfolding absorbing
  same_absorbed bytes = λ i. packed (absorbed bytes (same i))

  pub same_under : (t : Registers) (bytes : List ℕ) → absorbing_under t r bytes ≡ absorbing_under t q bytes
  unfolding absorbing_under
  same_under t bytes = λ i. absorbing t (enciphered (keystream (same i)) bytes)

  pub same_absorbed_under : (cipher : Registers) (bytes : List ℕ)
      → absorbing_under r cipher bytes ≡ absorbing_under q cipher bytes
  unfolding absorbing_under
  same_absorbed_under cipher bytes = same_absorbed (enciphered (ahead cipher) bytes)

  pub same_tag : tagging r ≡ tagging q
  unfolding tagging
  same_tag = λ i. number 256 (tag_of (same i))

  module _ (input output : List ℕ) where
    pub same_number : (enciphering r input output).answer.refusal ≡ (enciphering q input output).answer.refusal
    unfolding enciphering
    same_number = any.same_number answer ahead skipping (λ a. a.refusal) (λ n r. refl) r q input output

    pub same_buffer : (enciphering r input output).buffer ≡ (enciphering q input output).buffer
    unfolding enciphering
    same_buffer =
        any.same_buffer answer ahead skipping (λ a. a.refusal) (λ n r. refl) r q input output (ap keystream same)

    pub same_enciphered : (enciphering r input output).answer.refusal ≡ accepted
        → enciphering r input output ≡ enciphering q input output
    unfolding enciphering
    same_enciphered =
        any.same_enciphered answer ahead skipping (λ a. a.refusal) (λ n r. refl) r q input output (ap keystream same)
        (same_skipped (length input))

-- ---- in any number of pieces

pieces_absorbed : (r : Registers) (piece : List ℕ) (more : List (List ℕ))
    → absorbing_all r (piece ∷ more) ≡ absorbing r (together (piece ∷ more))
unfolding absorbing_all together
pieces_absorbed r piece [] = ap (absorbing r) (sym (append-nil piece))
pieces_absorbed r piece (next ∷ more) =
    pieces_absorbed (absorbing r piece) next more ∙ in_pieces r piece (together (next ∷ more))

pieces_absorbed_under : (r cipher : Registers) (piece : List ℕ) (more : List (List ℕ))
    → absorbing_all_under r cipher (piece ∷ more) ≡ absorbing_under r cipher (together (piece ∷ more))
unfolding absorbing_all_under together
pieces_absorbed_under r cipher piece [] = ap (absorbing_under r cipher) (sym (append-nil piece))
pieces_absorbed_under r cipher piece (next ∷ more) =
    pieces_absorbed_under (absorbing_under r cipher piece) (skipping cipher (length piece)) next more
    ∙ in_pieces_under r cipher piece (together (next ∷ more))

-- Pieces taken in stand for the same state as all of them taken in as one run. If there is none, nothing clears a spare
-- bit, so the records may differ.
pub in_all_pieces : (r : Registers) (pieces : List (List ℕ))
    → state (absorbing_all r pieces) ≡ state (absorbing r (together pieces))
unfolding absorbing_all together absorbed bits_up_of steps_by
in_all_pieces r [] = sym (state_absorbed r [])
in_all_pieces r (piece ∷ more) = ap state (pieces_absorbed r piece more)

pub in_all_pieces_under : (r cipher : Registers) (pieces : List (List ℕ))
    → state (absorbing_all_under r cipher pieces) ≡ state (absorbing_under r cipher (together pieces))
unfolding absorbing_all_under absorbing_under together absorbed enciphered bits_up_of steps_by
in_all_pieces_under r cipher [] = sym (state_absorbed r [])
in_all_pieces_under r cipher (piece ∷ more) = ap state (pieces_absorbed_under r cipher piece more)

module _ (key nonce associated : List ℕ) (keys : length key ≡ 16) (values : length nonce ≡ 12) where
  abbrev begun : Registers
  begun = (making_tag key nonce).next

  -- The tag is that of the whole, wherever the padded associated data and the message are cut.
  pub tag_in_pieces : (message : List ℕ) (pieces : List (List ℕ)) → together pieces ≡ padded associated ++ message
      → tagging (absorbing_all begun pieces) ≡ triad.tag key nonce associated message
  tag_in_pieces message pieces all =
      same_tag (absorbing_all begun pieces) (absorbing begun (together pieces)) (in_all_pieces begun pieces)
      ∙ tag_whole key nonce associated message keys values (ap (absorbing begun) all)

  -- And if the message is lent enciphered, in pieces of its own.
  pub tag_received_in_pieces : (front sent : List (List ℕ)) → together front ≡ padded associated
      → tagging (absorbing_all_under (absorbing_all begun front) (making_cipher key nonce).next sent)
      ≡ triad.tag key nonce associated (enciphered (triad.stream key nonce) (together sent))
  tag_received_in_pieces front sent all =
      let cipher : Registers = (making_cipher key nonce).next in
      let apart : Registers = absorbing_all begun front in
      let whole : Registers = absorbing begun (padded associated) in
      let taken : state apart ≡ state whole =
      in_all_pieces begun front ∙ ap (λ (l : List ℕ). state (absorbing begun l)) all in
      same_tag (absorbing_all_under apart cipher sent) (absorbing_under whole cipher (together sent))
      (in_all_pieces_under apart cipher sent
      ∙ ap state (same_absorbed_under apart whole taken cipher (together sent)))
      ∙ tag_received key nonce associated (together sent) keys values
