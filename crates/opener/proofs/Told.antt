-- What a call that opens a file knows by what was told to one who has keys: a flaw is passed on, a later rule lacks no
-- byte, and of a file without a flaw the key section and the body stand where the answer says.
use mathlib.Core.{Path.◌≡◌, Path.refl, Path.sym, Path.ap, Path.◌∙◌, Logic.◌≢◌, List.List, List.◌++◌}
use Prim.Native.Nat.{ℕ, ◌+◌, ◌-◌, ◌*◌, ◌≤◌}
use native.Mathlib.Omega.{arith}
use lib.ListN.{length}
use Rattle.std.specs.Prelude.{Result, Ok, Err, IsOk}
use Rattle.octets.specs.{Buffers.slice, Stream.Keystream, Stream.enciphered}
use Rattle.octets.proofs.Slices.{length_slice}
use Rattle.refusals.specs.{Numbers.accepted, Outcome.Outcome, Outcome.outcome, Answers.number_of, declared.Flaw.Flaw, declared.Refusal.Refusal}
use Rattle.refusals.specs.Rules.{AllRight, Fault, first, settled, Verdict}
use Rattle.refusals.proofs.Faults.{none_wrong, right_after, verdict_right}
use Rattle.refusals.proofs.{Answers.never_accepted, Settled.done_if, Settled.settled_left}
use Rattle.refusals.proofs.Settled.{first_here, first_later}
use Rattle.samples.specs.Words.{words_of}
use Rattle.pack.specs.Answers.{Opened, opening_of}
use Rattle.pack.specs.declared.Opened as code
use Rattle.pack.specs.Calls.{refused_opening, accepted_opening, lacks_of, inspecting, inspecting_file}
use Rattle.pack.specs.{Ciphers.cipher_in, Ciphers.ring_in, declared.Rings.Rings}
use Rattle.pack.specs.Faults.{file_faults, keyed_faults}
use Rattle.pack.specs.Layout.{key_named}
use Rattle.pack.specs.Places.{key_place, key_number, value_place, sample_count, body_place, parts_of}
use Rattle.pack.proofs.Answers.{ok_first, ok_done, err_first, err_lacks}
use Rattle.pack.proofs.Theorems.{keyed_numbered, keyed_shown}
use Rattle.inspector.proofs.Shown.{shown}
use Rattle.chunks.specs.{Ahead.ahead, declared.Cipher.Cipher}
use Rattle.bodies.specs.Bodies.{Ready, ready, begun, beginning, beginning_from}

-- a cipher that begins isn't refused
ok_begun : (result : Result Cipher Refusal) (stream : Keystream) → begun result ≡ ready accepted stream → IsOk result
ok_begun (Ok cipher) stream e = refl
ok_begun (Err refusal) stream e = absurd (never_accepted refusal (ap (λ (r : Ready). r.refusal) e))

module _ (r : Rings) (file : List ℕ) where
  abbrev faults : List Fault
  faults = keyed_faults (cipher_in file) (ring_in r file) file

  -- what a call leaves of its output and answers, if it is refused
  abbrev pub left_as : {A : Type 0} → List A → ℕ → Outcome Opened A
  left_as output number = outcome (refused_opening (lacks_of (cipher_in file) file) number) output

  -- ---- a file with a flaw

  module _ (flaw : Flaw) (told : opening_of (Err flaw) ≡ inspecting_file r file) where
    pub flaw_first : number_of flaw.refusal ≡ first faults
    unfolding inspecting
    flaw_first = err_first faults (accepted_opening (cipher_in file) file) (lacks_of (cipher_in file) file) refl (Err flaw) told refl

    -- it is passed on, whatever rules come behind it
    pub flaw_passed : {A : Type 0} (later : List Fault) (done : Outcome Opened A) (output : List A)
        → outcome (opening_of (Err flaw)) output ≡ settled (faults ++ later) done (left_as output)
    unfolding inspecting
    flaw_passed later done output =
        let never = never_accepted flaw.refusal in
        ap (λ (n : ℕ). outcome (refused_opening n (number_of flaw.refusal)) output)
        (err_lacks faults (accepted_opening (cipher_in file) file) (lacks_of (cipher_in file) file) refl (Err flaw) told refl)
        ∙ settled_left (faults ++ later) done (left_as output) _ never
        (first_here faults later (keyed_numbered (cipher_in file) (ring_in r file) file) _ never flaw_first)

  -- ---- a file without one

  module _ (opened : code.Opened) (told : opening_of (Ok opened) ≡ inspecting_file r file) where
    pub none_first : accepted ≡ first faults
    unfolding inspecting
    none_first = ok_first faults (accepted_opening (cipher_in file) file) (lacks_of (cipher_in file) file) refl (Ok opened) told refl

    pub all_right : AllRight faults
    all_right = none_wrong faults (keyed_numbered (cipher_in file) (ring_in r file) file) (sym none_first)

    right : AllRight (file_faults (cipher_in file) file)
    right = (keyed_shown (cipher_in file) (ring_in r file) file all_right).0

    pub answered : opening_of (Ok opened) ≡ accepted_opening (cipher_in file) file
    unfolding inspecting
    answered = ok_done faults (accepted_opening (cipher_in file) file) (lacks_of (cipher_in file) file) refl (Ok opened) told refl

    -- a later rule that is broken: the file lacks nothing
    pub refused_later : {A : Type 0} (later : List Fault) (done : Outcome Opened A) (output : List A) (number : ℕ)
        → number ≢ accepted → number ≡ first later
        → outcome (refused_opening 0 number) output ≡ settled (faults ++ later) done (left_as output)
    refused_later later done output number numbered broken =
        ap (λ (n : ℕ). outcome (refused_opening n number) output) (ap (λ (v : Verdict). v.lacks) (verdict_right _ right))
        ∙ settled_left (faults ++ later) done (left_as output) number numbered
        (broken ∙ first_later faults later (keyed_numbered (cipher_in file) (ring_in r file) file) none_first)

    -- and with none broken the call is done
    pub none_broken : {A : Type 0} (later : List Fault) (written output : List A) → AllRight later
        → outcome (opening_of (Ok opened)) written
        ≡ settled (faults ++ later) (outcome (accepted_opening (cipher_in file) file) written) (left_as output)
    none_broken later written output h =
        ap (λ (o : Opened). outcome o written) answered
        ∙ done_if (faults ++ later) _ (left_as output) (right_after faults later all_right h)

    -- where its key section and its body stand, and what it counts
    pub record Known : Type 0 where
      pub value : opened.value_at ≡ key_place file + 2
      pub loops : opened.loops_at ≡ body_place (cipher_in file) file + 2 * sample_count (cipher_in file) file + 1
      pub samples : opened.samples ≡ sample_count (cipher_in file) file
      pub most : opened.samples ≤ 16384
      pub there : opened.loops_at ≤ length file

    pub known : Known
    known =
        let k = shown (cipher_in file) file right in
        let samples = ap (λ (o : Opened). o.samples) answered in
        let loops = ap (λ (o : Opened). o.loops_at) answered in
        record {
          value = ap (λ (o : Opened). o.value_at) answered;
          loops = omega (arith, loops, k.loop);
          samples = samples;
          most = omega (arith, samples, k.samples);
          there = omega (arith, loops, k.tag, k.end);
        }

    -- the cipher that begins at its key section is the one of its samples
    pub begins : beginning_from r file (key_place file)
        ≡ ready accepted
        ((cipher_in file).stream (key_named (ring_in r file) (key_number file))
        (slice file (value_place file) (cipher_in file).value_bytes))
    unfolding beginning_from beginning
    begins =
        let k = shown (cipher_in file) file right in
        let long = length_slice file (value_place file) (cipher_in file).value_bytes
        (omega (arith, k.body, k.loop, k.tag, k.end)) in
        sym (done_if _ _ _ (omega (arith, k.number), (long, tt)))

    -- so what is read of the body under it are these samples
    pub deciphered : (stream : Keystream) (body : List ℕ) → ready accepted stream ≡ beginning_from r file (key_place file)
        → body ≡ slice file (body_place (cipher_in file) file) (2 * sample_count (cipher_in file) file)
        → words_of (enciphered stream body) ≡ (parts_of (cipher_in file) (ring_in r file) file).samples
    unfolding parts_of
    deciphered stream body begun there =
        λ i. words_of (enciphered ((begun ∙ begins) i).stream (there i))

    -- ---- by the numbers that the answer has, for a function that takes the body

    begins_at : (result : Result Cipher Refusal) → begun result ≡ beginning_from r file (opened.value_at - 2)
        → begun result ≡ beginning_from r file (key_place file)
    begins_at result e = e ∙ ap (beginning_from r file) (omega (arith, known.value))

    pub is_begun : (result : Result Cipher Refusal) → begun result ≡ beginning_from r file (opened.value_at - 2) → IsOk result
    is_begun result e = ok_begun result _ (begins_at result e ∙ begins)

    abbrev body_end : ℕ
    body_end = opened.loops_at - 1

    abbrev body_start : ℕ
    body_start = body_end - 2 * opened.samples

    pub body_read : (cipher : Cipher) → begun (Ok cipher) ≡ beginning_from r file (opened.value_at - 2)
        → (length (slice file body_start (body_end - body_start)) ≡ 2 * opened.samples)
        × (words_of (enciphered (ahead cipher) (slice file body_start (body_end - body_start)))
        ≡ (parts_of (cipher_in file) (ring_in r file) file).samples)
    body_read cipher e =
        let place = body_place (cipher_in file) file in
        let size = 2 * sample_count (cipher_in file) file in
        let start : body_start ≡ place = omega (arith, known.loops, known.samples) in
        let long : body_end - body_start ≡ size = omega (arith, known.loops, known.samples) in
        let there : slice file body_start (body_end - body_start) ≡ slice file place size =
        λ i. slice file (start i) (long i) in
        let whole = ap length there ∙ length_slice file place size (omega (arith, known.loops, known.there))
        ∙ omega (arith, known.samples) in (
          whole,
          deciphered (ahead cipher) _ (begins_at (Ok cipher) e) there,
        )
