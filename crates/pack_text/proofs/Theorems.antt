-- What a text is: it has at most 66 bytes, because the rules bound every number in it; its first word tells whether the
-- pack was accepted; it says what opening the pack answers, given room; and a long input's front has it already.
use mathlib.Core.{Path.◌≡◌, Path.refl, Path.sym, Path.ap, Path.◌∙◌, List.List, List.[], List.◌∷◌, List.◌++◌}
use mathlib.Core.{Bool.cond, Logic.◌≢◌}
use Prim.Native.Nat.{ℕ, ◌+◌, ◌-◌, ◌<◌, ◌≤◌}
use native.Mathlib.Omega.{arith}
use lib.{Dec.eqb, IntN.ℤ, Seq.take_at, Seq.drop_at, Seq.take-add, Seq.length-take-le}
use lib.ListN.{length, take, drop, replicate, length-append, length-take, length-drop}
use Rattle.octets.specs.{Buffers.slice, Buffers.placed, Digits.number_after, Digits.digits, Rows.numbers_at}
use Rattle.octets.specs.{Stream.Cipher}
use Rattle.refusals.specs.{Numbers.accepted, Numbers.no_room, Outcome.outcome}
use Rattle.refusals.specs.Rules.{◌over◌, ◌says◌, AllRight, told, first, lacking, settled}
use Rattle.refusals.proofs.Faults.{all_right, none_wrong, first_append}
use Rattle.refusals.proofs.Settled.{by_settled, settled_done, settled_left, settled_map}
use Rattle.pack.specs.Calls.{refused_opening, accepted_opening, lacks_of, inspecting, opening_pack, surveying_file}
use Rattle.pack.specs.{Calls.inspecting_file, Calls.opening_file, Ciphers.picked, Ciphers.cipher_in, declared.Rings.Rings}
use Rattle.pack.specs.{Ciphers.ring_in, Places.tag_due}
use Rattle.pack.specs.Faults.{faults_from_samples, faults_from_key, file_faults, keyed_faults, open_faults}
use Rattle.pack.specs.{Layout.name_good, Layout.loops_good, Limits.most_samples, Limits.longest_file}
use Rattle.pack.specs.Places.{name_count, key_number, sample_count, loop_count, parts_of}
use Rattle.pack.proofs.{LongFiles.front_inspects, LongFiles.longer_refused}
use Rattle.pack.proofs.Theorems.{keyed_numbered, keyed_shown, inspect_refusal, survey_refusal}
use Rattle.rings.specs.Ring.{keys_bytes, rings_of}
use Rattle.pack_text.specs.Text.{trimmed, decimal, line, name_word, key_word, samples_word, loops_word, refused_word}
use Rattle.pack_text.specs.Text.{pack_lines, refused_line, keys_in, pack_in, input_faults, text_of}
use Rattle.pack_text.proofs.Decimals.{length_decimal, decimal_short, length_lacking}
use Rattle.pack_text.proofs.Surveys.{lines_of, told_accepted, told_refused}

length_pack : (name : List ℕ) (key samples loops : ℕ) → length name ≤ 32 → key < 10 → samples < 100000 → loops < 10
    → length (pack_lines name key samples loops) ≤ 66
unfolding pack_lines
length_pack name key samples loops h k s l =
    simp length-append
    (omega (
      arith,
      decimal_short 1 key (omega arith) k,
      decimal_short 5 samples (omega arith) s,
      decimal_short 1 loops (omega arith) l,
    ))

-- of a refusal, two numbers
length_refused : (lacks number : ℕ) → length (refused_line lacks number) ≤ 50
unfolding refused_line
length_refused lacks number =
    simp length-append (omega (arith, length_decimal number, length_lacking lacks))

-- no text is longer
pub text_fits : (input : List ℕ) → length (text_of input) ≤ 66
unfolding text_of keyed_faults file_faults faults_from_key faults_from_samples
text_fits input =
    by_settled (input_faults input) _ (refused_line (lacking (input_faults input))) (λ t. length t ≤ 66)
    (λ e.
    let right : AllRight (input_faults input) = none_wrong (input_faults input) tt e in
    let file : List ℕ = drop keys_bytes input in
    length_pack (slice file 1 (name_count file)) (key_number file) (sample_count (cipher_in file) file)
    (loop_count (cipher_in file) file)
    (simp length-take (omega arith)) (omega arith) (omega arith) (omega arith))
    (λ n e h. omega (arith, length_refused (lacking (input_faults input)) n))

-- ---- the first word

pub accepted_begins : (input : List ℕ) → first (input_faults input) ≡ accepted
    → take 5 (text_of input) ≡ name_word
unfolding text_of pack_lines
accepted_begins input e = ap (take 5) (sym (settled_done (input_faults input) _ _ (sym e)))

pub refused_begins : (input : List ℕ) → first (input_faults input) ≢ accepted
    → take 8 (text_of input) ≡ refused_word
unfolding text_of refused_line
refused_begins input h = ap (take 8) (sym (settled_left (input_faults input) _ _ _ h refl))

-- ---- what opening answers

-- with room for every sample, opening refuses what a survey does, and answers the same
room_enough : (cipher : Cipher) (ring : List (List ℕ)) (file : List ℕ) (room : ℕ) → most_samples ≤ room
    → first (open_faults cipher ring file room) ≡ first (keyed_faults cipher ring file)
unfolding open_faults file_faults faults_from_key faults_from_samples
room_enough cipher ring file room h =
    first_append (keyed_faults cipher ring file) _ (keyed_numbered cipher ring file)
    ∙ by_settled (keyed_faults cipher ring file) _ (λ n. n) (λ n. n ≡ first (keyed_faults cipher ring file))
    (λ e.
    let right = (keyed_shown cipher ring file (none_wrong _ (keyed_numbered cipher ring file) e)).0 in
    sym (all_right ((sample_count cipher file over room says no_room) ∷ []) (omega arith, tt)) ∙ sym e)
    (λ n e _. sym e)

opens_as_told : (cipher : Cipher) (ring : List (List ℕ)) (file : List ℕ) (output : List ℤ)
    → most_samples ≤ length output
    → (opening_pack cipher ring file output).answer ≡ inspecting cipher ring file
unfolding opening_pack inspecting settled
opens_as_told cipher ring file output room =
    settled_map (λ o. o.answer) (open_faults cipher ring file (length output))
    (outcome (accepted_opening cipher file) (placed output 0 (parts_of cipher ring file).samples))
    (λ n. outcome (refused_opening (lacks_of cipher file) n) output)
    ∙ ap (λ (n : ℕ). cond (eqb n accepted) (accepted_opening cipher file) (refused_opening (lacks_of cipher file) n))
    (room_enough cipher ring file (length output) room)

-- the input's text says what opening its pack answers, under its keys
pub text_opened : (input : List ℕ) (output : List ℤ) → keys_bytes ≤ length input
    → most_samples ≤ length output
    → let file = pack_in input in
    let o = (opening_file (keys_in input) file output).answer in
    (o.refusal ≡ accepted → text_of input ≡ lines_of file o)
    × (o.refusal ≢ accepted → text_of input ≡ refused_line o.lacks o.refusal)
text_opened input output keys room =
    let file : List ℕ = pack_in input in
    let e = opens_as_told (cipher_in file) (ring_in (keys_in input) file) file output room in
    (λ z. sym (told_accepted input keys e z), λ h. sym (told_refused input keys e h))

-- ---- an input that is longer than any pack

-- a front with the keys and one byte more than the longest file has the whole input's text: both are refused alike
pub front_told : (input : List ℕ) (n : ℕ) → keys_bytes + longest_file < n → n ≤ length input
    → text_of (take n input) ≡ text_of input
front_told input n far long =
    let file : List ℕ = pack_in input in
    let rest : ℕ = n - keys_bytes in
    let both : n ≡ keys_bytes + rest = omega arith in
    let size : length (take keys_bytes input) ≡ keys_bytes = length-take-le keys_bytes input (omega arith) in
    let cut : take n input ≡ take keys_bytes input ++ take rest file =
    ap (λ (k : ℕ). take k input) both ∙ take-add keys_bytes rest input in
    let keys : take keys_bytes (take n input) ≡ take keys_bytes input =
    ap (take keys_bytes) cut ∙ take_at (take keys_bytes input) (take rest file) keys_bytes size in
    let part : pack_in (take n input) ≡ take rest file =
    ap (drop keys_bytes) cut ∙ drop_at (take keys_bytes input) (take rest file) keys_bytes size in
    let told : inspecting_file (keys_in (take n input)) (pack_in (take n input)) ≡ inspecting_file (keys_in input) file =
    (λ i. inspecting_file (rings_of (keys i)) (part i)) ∙ front_inspects (keys_in input) file rest (omega arith) in
    let refused : (inspecting_file (keys_in input) file).refusal ≢ accepted = λ z.
    longer_refused file (omega (arith, length-drop keys_bytes input)) (unrefused (keys_in input) file z) in
    sym
    (told_refused (take n input) (omega (arith, length-take-le n input long)) (sym told) refused)
    ∙ told_refused input (omega arith) refl refused
  where
    -- who has keys refuses what one without them does
    unrefused : (r : Rings) (file : List ℕ) → (inspecting_file r file).refusal ≡ accepted
        → (surveying_file file).refusal ≡ accepted
    unrefused r file z =
        let cipher = cipher_in file in
        let own = ring_in r file in
        let all = none_wrong _ (keyed_numbered cipher own file) (sym (inspect_refusal cipher own file) ∙ z) in
        survey_refusal cipher file ∙ sym (all_right _ (keyed_shown cipher own file all).0)

-- ---- the paper's example, whole

pub example_text :
    text_of
    (replicate keys_bytes 0 ++ (1 ∷ 67 ∷ 11 ∷ 2 ∷ []) ++ replicate 10 0 ++ replicate 5 0)
    ≡ line name_word (67 ∷ []) ++ line key_word (50 ∷ []) ++ line samples_word (48 ∷ []) ++ line loops_word (48 ∷ [])
unfolding text_of keyed_faults file_faults faults_from_key faults_from_samples pack_lines decimal trimmed digits
    settled first told name_good number_after loops_good numbers_at picked tag_due
example_text = refl
