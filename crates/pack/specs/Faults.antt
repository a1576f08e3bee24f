-- What can be wrong with a pack, in the order in which it is looked for, each with its number.
use Rattle.std.specs.Prelude.{ℕ, suc, ◌+◌, ◌*◌, ◌%◌, List, [], ◌∷◌, ◌++◌, length}
use Rattle.octets.specs.{Buffers.slice, Rows.numbers_at, Stream.Cipher}
use Rattle.refusals.specs.Numbers.{bad_value, no_room, long_name, bad_name, bad_key_count, bad_key_number, many_samples}
use Rattle.refusals.specs.Numbers.{lowest_sample, many_loops, bad_loop, more_bytes, cut_in_name, cut_in_key, cut_in_samples}
use Rattle.refusals.specs.Numbers.{cut_in_loops, wrong_tag, bad_tag_section}
use Rattle.refusals.specs.Rules.{◌over◌, ◌unlike◌, ◌ends_before◌, unless, Fault, ◌says◌}
use Rattle.pack.specs.Layout.{Parts, name_good, samples_good, loops_good, fours}
use Rattle.pack.specs.Limits.{most_name, last_key, most_samples, most_loops}
use Rattle.pack.specs.{Layout.tag_count, Places.tag_count_in, Places.tag_in, Places.tag_end, Places.tag_place}
use Rattle.pack.specs.Places.{byte_at, name_end, key_end, samples_in, samples_end, loops_end, sample_count, tag_due}

-- Reading front to back. Of each section: its count, the count's limit, whether its body is all there, its body in file
-- order. A section begins at `at`.
abbrev pub name_section_faults : List ℕ → ℕ → List Fault
name_section_faults file at =
    let count = byte_at file at in
    (length file ends_before at + 1 says cut_in_name)
    ∷ (count over most_name says long_name)
    ∷ (length file ends_before name_end file at says cut_in_name)
    ∷ (unless (name_good (slice file (at + 1) count)) says bad_name)
    ∷ []

-- what is said of a count that isn't the cipher's own
abbrev pub own_count : Cipher → ℕ → Fault
own_count cipher count = count unlike suc cipher.value_bytes says bad_key_count

-- `said` is what is said of the key section's count
abbrev pub key_section_faults : Cipher → (ℕ → Fault) → List ℕ → ℕ → List Fault
key_section_faults cipher said file at =
    (length file ends_before at + 1 says cut_in_key)
    ∷ said (byte_at file at)
    ∷ (length file ends_before key_end cipher at says cut_in_key)
    ∷ (byte_at file (at + 1) over last_key says bad_key_number)
    ∷ []

abbrev pub sample_section_faults : List ℕ → ℕ → List Fault
sample_section_faults file at =
    (length file ends_before at + 4 says cut_in_samples)
    ∷ (samples_in file at over most_samples says many_samples)
    ∷ (length file ends_before samples_end file at says cut_in_samples)
    ∷ []

-- the loops' ends are held to the sample count
abbrev pub loop_section_faults : List ℕ → ℕ → ℕ → List Fault
loop_section_faults file at samples =
    let count = byte_at file at in
    (length file ends_before at + 1 says cut_in_loops)
    ∷ (count over most_loops says many_loops)
    ∷ (length file ends_before loops_end file at says cut_in_loops)
    ∷ (unless (loops_good samples (numbers_at (fours (2 * count)) file (at + 1))) says bad_loop)
    ∷ []

-- behind the last section, which ends at `at`, nothing stands
abbrev pub end_faults : List ℕ → ℕ → List Fault
end_faults file at = (length file over at says more_bytes) ∷ []

-- a tag's own rules, none of which is ever broken without one, and the end
abbrev pub tag_section_faults : Cipher → List ℕ → ℕ → List Fault
tag_section_faults cipher file at =
    (length file ends_before at + tag_count cipher says bad_tag_section)
    ∷ (tag_count_in cipher file at unlike cipher.tag_bytes says bad_tag_section)
    ∷ (length file ends_before tag_end cipher at says bad_tag_section)
    ∷ end_faults file (tag_end cipher at)

-- A section's rules, and behind them those of the section that begins where it ends.
abbrev pub faults_from_loops : Cipher → List ℕ → ℕ → ℕ → List Fault
faults_from_loops cipher file at samples =
    loop_section_faults file at samples ++ tag_section_faults cipher file (loops_end file at)

unfoldable pub faults_from_samples : Cipher → List ℕ → ℕ → List Fault
faults_from_samples cipher file at =
    sample_section_faults file at ++ faults_from_loops cipher file (samples_end file at) (samples_in file at)

unfoldable pub faults_from_key : Cipher → List ℕ → ℕ → List Fault
faults_from_key cipher file at =
    key_section_faults cipher (own_count cipher) file at ++ faults_from_samples cipher file (key_end cipher at)

-- what a file can have wrong in itself, for one who has no keys
unfoldable pub file_faults : Cipher → List ℕ → List Fault
file_faults cipher file = name_section_faults file 0 ++ faults_from_key cipher file (name_end file 0)

-- and for one who has: its tag is the one that is due; without a tag both are 0
abbrev pub tag_faults : Cipher → List (List ℕ) → List ℕ → List Fault
tag_faults cipher ring file = (tag_in cipher file
    (tag_place cipher file) unlike tag_due cipher ring file says wrong_tag) ∷ []

unfoldable pub keyed_faults : Cipher → List (List ℕ) → List ℕ → List Fault
keyed_faults cipher ring file = file_faults cipher file ++ tag_faults cipher ring file

-- what the lent room can have wrong, if so much is needed
abbrev pub room_faults : ℕ → ℕ → List Fault
room_faults needed room = (needed over room says no_room) ∷ []

unfoldable pub open_faults : Cipher → List (List ℕ) → List ℕ → ℕ → List Fault
open_faults cipher ring file room = keyed_faults cipher ring file ++ room_faults (sample_count cipher file) room

-- Sealing: what the parts can have wrong in themselves, first the name.
abbrev pub part_name_faults : List ℕ → List Fault
part_name_faults name = (length name over most_name says long_name) ∷ (unless (name_good name) says bad_name) ∷ []

-- Of loops that are a run of odd length, the last has no end.
abbrev pub other_faults : Cipher → Parts → List Fault
other_faults cipher p =
    (length p.value unlike cipher.value_bytes says bad_value)
    ∷ (p.key_number over last_key says bad_key_number)
    ∷ (length p.samples over most_samples says many_samples)
    ∷ (unless (samples_good p.samples) says lowest_sample)
    ∷ (length p.loops over 2 * most_loops says many_loops)
    ∷ (length p.loops % 2 unlike 0 says many_loops)
    ∷ (unless (loops_good (length p.samples) p.loops) says bad_loop)
    ∷ []

-- `size` is the file's length
unfoldable pub seal_faults : Cipher → Parts → ℕ → ℕ → List Fault
seal_faults cipher p size room = part_name_faults p.name ++ (other_faults cipher p ++ room_faults size room)
