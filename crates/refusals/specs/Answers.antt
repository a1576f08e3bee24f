-- What document 01 has a call answer: a number, 0 where the call isn't refused, and values. The code answers an Ok or an
-- Err; here is what either stands for.
use Rattle.std.specs.Prelude.{ℕ, Result, Ok, Err}
use Rattle.refusals.specs.{declared.Refusal.Refusal, declared.Flaw.Flaw}
use Rattle.refusals.specs.Numbers.{accepted, bad_key, bad_value, not_a_cipher, long_name, bad_name, bad_key_count}
use Rattle.refusals.specs.Numbers.{bad_key_number, many_samples, many_loops, bad_loop, more_bytes, no_room}
use Rattle.refusals.specs.Numbers.{no_session, long_sound, no_transfer, wrong_sound, not_a_frame, other_session}
use Rattle.refusals.specs.Numbers.{impossible, out_of_rule, cut_in_name, cut_in_key, cut_in_samples, cut_in_loops}
use Rattle.refusals.specs.Numbers.{lowest_sample, odd_samples, other_length, outside_window, wrong_tag}
use Rattle.refusals.specs.Numbers.{bad_tag_section}
use Rattle.refusals.specs.declared.Refusal.TheVariants.{BadKey, BadValue, NotACipher, LongName, BadName, BadKeyCount}
use Rattle.refusals.specs.declared.Refusal.TheVariants.{BadKeyNumber, ManySamples, ManyLoops, BadLoop, MoreBytes}
use Rattle.refusals.specs.declared.Refusal.TheVariants.{NoRoom, NoSession, LongSound, NoTransfer, WrongSound}
use Rattle.refusals.specs.declared.Refusal.TheVariants.{NotAFrame, OtherSession, Impossible, OutOfRule, CutInName}
use Rattle.refusals.specs.declared.Refusal.TheVariants.{CutInKey, CutInSamples, CutInLoops, LowestSample, OddSamples}
use Rattle.refusals.specs.declared.Refusal.TheVariants.{OtherLength, OutsideWindow, WrongTag, BadTagSection}
use Rattle.refusals.specs.Rules.{Verdict, verdict_of}

-- the number of each refusal
abbrev pub number_of : Refusal → ℕ
number_of BadKey = bad_key
number_of BadValue = bad_value
number_of NotACipher = not_a_cipher
number_of LongName = long_name
number_of BadName = bad_name
number_of BadKeyCount = bad_key_count
number_of BadKeyNumber = bad_key_number
number_of ManySamples = many_samples
number_of ManyLoops = many_loops
number_of BadLoop = bad_loop
number_of MoreBytes = more_bytes
number_of NoRoom = no_room
number_of NoSession = no_session
number_of LongSound = long_sound
number_of NoTransfer = no_transfer
number_of WrongSound = wrong_sound
number_of NotAFrame = not_a_frame
number_of OtherSession = other_session
number_of Impossible = impossible
number_of OutOfRule = out_of_rule
number_of CutInName = cut_in_name
number_of CutInKey = cut_in_key
number_of CutInSamples = cut_in_samples
number_of CutInLoops = cut_in_loops
number_of LowestSample = lowest_sample
number_of OddSamples = odd_samples
number_of OtherLength = other_length
number_of OutsideWindow = outside_window
number_of WrongTag = wrong_tag
number_of BadTagSection = bad_tag_section

-- the number of an answer
abbrev pub number_in : {A : Type 0} → Result A Refusal → ℕ
number_in (Ok a) = accepted
number_in (Err refusal) = number_of refusal

-- an answer that is a number and a record
pub record Answer (R : Type 0) : Type 0 where
  pub refusal : ℕ
  pub next : R

abbrev pub answer : {R : Type 0} → ℕ → R → Answer R
answer number r = record { refusal = number; next = r }

-- what an Ok or an Err stands for, where a refused call leaves this record
abbrev pub answer_or : {R : Type 0} → R → Result R Refusal → Answer R
answer_or left (Ok next) = answer accepted next
answer_or left (Err refusal) = answer (number_of refusal) left

-- a flaw in a file that doesn't break off
abbrev pub lacking_nothing : Refusal → Flaw
lacking_nothing refusal = record { refusal = refusal; lacks = 0 }

-- what an Ok or an Err says of a file's rules
abbrev pub verdict_in : {A : Type 0} → Result A Flaw → Verdict
verdict_in (Ok a) = verdict_of accepted 0
verdict_in (Err flaw) = verdict_of (number_of flaw.refusal) flaw.lacks
