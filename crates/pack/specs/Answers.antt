-- What document 01 has opening and sealing answer. The code answers an Ok or an Err; here is what either stands for.
use Rattle.std.specs.Prelude.{ℕ, Result, Ok, Err}
use Rattle.refusals.specs.{Numbers.accepted, Answers.number_of, declared.Refusal.Refusal, declared.Flaw.Flaw}
use Rattle.pack.specs.declared.Opened as code

-- What opening answers: `lacks` is how many bytes are missing of the section in which a file breaks off. A refused
-- answer has 0 for every other number.
pub record Opened : Type 0 where
  pub refusal : ℕ
  pub lacks : ℕ
  pub samples : ℕ
  pub key : ℕ
  pub loops : ℕ
  pub name_length : ℕ
  pub name_at : ℕ
  pub value_at : ℕ
  pub loops_at : ℕ

abbrev pub opening_of : Result code.Opened Flaw → Opened
opening_of (Ok opened) =
    record {
      refusal = accepted;
      lacks = 0;
      samples = opened.samples;
      key = opened.key;
      loops = opened.loops;
      name_length = opened.name_length;
      name_at = opened.name_at;
      value_at = opened.value_at;
      loops_at = opened.loops_at;
    }
opening_of (Err flaw) =
    record {
      refusal = number_of flaw.refusal;
      lacks = flaw.lacks;
      samples = 0;
      key = 0;
      loops = 0;
      name_length = 0;
      name_at = 0;
      value_at = 0;
      loops_at = 0;
    }

-- What sealing answers: the file's length, or 0 with a refusal.
pub record Sealed : Type 0 where
  pub refusal : ℕ
  pub length : ℕ

abbrev pub sealed_of : Result ℕ Refusal → Sealed
sealed_of (Ok length) = record { refusal = accepted; length = length }
sealed_of (Err refusal) = record { refusal = number_of refusal; length = 0 }
