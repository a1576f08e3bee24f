-- What a call comes to that writes to a lent buffer and tells how much: its number, the buffer and the count
-- afterwards.
use Rattle.std.specs.Prelude.{ℕ, List}

pub record Written : Type 0 where
  pub number : ℕ
  pub buffer : List ℕ
  pub count : ℕ

abbrev pub wrote : List ℕ → ℕ → ℕ → Written
wrote buffer count number = record { number = number; buffer = buffer; count = count }
