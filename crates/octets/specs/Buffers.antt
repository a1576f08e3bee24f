-- Parts of a run, and runs placed in a lent buffer.
use Rattle.std.specs.Prelude.{ℕ, ◌+◌}
use mathlib.Core.{List.List, List.◌++◌, Bool.cond}
use lib.{Dec.leb, ListN.length, ListN.take, ListN.drop}

-- the n elements from `at`, or as many as are there
abbrev pub slice : {A : Type 0} → List A → ℕ → ℕ → List A
slice run at n = take n (drop at run)

-- the buffer with a run in its place from index `at`, and nothing else changed
unfoldable pub placed : {A : Type 0} → List A → ℕ → List A → List A
placed buffer at run = take at buffer ++ run ++ drop (at + length run) buffer

-- the same where the run has room there; otherwise nothing changes
unfoldable pub put : {A : Type 0} → List A → ℕ → List A → List A
put buffer at run = cond (leb (at + length run) (length buffer)) (placed buffer at run) buffer
