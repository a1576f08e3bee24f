-- What a caller of `surveyor::survey` knows: a refused file's number comes before any room is looked at, and with none
-- the room that is needed decides.
use mathlib.Core.{List.List, List.◌++◌, Path.◌≡◌, Path.refl, Path.sym, Path.◌∙◌}
use Prim.Native.Nat.{ℕ, ◌+◌, ◌*◌, ◌<◌, ◌≤◌}
use native.Mathlib.Omega.{arith}
use lib.ListN.{length}
use Rattle.std.specs.Prelude.{Ok, Err}
use Rattle.refusals.specs.{Numbers.accepted, Numbers.no_room, Answers.number_of, Rules.first, declared.Flaw.Flaw}
use Rattle.refusals.proofs.Faults.{all_right, refused_at}
use Rattle.refusals.proofs.{Answers.never_accepted, Settled.first_here, Settled.first_later}
use Rattle.pack.specs.{Answers.opening_of, Calls.accepted_opening, Calls.lacks_of, Calls.surveying, Calls.surveying_file}
use Rattle.pack.specs.{Ciphers.cipher_in, Places.loops_place, Places.loop_count, Faults.file_faults, Faults.room_faults}
use Rattle.pack.specs.declared.Opened as code
use Rattle.pack.proofs.{AcceptedFiles.loop_right, Theorems.file_numbered, Theorems.file_right}
use Rattle.pack.proofs.Answers.{ok_first, ok_done, err_first}
use Rattle.survey_bytes.specs.Calls.{loop_numbers}

module _ (file : List ℕ) where
  pub refused_first : (needed room : ℕ) (flaw : Flaw) → opening_of (Err flaw) ≡ surveying_file file
      → number_of flaw.refusal ≡ first (file_faults (cipher_in file) file ++ room_faults needed room)
  unfolding surveying
  refused_first needed room flaw e =
      first_here (file_faults (cipher_in file) file) _ (file_numbered (cipher_in file) file) _ (never_accepted flaw.refusal)
      (err_first (file_faults (cipher_in file) file) (accepted_opening (cipher_in file) file) (lacks_of (cipher_in file) file)
      refl (Err flaw) e refl)

  module _ (opened : code.Opened) (e : opening_of (Ok opened) ≡ surveying_file file) where
    passed : accepted ≡ first (file_faults (cipher_in file) file)
    unfolding surveying
    passed =
        ok_first (file_faults (cipher_in file) file) (accepted_opening (cipher_in file) file) (lacks_of (cipher_in file) file)
        refl (Ok opened) e refl

    pub all_told : opening_of (Ok opened) ≡ accepted_opening (cipher_in file) file
    unfolding surveying
    all_told =
        ok_done (file_faults (cipher_in file) file) (accepted_opening (cipher_in file) file) (lacks_of (cipher_in file) file)
        refl (Ok opened) e refl

    -- the loops of an accepted file are all there, and few
    pub loops_there : (loops_place (cipher_in file) file + 4 * loop_numbers file ≤ length file)
        × (loop_count (cipher_in file) file ≤ 8)
    loops_there =
        let right = loop_right (cipher_in file) file (file_right (cipher_in file) file (sym passed)) in omega arith

    module _ (needed room : ℕ) where
      then_room : first (room_faults needed room) ≡ first (file_faults (cipher_in file) file ++ room_faults needed room)
      then_room = first_later (file_faults (cipher_in file) file) _ (file_numbered (cipher_in file) file) passed

      pub short_next : room < needed → no_room ≡ first (file_faults (cipher_in file) file ++ room_faults needed room)
      short_next h = refused_at 0 (room_faults needed room) h ∙ then_room

      pub fits_then : needed ≤ room → accepted ≡ first (file_faults (cipher_in file) file ++ room_faults needed room)
      fits_then h = all_right (room_faults needed room) (h, tt) ∙ then_room
