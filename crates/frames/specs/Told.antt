-- What the code keeps of a frame that it heard: its numbers. A block's bytes stay in the message, from its byte 8 on.
use Rattle.std.specs.Prelude.{ℕ, List, length, Option, Some, None, if◌then◌else◌, ◌==◌}
use Rattle.frames.specs.Frames.{opening, block, holds, too_long, Heard, it, no_frame}
use Rattle.frames.specs.declared.{Told.Told, FrameKind.FrameKind}
use Rattle.frames.specs.declared.Told.TheVariants as the_told
use Rattle.frames.specs.declared.FrameKind.TheVariants as the_kind

-- the first byte of a frame, and the frame's kind by its first byte
abbrev pub kind_number : FrameKind → ℕ
kind_number the_kind.Opening = 1
kind_number the_kind.Block = 2
kind_number the_kind.Holds = 3
kind_number the_kind.TooLong = 4

abbrev pub kind_of : ℕ → Option FrameKind
kind_of byte =
    if byte == 1 then Some the_kind.Opening
    else (if byte == 2 then Some the_kind.Block
    else (if byte == 3 then Some the_kind.Holds
    else (if byte == 4 then Some the_kind.TooLong
    else None)))

abbrev pub told : Heard → Option Told
told no_frame = None
told (it (opening session sound)) = Some (the_told.Opening session sound)
told (it (block session k run)) = Some (the_told.Block session k (length run))
told (it (holds session held)) = Some (the_told.Holds session held)
told (it (too_long session)) = Some (the_told.TooLong session)

-- and back again, with a block's bytes
abbrev pub heard_as : List ℕ → Option Told → Heard
heard_as run None = no_frame
heard_as run (Some (the_told.Opening session sound)) = it (opening session sound)
heard_as run (Some (the_told.Block session k n)) = it (block session k run)
heard_as run (Some (the_told.Holds session held)) = it (holds session held)
heard_as run (Some (the_told.TooLong session)) = it (too_long session)
