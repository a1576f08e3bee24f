-- The receivers that are in rule (27).
use Rattle.std.specs.Prelude.{Bool, ◌&&◌, ◌||◌, leb, eqb}
use Rattle.blocks.specs.Blocks.{longest, blocks}
use Rattle.frames.specs.Frames.{some}
use Rattle.receiver.specs.declared.Receiver.{Receiver}

-- with no session yet there is no length and no count, and no more blocks are held than there are
unfoldable pub receiver_in_rule : Receiver → Bool
receiver_in_rule r =
    leb r.length longest
    && ((some r.session || (eqb r.length 0 && eqb r.count 0)) && leb r.count (blocks r.length))
