-- The senders that are in rule (27).
use Rattle.std.specs.Prelude.{ℕ, Bool, true, ◌&&◌, leb, ltb}
use Rattle.blocks.specs.Blocks.{longest, blocks}
use Rattle.frames.specs.Frames.{some}
use Rattle.sender.specs.{declared.Phase.Phase, declared.Sender.Sender}
use Rattle.sender.specs.declared.Phase.TheVariants.{Idle, Opening, Sending, Done, Refused}

-- what a phase asks of session and length: one that isn't idle has a session, and what is known to be held isn't all
unfoldable pub phase_in_rule : ℕ → ℕ → Phase → Bool
phase_in_rule session length Idle = true
phase_in_rule session length Opening = some session
phase_in_rule session length (Sending known) = some session && ltb known (blocks length)
phase_in_rule session length Done = some session
phase_in_rule session length (Refused why) = some session

unfoldable pub sender_in_rule : Sender → Bool
sender_in_rule s = leb s.length longest && phase_in_rule s.session s.length s.phase
