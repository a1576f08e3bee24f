-- It hands on what the survey told.
use Rattle.std.proofs.Common.{ap}
use Rattle.pack.specs.Answers.{Opened}
use Rattle.survey_bytes.specs.Calls.{pack_lacks}
use Rattle.survey_bytes.proofs.lacks.Goals as goal

pub returns-in-Ok : goal.returns-in-Ok
unfolding pack_lacks
returns-in-Ok c = ap (λ (o : Opened). o.lacks) c.in-Ok.ensures

pub returns-in-Err : goal.returns-in-Err
unfolding pack_lacks
returns-in-Err c = ap (λ (o : Opened). o.lacks) c.in-Err.ensures
