use Rattle.rules.proofs.Computed.{spelled, worked}
use Rattle.rules.proofs.worked_plays_hold.Goals as goal

pub returns : goal.returns
returns c = record { spelled = spelled; worked = worked }
