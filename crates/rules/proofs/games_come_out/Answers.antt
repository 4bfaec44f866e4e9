use Rattle.rules.proofs.Verdicts.{games_come_out, verdict_is_right}
use Rattle.rules.proofs.games_come_out.Goals as goal

pub returns : goal.returns
returns c = record { safe_or_lost = games_come_out; verdict_is_right = verdict_is_right }
