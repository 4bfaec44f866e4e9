use Rattle.rules.proofs.Counts.{at_most_steps_moves}
use Rattle.rules.proofs.plays_are_bounded.Goals as goal

pub returns-clause-at_most_steps_moves : goal.returns-clause-at_most_steps_moves
returns-clause-at_most_steps_moves c = at_most_steps_moves
