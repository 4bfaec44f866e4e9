use Rattle.rules.proofs.Exact.{takes_the_steps, one_step}
use Rattle.rules.proofs.steps_are_determined.Goals as goal

pub returns : goal.returns
returns c = record { takes_the_steps = takes_the_steps; one_step = one_step }
