use Rattle.rules.proofs.Listed.{full_plays_are_listed}
use Rattle.rules.proofs.full_plays_are_listed.Goals as goal

pub returns : goal.returns
returns c = record { exactly_the_full_plays = full_plays_are_listed }
