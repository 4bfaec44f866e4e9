use Rattle.rules.proofs.Endings.{playable_comes_to_an_end}
use Rattle.rules.proofs.plays_come_to_an_end.Goals as goal

pub returns : goal.returns
returns c = record { each_run_comes_to_an_end = playable_comes_to_an_end }
