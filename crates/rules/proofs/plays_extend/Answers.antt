use Rattle.rules.proofs.Extends.{plays_extend}
use Rattle.rules.proofs.plays_extend.Goals as goal

pub returns : goal.returns
returns c = record { each_play_extends_to_a_full_one = plays_extend }
