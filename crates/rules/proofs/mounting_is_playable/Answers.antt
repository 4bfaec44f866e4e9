use Rattle.rules.proofs.Mounting.{mounting_is_playable}
use Rattle.rules.proofs.mounting_is_playable.Goals as goal

pub returns : goal.returns
returns c = record { each_mounted_game_is_playable = mounting_is_playable }
