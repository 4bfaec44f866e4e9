use Rattle.rules.proofs.Begun.{playable_is_never_stuck, playable_has_few_names}
use Rattle.rules.proofs.libraries_are_never_stuck.Goals as goal

pub returns : goal.returns
returns c = record { each_run_ends_or_goes_on = playable_is_never_stuck; few_names = playable_has_few_names }
