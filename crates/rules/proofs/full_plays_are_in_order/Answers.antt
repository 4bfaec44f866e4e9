use Rattle.rules.proofs.Distinct.{full_plays_are_in_order}
use Rattle.rules.proofs.full_plays_are_in_order.Goals as goal

pub returns : goal.returns
returns c = record { in_order_without_repetition = full_plays_are_in_order }
