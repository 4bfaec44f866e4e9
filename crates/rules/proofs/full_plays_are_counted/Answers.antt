use Rattle.rules.proofs.OneWay.{order_goes_one_way}
use Rattle.rules.proofs.Ordered.{full_plays_have_a_list}
use Rattle.rules.proofs.Ranges.{full_plays_are_counted}
use Rattle.rules.proofs.full_plays_are_counted.Goals as goal

pub returns : goal.returns
returns c = record { one_way = order_goes_one_way; all_in_order = full_plays_have_a_list; counted_by_place = full_plays_are_counted }
