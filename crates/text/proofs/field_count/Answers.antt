-- One field more than there are commas, each of which counts for one.
use Rattle.std.proofs.Common.{◌≡◌, ◌==◌, ◌^◌, ◌<◌, ◌≤◌, length, arith, rules}
use Rattle.std.specs.List.{count_by}
use Rattle.std.proofs.lemmas.Iterator.{YieldsList-from_slice}
use Rattle.std.proofs.lemmas.Iterator.Adapters.{fits_from_length, at_most_from_yields_List}
use Rattle.std.proofs.lemmas.List.Sums.{count_by-le-length}
use Rattle.text.proofs.Steps.{length_cut}
use Rattle.text.proofs.field_count.Goals as goal

pub sum-requires-clause-fits : goal.sum-requires-clause-fits
sum-requires-clause-fits c =
    let few : length c.args.bytes.now ≤ 2 ^ 63 = search rules in
    fits_from_length _ _ (2 ^ 63) (2 ^ 64) (at_most_from_yields_List (YieldsList-from_slice c.args.bytes.now cc) few) c.map.ensures.closure (omega arith) (λ x r q k. search rules)

pub overflow_add-result : goal.overflow_add-result
overflow_add-result c =
    let few : length c.args.bytes.now < 2 ^ 63 = search rules in
    let commas : c.sum.result ≡ count_by (λ b. b == 44) c.args.bytes.now = search rules in
    let fewer : count_by (λ b. b == 44) c.args.bytes.now ≤ length c.args.bytes.now = count_by-le-length (λ b. b == 44) c.args.bytes.now in
    omega (arith, few, commas, fewer)

pub returns : goal.returns
returns c =
    let commas : c.sum.result ≡ count_by (λ b. b == 44) c.args.bytes.now = search rules in
    record { number_of_fields = omega (arith, commas, length_cut c.args.bytes.now) }
