use Rattle.std.proofs.Common.{◌≡◌, length, sym, ◌∙◌, rules}
use Rattle.rows.proofs.Admits.{order_least, reference_least, limit_least, repeat_least, none_holds, tallied_push, leaves_told}
use Rattle.rows.proofs.tally.Tally.admit.Goals as goal

pub returns-then-not-in_order : goal.returns-then-not-in_order
returns-then-not-in_order c = record { least_fault_or_one_more = λ h fine. order_least _ _ _ _ h _ fine c.if-not-in_order.ensures.by_counts }

pub returns-then-not-refers_back : goal.returns-then-not-refers_back
returns-then-not-refers_back c = record {
  least_fault_or_one_more = λ h fine. reference_least _ _ _ _ h _ fine c.if-not-in_order.ensures.by_counts (sym c.if-not-refers_back.ensures.below_counts);
}

pub returns-then-not-has_place : goal.returns-then-not-has_place
returns-then-not-has_place c = record {
  least_fault_or_one_more = λ h fine.
      limit_least _ _ _ _ h _ fine c.if-not-in_order.ensures.by_counts (sym c.if-not-refers_back.ensures.below_counts)
      (λ p. c.if-not-has_place.ensures.by_counts (rw c.leaves_of-leaves.ensures.leaves_by_table p));
}

pub returns-then-repeats : goal.returns-then-repeats
returns-then-repeats c = record {
  least_fault_or_one_more = λ h fine.
      repeat_least _ _ _ _ h _ fine c.if-not-in_order.ensures.by_counts (sym c.if-not-refers_back.ensures.below_counts)
      (rw c.leaves_of-leaves.ensures.leaves_by_table at c.if-not-has_place.ensures.by_counts) c.if-repeats.ensures.listed;
}

pub returns : goal.returns
returns c = record {
  least_fault_or_one_more = λ h fine.
      let back = sym c.if-not-refers_back.ensures.below_counts in
      let told = c.leaves_of-leaves.ensures.leaves_by_table in
      let placed = c.if-not-has_place.ensures.by_counts in
      let long : length c.args.self.leaves ≡ 64 = search rules in (
        none_holds _ _ _ _ h _ fine c.if-not-in_order.ensures.by_counts back (rw told at placed) c.if-repeats.ensures.listed,
        rw (c.with.ensures.counts_one_more, c.with.ensures.keeps_leaves) (tallied_push _ _ _ _ h _ (told ∙ leaves_told _ _ _ c.args.row h c.args.row back) long placed.section_limit),
      );
}
