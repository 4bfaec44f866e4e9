use Rattle.std.proofs.Common.{◌≡◌, Ok, vec_items, sym, ap, ◌∙◌, subst}
use Rattle.rows.specs.declared.forms.Section.TheVariants.{Terms}
use Rattle.rows.specs.Sections.{count}
use Rattle.rows.specs.Tallies.{CountsOf}
use Rattle.library.specs.Inference.{LeavesBy, Sectioned, TypedBy}
use Rattle.library.specs.Mounting.{WellTyped}
use Rattle.library.proofs.Sorted.{count_length, sectioned}
use Rattle.library.proofs.Trials.{answered, answered_exit}
use Rattle.library.proofs.Unique.{one_type}
use Rattle.library.proofs.mounting.drafted.Goals as goal

pub invariant_of-listing : goal.invariant_of-listing
invariant_of-listing c =
    let given = c.in_ok-tally.ensures.tally_or_first_fault in
    record { sectioned = subst (Sectioned c.args.rows.now) (sym c.counts.ensures.counts_of_tally) (sectioned c.args.rows.now given.0 _ given.1.counts) }

pub invariant_of-result : goal.invariant_of-result
invariant_of-result c =
    let given = c.in_ok-tally.ensures.tally_or_first_fault in
    let types = c.in_ok-term_types.ensures.types_or_first_fault in
    let same : vec_items c.in_ok-to_vec.field-0 ≡ c.args.rows.now = c.in_ok-to_vec.ensures.items_if_clones_equal (λ x y e. e) in
    record {
      well_typed = subst WellTyped (sym same) types.2;
      counted = subst (λ rs. CountsOf rs c.in_ok-tally.tally.counts) (sym same) given.1.counts;
      leaves = subst (λ rs. LeavesBy rs c.in_ok-tally.tally.leaves) (sym same) given.1.type_leaves;
      typed = subst (λ rs. TypedBy rs (vec_items c.in_ok-term_types.term_types)) (sym same) types.0;
      all_typed = c.in_ok-term_types.term_types.ok.0 ∙ types.1 ∙ sym (count_length Terms c.args.rows.now) ∙ ap (count Terms) (sym same);
    }

pub returns : goal.returns
returns c =
    let types = c.in_ok-term_types.ensures.types_or_first_fault in
    record { library_or_first_fault = (c.in_ok-to_vec.ensures.items_if_clones_equal (λ x y e. e), answered c.args.rows.now (Ok tt) types.2, types.3); one_type_each = one_type }

pub returns-in_err-tally : goal.returns-in_err-tally
returns-in_err-tally c = record { library_or_first_fault = answered_exit c.args.rows.now _ _ _ c.from_residual.ensures.1 c.in_err-tally.ensures.tally_or_first_fault; one_type_each = one_type }

pub returns-in_err-term_types : goal.returns-in_err-term_types
returns-in_err-term_types c =
    record { library_or_first_fault = answered_exit c.args.rows.now _ _ _ c.from_residual-in_err-term_types.ensures.1 c.in_err-term_types.ensures.types_or_first_fault; one_type_each = one_type }

pub returns-in_err-to_vec-clause-one_type_each : goal.returns-in_err-to_vec-clause-one_type_each
returns-in_err-to_vec-clause-one_type_each c = one_type
