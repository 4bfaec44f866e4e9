use Rattle.std.proofs.Common.{◌≡◌, ◌<◌, length, vec_items, sym, ap, ◌∙◌, subst, arith}
use Rattle.library.specs.Facts.{type_numbers}
use Rattle.library.specs.Inference.{TypedBy}
use Rattle.std.proofs.lemmas.Grind.{common_steps}
use Rattle.library.proofs.Sorted.{few_rows}
use Rattle.library.proofs.Granting.{found_through, granted_all, granted_definitions, refused_by}
use Rattle.library.proofs.listing.Listing.types_if_sound.Goals as goal

pub fault_of_row-requires : goal.fault_of_row-requires
fault_of_row-requires c =
    let inside : c.in-Some.place < length c.args.self.rows.now = grind (arith, common_steps) in
    record { few_rows = omega (arith, few_rows c.args.self.rows.now c.requires.faultless) }

pub returns-in-Some : goal.returns-in-Some
returns-in-Some c =
    let rows = c.args.self.rows.now in
    let found = found_through rows _ _ c.deref.ensures.value c.in_ok-facts.ensures.facts_or_first_fault in
    record { types_or_first_fault = refused_by rows c.requires.faultless _ _ found c.in-Some.place (sym c.in-Some.ensures.all_before_stand) _ (let told = c.into.ensures in rw told at c.fault_of_row.ensures.fault_at_line) }

pub returns : goal.returns
returns c =
    let rows = c.args.self.rows.now in
    let found = found_through rows _ _ c.deref.ensures.value c.in_ok-facts.ensures.facts_or_first_fault in
    let same : vec_items c.in_ok-type_numbers.field-0 ≡ type_numbers c.deref.result.now = c.in_ok-type_numbers.ensures.numbers in
    record {
      types_or_first_fault = (
        subst (TypedBy rows) (sym same) found.typed,
        ap length same ∙ found.long,
        granted_all rows c.requires.faultless _ _ found (sym c.in_default.ensures.all_before_stand),
        granted_definitions rows c.requires.faultless _ _ found (sym c.in_default.ensures.all_before_stand),
      );
    }
