use Rattle.std.proofs.Common.{vec_items, sym, subst}
use Rattle.library.specs.Inference.{Sectioned}
use Rattle.library.proofs.Held.{as_many, faultless_of, sound_definitions}
use Rattle.library.proofs.Sorted.{sectioned}
use Rattle.library.proofs.library.Library.listing.Goals as goal

pub invariant_of-result : goal.invariant_of-result
invariant_of-result c =
    let l = c.args.self.now in
    let rows = vec_items l.rows in
    let sorted = sectioned rows (faultless_of rows l.well_typed) l.tally.counts l.counted in
    record { sectioned = subst (λ rs. Sectioned rs c.counts.result) (sym c.deref.ensures.value) (subst (Sectioned rows) (sym c.counts.ensures.counts_of_tally) sorted) }

pub returns : goal.returns
returns c =
    let l = c.args.self.now in
    let rows = vec_items l.rows in
    let known = vec_items l.term_types in
    let long = as_many rows known _ l.term_types.ok.0 l.all_typed in
    record {
      same_rows = c.deref.ensures.value;
      well_typed = l.well_typed;
      sound_definitions = sound_definitions rows l.well_typed known l.typed long;
    }
