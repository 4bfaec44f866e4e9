use Rattle.std.proofs.Common.{vec_items, ap, ◌∙◌}
use Rattle.std.specs.List.{slice_get}
use Rattle.library.proofs.Held.{as_many, type_cases}
use Rattle.library.proofs.library.Library.types.Goals as goal

pub returns : goal.returns
returns c =
    let l = c.args.self.now in
    let known = vec_items l.term_types in
    let long = as_many (vec_items l.rows) known _ l.term_types.ok.0 l.all_typed in
    record { types_of_terms = λ t n e. type_cases (vec_items l.rows) l.well_typed known l.typed long t n (e ∙ ap (λ ks. slice_get ks t) c.deref.ensures.value) }
