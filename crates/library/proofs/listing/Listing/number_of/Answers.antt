use Rattle.std.proofs.Common.{◌≡◌, ◌≤◌, length, Some, arith, rules, tests}
use Rattle.std.proofs.lemmas.Iterator.{first_from_Range}
use Rattle.rows.specs.declared.forms.Section.TheVariants.{Types}
use Rattle.library.specs.Listing.{section_rows, type_form_at}
use Rattle.library.proofs.Lists.{first_of_section}
use Rattle.library.proofs.listing.Listing.number_of.Goals as goal

pub returns : goal.returns
returns c =
    let rows = c.args.self.rows.now in
    let form = c.args.form in
    let all : length (section_rows Types rows) ≤ c.args.self.counts.types = omega (arith, c.args.self.sectioned.counts Types) in
    let first = first_from_Range _ _ _ c.find.result (λ k. type_form_at rows k ≡ Some form) (λ k. type_form_at rows k ≡ Some form → ⊥) c.find.ensures.ran (λ k q called. search (rules, tests)) (λ k q called. search (rules, tests)) in
    record { number_of_type = first_of_section form (section_rows Types rows) c.args.self.counts.types c.find.result all first }
