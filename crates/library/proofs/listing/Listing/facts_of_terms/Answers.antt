use Rattle.std.proofs.Common.{◌≡◌, ◌+◌, ◌++◌, ◌∷◌, [], Some, Ok, Err, vec_items, sym, ap, ◌∙◌, subst, rules, arith}
use Rattle.std.specs.List.{slice_get}
use Rattle.std.proofs.lemmas.Option.{slice_get-get_or}
use Rattle.std.proofs.lemmas.Result.{err_from_is_err_and}
use Rattle.faults.specs.declared.TypingFault.{TypingFault}
use Rattle.faults.specs.declared.LibraryFault.TheVariants.{Typing}
use Rattle.rows.specs.declared.forms.Row.TheVariants.{Term}
use Rattle.library.specs.declared.facts.TermFacts.{TermFacts}
use Rattle.library.specs.Facts.{free_sets, type_numbers}
use Rattle.library.specs.Inference.{type_of}
use Rattle.library.specs.Scopes.{free_in}
use Rattle.library.specs.declared.refusal.MountFault.{MountFault}
use Rattle.library.specs.declared.refusal.MountFault.TheVariants.{Refused}
use Rattle.library.proofs.Mapped.{Mapped, mapped_err, mapped_ok}
use Rattle.library.proofs.Sorted.{few_rows}
use Rattle.library.proofs.Steps.{FoundSoFar, blank, found_refused, found_with, found_without}
use Rattle.library.proofs.listing.Listing.facts_of_terms.Goals as goal
use Rattle.library.proofs.listing.Listing.facts_of_terms.Goals.{in-Term+in_ok-type_number+in_ok-push, in_default}

pub map_err-requires : goal.map_err-requires
map_err-requires c = λ fault is held ended. omega (arith, few_rows c.args.self.rows.now c.requires.faultless, c.loop-place-test.true)

pub loop-place-preserved : goal.loop-place-preserved
loop-place-preserved c =
    let rows = c.args.self.rows.now in
    let i = c.loop-place.place in
    let known = vec_items c.loop-place.found in
    let here = slice_get-get_or rows i blank c.loop-place-test.true in
    elim c.match-row.branch [
      | in-Term+in_ok-type_number+in_ok-push w ↦
          let facts : TermFacts = record { type_number = w.in_ok-type_number.type_number; free = w.free_in-free.result } in
          let turned : TypingFault → MountFault = λ fault. Refused (record { place = i + 1; fault = Typing fault }) in
          let told : Mapped w.type_of.result turned w.map_err.result = search rules in
          let type : type_of rows (type_numbers known) w.in-Term.form ≡ Ok facts.type_number =
          ap (λ ks. type_of rows (type_numbers ks) w.in-Term.form) (sym w.deref.ensures.value) ∙ sym w.type_of.ensures.listed_type ∙ mapped_ok turned _ _ told facts.type_number w.in_ok-type_number.was in
          let set : facts.free.bits ≡ free_in (free_sets known) w.in-Term.form = w.free_in-free.ensures.set_of_term ∙ ap (λ ks. free_in (free_sets ks) w.in-Term.form) w.deref.ensures.value in
          let pushed : known ++ (facts ∷ []) ≡ vec_items c.match-row.found = sym (ap vec_items w.found-is ∙ w.in_ok-push.ensures.items) in
          subst (FoundSoFar rows (i + 1)) pushed (found_with rows c.requires.faultless i known c.loop-place.invariant w.in-Term.field-0 w.in-Term.form (here ∙ ap Some w.in-Term.is) facts type set)
      | in_default w ↦
          subst (FoundSoFar rows (i + 1)) (ap vec_items (sym w.found-is)) (found_without rows c.requires.faultless i known c.loop-place.invariant _ here (λ t form e. w.in_default.not-Term t form e))
    ]

pub returns-in_err-type_number : goal.returns-in_err-type_number
returns-in_err-type_number c =
    let rows = c.args.self.rows.now in
    let i = c.loop-place.place in
    let p = err_from_is_err_and c.from_residual.result c.from_residual.ensures.1 in
    let at : slice_get rows i ≡ Some (Term c.in-Term.field-0 c.in-Term.form) = slice_get-get_or rows i blank c.loop-place-test.true ∙ ap Some c.in-Term.is in
    let turned : TypingFault → MountFault = λ fault. Refused (record { place = i + 1; fault = Typing fault }) in
    let told : Mapped c.type_of.result turned c.map_err.result = search rules in
    let first = mapped_err turned _ _ told c.in_err-type_number.field-0.0 c.in_err-type_number.was in
    let found : type_of rows (type_numbers (vec_items c.loop-place.found)) c.in-Term.form ≡ Err first.0 =
    ap (λ ks. type_of rows (type_numbers ks) c.in-Term.form) (sym c.deref.ensures.value) ∙ sym c.type_of.ensures.listed_type ∙ first.1 in
    rw (p.1, p.2) (record { facts_or_first_fault = found_refused rows c.requires.faultless i (vec_items c.loop-place.found) c.loop-place.invariant c.in-Term.field-0 c.in-Term.form at first.0 found _ first.2 })
