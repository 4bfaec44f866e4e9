use Rattle.std.proofs.Common.{◌+◌, rules}
use Rattle.std.proofs.lemmas.Result.{MatchResult-at_err, err_from_is_err_and}
use Rattle.faults.specs.declared.TextFault.{TextFault}
use Rattle.faults.specs.declared.LibraryFault.TheVariants.{Text}
use Rattle.library.specs.declared.refusal.MountFault.{MountFault}
use Rattle.library.specs.declared.refusal.MountFault.TheVariants.{Refused}
use Rattle.library.proofs.Mapped.{Mapped, mapped_err}
use Rattle.library.proofs.Steps.{blank, place_few, text_refused}
use Rattle.library.proofs.admitting.admit_all.Goals as goal

pub map_err-requires : goal.map_err-requires
map_err-requires c = λ fault is held ended _. place_few c.args.rows.now c.loop-place.place c.loop-place.auto.place-end c.loop-place.invariant.0

pub returns-in_err-tally : goal.returns-in_err-tally
returns-in_err-tally c =
    let p = err_from_is_err_and c.from_residual.result c.from_residual.ensures.1 in
    let turned : TextFault → MountFault = λ fault. Refused (record { place = c.loop-place.place + 1; fault = Text fault }) in
    let told : Mapped c.admit.result turned c.map_err.result = search rules in
    let first = mapped_err turned _ _ told c.in_err-tally.field-0.0 c.in_err-tally.was in
    rw (p.1, p.2) (record { tally_or_first_fault = text_refused c.args.rows.now c.loop-place.place blank c.loop-place-test.true c.loop-place.invariant.0 first.0 (MatchResult-at_err _ _ first.0 first.1 c.admit.ensures.least_fault_or_one_more) _ first.2 })
