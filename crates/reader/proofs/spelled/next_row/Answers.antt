use Rattle.std.proofs.lemmas.Result.{err_from_is_err_and}
use Rattle.reader.proofs.Lines.{spells_found, form_holds, line_least, spelled_least}
use Rattle.reader.proofs.spelled.next_row.Goals as goal

pub returns : goal.returns
returns c =
    let told = c.in_ok-row.ensures.by_fields in
    let spelled = spells_found c.args.line.now c.requires.one_line c.in_ok-row.row told.1 in
    let kept = c.in_ok-tally.ensures.least_fault_or_one_more c.requires.tally_of_before spelled.in_range in
    record { least_fault_or_row = (spelled, kept.0, kept.1) }

pub returns-in_err-row : goal.returns-in_err-row
returns-in_err-row c =
    let p = err_from_is_err_and c.from_residual.result c.from_residual.ensures.1 in
    rw (p.1, p.2) (record { least_fault_or_row = spelled_least c.args.line.now c.requires.one_line c.args.room c.args.before.now _ c.in_err-row.ensures.by_fields })

pub returns-in_err-tally : goal.returns-in_err-tally
returns-in_err-tally c =
    let p = err_from_is_err_and c.from_residual-in_err-tally.result c.from_residual-in_err-tally.ensures.1 in
    let told = c.in_ok-row.ensures.by_fields in
    let body = c.args.line.now in
    let spelled = spells_found body c.requires.one_line c.in_ok-row.row told.1 in
    rw (p.1, p.2) (record {
      least_fault_or_row =
          line_least body c.requires.one_line c.args.room c.args.before.now (form_holds body c.requires.one_line told.0) c.in_ok-row.row told.1 _
          (c.in_err-tally.ensures.least_fault_or_one_more c.requires.tally_of_before spelled.in_range);
    })
