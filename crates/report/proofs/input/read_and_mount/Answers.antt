use Rattle.std.proofs.Common.{◌≡◌, Ok, length, rules, subst}
use Rattle.std.proofs.lemmas.Result.{err_from_is_err_and}
use Rattle.reader.specs.Text.{Reads}
use Rattle.report.proofs.Libraries.{refused_by_mounting}
use Rattle.report.proofs.input.read_and_mount.Goals as goal

pub returns-in_err-mount : goal.returns-in_err-mount
returns-in_err-mount c =
    let p = err_from_is_err_and c.from_residual-in_err-mount.result c.from_residual-in_err-mount.ensures.1 in
    let given : c.read.result ≡ Ok c.in_ok-counts.counts = search rules in
    let read = c.read.ensures.answer_and_rows in
    let reads = subst (λ room. Reads room c.args.text.now (Ok c.in_ok-counts.counts) read.0) c.requires.enough_rows (subst (λ answer. Reads (length c.args.rows.now) c.args.text.now answer read.0) given read.1) in
    let told = refused_by_mounting c.args.text.now c.in_ok-counts.counts read.0 c.read.new.rows c.args.rows.now c.row_count.result c.in_err-mount.field-0.0 reads read.2 c.row_count.ensures.all_sections c.in_err-mount.ensures.answer in
    rw (p.1, p.2) (record { counts_or_first_fault = told.0; near_rows = told.1 })
