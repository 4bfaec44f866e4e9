use Rattle.std.proofs.Common.{◌≡◌, ◌+◌, length, take, Ok, None, Some, sym, subst, arith, rules, of_calls}
use Rattle.std.proofs.lemmas.Result.{err_from_is_err_and}
use Rattle.faults.specs.declared.Placed.{Placed}
use Rattle.faults.specs.declared.TextFault.{TextFault}
use Rattle.faults.specs.declared.TextFault.TheVariants.{Form}
use Rattle.reader.specs.Text.{Reads}
use Rattle.reader.proofs.Cutting.{ended_line, unended_line}
use Rattle.reader.proofs.Lines.{unended_least}
use Rattle.reader.proofs.Progress.{Admits, Refuses, mapped_ok, mapped_err, inside, one_more, all_rows, refused, granted}
use Rattle.reader.proofs.Unique.{only_answer}
use Rattle.reader.proofs.read.Goals as goal

pub returns-in_err-body : goal.returns-in_err-body
returns-in_err-body c =
    let s = c.in-Some.ensures.steps in
    let h = rw (← s.1) at c.loop-count.invariant in
    let none : c.strip_suffix.result ≡ None = search rules in
    let rest = unended_line c.in-Some.line.now s.0 (λ a r f k. search (rules, of_calls)) (rw none at c.strip_suffix.ensures.cases) in
    let placed : Placed TextFault = c.in_err-body.field-0.0 in
    let same : placed ≡ record { place = c.in-Some.count + 1; fault = Form } = search (rules, of_calls) in
    let told = refused _ _ _ _ _ _ _ h c.if-text-gt-MOST_BYTES.false _ _ rest.0 _ (unended_least _ _ _ rest.1) in
    let answer = only_answer _ _ _ _ _ _ told (all_rows _ _ _ _ _ _ _ h) in
    let p = err_from_is_err_and c.from_residual.result c.from_residual.ensures.1 in
    rw (p.1, p.2, same) (record { answer_and_rows = answer.0; no_other_answer = answer.1 })

pub next_row-requires : goal.next_row-requires
next_row-requires c =
    let s = c.in-Some.ensures.steps in
    let some : c.strip_suffix.result ≡ Some c.in_ok-body.body = search rules in
    let line = ended_line c.in-Some.line.now c.in_ok-body.body s.0 (λ a r f k. search (rules, of_calls)) (rw some at c.strip_suffix.ensures.cases) in
    let h = rw (← s.1) at c.loop-count.invariant in
    record { one_line = line.2; tally_of_before = h.tallied }

pub returns-in_err-admitted : goal.returns-in_err-admitted
returns-in_err-admitted c =
    let s = c.in-Some.ensures.steps in
    let h = rw (← s.1) at c.loop-count.invariant in
    let some : c.strip_suffix.result ≡ Some c.in_ok-body.body = search rules in
    let line = ended_line c.in-Some.line.now c.in_ok-body.body s.0 (λ a r f k. search (rules, of_calls)) (rw some at c.strip_suffix.ensures.cases) in
    let body = c.in_ok-body.body.now in
    let placed : Placed TextFault = c.in_err-admitted.field-0.0 in
    let least = mapped_err _ (Admits c.in-Some.count c.loop-count.rows body) (Refuses c.in-Some.count c.loop-count.rows body) _ placed c.next_row.ensures.least_fault_or_row c.map_err.ensures.cases c.in_err-admitted.was in
    let same : placed ≡ record { place = c.in-Some.count + 1; fault = least.0 } = let k = least.1 in search (rules, of_calls) in
    let told = refused _ _ _ _ _ _ _ h c.if-text-gt-MOST_BYTES.false _ _ line.0 _ least.2 in
    let answer = only_answer _ _ _ _ _ _ told (all_rows _ _ _ _ _ _ _ h) in
    let p = err_from_is_err_and c.from_residual-in_err-admitted.result c.from_residual-in_err-admitted.ensures.1 in
    rw (p.1, p.2, same) (record { answer_and_rows = answer.0; no_other_answer = answer.1 })

pub bounds-rows-count : goal.bounds-rows-count
bounds-rows-count c =
    let told = mapped_ok _ (Admits c.in-Some.count c.loop-count.rows c.in_ok-body.body.now) (Refuses c.in-Some.count c.loop-count.rows c.in_ok-body.body.now) _ c.in_ok-admitted.admitted c.next_row.ensures.least_fault_or_row c.map_err.ensures.cases c.in_ok-admitted.was in
    inside _ _ _ c.in_ok-admitted.admitted told

pub loop-count-preserved : goal.loop-count-preserved
loop-count-preserved c =
    let s = c.in-Some.ensures.steps in
    let h = rw (← s.1) at c.loop-count.invariant in
    let some : c.strip_suffix.result ≡ Some c.in_ok-body.body = search rules in
    let line = ended_line c.in-Some.line.now c.in_ok-body.body s.0 (λ a r f k. search (rules, of_calls)) (rw some at c.strip_suffix.ensures.cases) in
    let body = c.in_ok-body.body.now in
    let told = mapped_ok _ (Admits c.in-Some.count c.loop-count.rows body) (Refuses c.in-Some.count c.loop-count.rows body) _ c.in_ok-admitted.admitted c.next_row.ensures.least_fault_or_row c.map_err.ensures.cases c.in_ok-admitted.was in
    let next : c.next.new.self.count ≡ c.in-Some.count + 1 = omega (arith, s.1, s.2) in
    rw next (one_more _ _ _ _ _ _ _ h _ _ line.1 c.in_ok-admitted.admitted told)

pub returns : goal.returns
returns c =
    let h = c.loop-count.invariant in
    let s = c.in-None.ensures.steps in
    let told = subst (λ k. Reads (length c.args.rows.now) c.args.text.now (Ok k) (take c.loop-count.count-iterator.count c.loop-count.rows)) (sym c.counts.ensures.counts_of_tally) (granted _ _ _ _ _ _ _ h c.if-text-gt-MOST_BYTES.false s.0.0) in
    let answer = only_answer _ _ _ _ _ _ told (all_rows _ _ _ _ _ _ _ h) in
    record { answer_and_rows = answer.0; no_other_answer = answer.1 }
