use Rattle.std.proofs.Common.{Err, sym, ap, subst, ◌∙◌}
use Rattle.std.proofs.lemmas.Result.{IfOk-weaker}
use Rattle.report.specs.Input.{InputAnswer}
use Rattle.report.specs.Output.{answer_line}
use Rattle.report.specs.Results.{IfAnswered}
use Rattle.report.proofs.Inputs.{only_input}
use Rattle.report.proofs.report.Goals as goal
use Rattle.report.proofs.report.Goals.{in-Ok, in-Err-Refused}

pub returns : goal.returns
returns c =
    let told : InputAnswer c.args.input.now c.match-answer.answer = elim c.match-answer.branch [ in-Ok w ↦ rw w.answer-is w.in-Ok.ensures.answer | in-Err-Refused w ↦ rw w.answer-is (subst (λ fault. IfAnswered (Err fault) (InputAnswer c.args.input.now)) w.in-Err-Refused.field-0-is w.in-Err-Refused.ensures.answer) ] in
    record {
      line_of_the_answer = IfOk-weaker c.to_string.result _ _ (λ line e. (c.match-answer.answer, told, e)) c.to_string.ensures.ok;
      of_every_answer = IfOk-weaker c.to_string.result _ _ (λ line e other h. e ∙ ap answer_line (sym (only_input c.args.input.now c.match-answer.answer told other h))) c.to_string.ensures.ok;
    }
