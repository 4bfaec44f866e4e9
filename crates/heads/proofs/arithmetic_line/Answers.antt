use Rattle.heads.proofs.Arithmetics.{arithmetic_allowed, only_arithmetic}
use Rattle.heads.proofs.arithmetic_line.Goals as goal

pub returns : goal.returns
returns c =
    let a = arithmetic_allowed c.args.line.now c.head_answer.result c.head_answer.ensures.answer_by_fields in
    record { answer = a; only_answer = only_arithmetic c.args.line.now c.head_answer.result a }
