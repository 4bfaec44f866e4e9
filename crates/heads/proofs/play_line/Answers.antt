use Rattle.heads.proofs.Plays.{play_allowed, only_play}
use Rattle.heads.proofs.play_line.Goals as goal

pub returns : goal.returns
returns c =
    let a = play_allowed c.args.line.now c.head_answer.result c.head_answer.ensures.answer_by_fields in
    record { answer = a; only_answer = only_play c.args.line.now c.head_answer.result a }
