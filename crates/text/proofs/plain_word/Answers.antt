-- A word with no minus is its own decimal.
use Rattle.std.proofs.Common.{Some}
use Rattle.text.proofs.Laws.{word_is}
use Rattle.text.proofs.Steps.{no_word, plain_none, plain_some}
use Rattle.text.proofs.plain_word.Goals as goal

pub returns-in_err-value : goal.returns-in_err-value
returns-in_err-value c =
    let none = plain_none c.args.field.now c.requires.no_minus c.in_err-value.ensures.written in
    let h = no_word c.args.field.now c.from_residual.result c.from_residual.ensures none in
    record { value = h.0; written = h.1 }

pub returns : goal.returns
returns c =
    let h = c.in_ok-value.ensures.written in
    let word = plain_some c.args.field.now c.in_ok-value.value h.0 h.1 in
    record { value = word_is c.args.field.now (Some _) word; written = word }
