-- The bytes behind the minus are the decimal of the word's negation, which is not zero.
use Rattle.std.proofs.Common.{Some, None, arith}
use Rattle.text.proofs.Laws.{word_is}
use Rattle.text.proofs.Steps.{minus_none, minus_some, no_word, same_number}
use Rattle.text.proofs.negative_word.Goals as goal

pub returns-in_err-value : goal.returns-in_err-value
returns-in_err-value c =
    let none = minus_none c.args.digits.now (λ n more. c.in_err-value.ensures.written n) in
    let h = no_word _ c.from_residual.result c.from_residual.ensures none in
    record { value = h.0; written = h.1 }

pub returns-then-value-gt0 : goal.returns-then-value-gt0
returns-then-value-gt0 c =
    let h = c.in_ok-value.ensures.written in
    let word = minus_some c.args.digits.now c.in_ok-value.value c.if-value-gt0.true h.0 h.1 in
    record { value = word_is _ (Some _) word; written = word }

pub returns-else-value-gt0 : goal.returns-else-value-gt0
returns-else-value-gt0 c =
    let h = c.in_ok-value.ensures.written in
    let none =
    minus_none c.args.digits.now
    (λ n more k e. let same = same_number n c.in_ok-value.value c.args.digits.now (omega arith) (omega (arith, h.0)) e h.1 in omega (arith, c.if-value-gt0.false)) in
    record { value = word_is _ None none; written = none }
