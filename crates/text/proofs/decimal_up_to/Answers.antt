-- A number is read just where its value is at most the limit, since a number has one decimal.
use Rattle.std.proofs.Common.{◌<◌, ◌≤◌, Some, None, arith}
use Rattle.text.proofs.Steps.{larger_up_to, none_up_to, number_at_limit}
use Rattle.text.proofs.decimal_up_to.Goals as goal

pub returns-in_err-value : goal.returns-in_err-value
returns-in_err-value c =
    let h = none_up_to c.args.limit c.args.field.now c.from_residual.result (omega (arith, c.ranges.limit.fits)) c.from_residual.ensures c.in_err-value.ensures.written in
    record { written = h; number_at_its_limit = number_at_limit c.args.limit c.args.field.now c.from_residual.result h }

pub returns-then-value-from : goal.returns-then-value-from
returns-then-value-from c =
    let low : c.in_ok-value.value ≤ c.args.limit = omega (arith, c.if-value-from.true, c.from.ensures) in
    let h = c.in_ok-value.ensures.written in
    record { written = (low, h.1); number_at_its_limit = number_at_limit c.args.limit c.args.field.now (Some c.in_ok-value.value) (low, h.1) }

pub returns-else-value-from : goal.returns-else-value-from
returns-else-value-from c =
    let more : c.args.limit < c.in_ok-value.value = omega (arith, c.if-value-from.false, c.from.ensures) in
    let h = c.in_ok-value.ensures.written in
    let none = larger_up_to c.args.limit c.in_ok-value.value c.args.field.now more h.0 h.1 in
    record { written = none; number_at_its_limit = number_at_limit c.args.limit c.args.field.now None none }
