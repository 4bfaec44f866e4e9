-- Bytes that are refused have not the shape of a decimal, and the digits that were read write the value.
use Rattle.std.proofs.Common.{◌≡◌, ℕ, true, false, length, get_or, sym, ◌∙◌, inl, inr, arith}
use Rattle.std.proofs.lemmas.Bool.{eqb-true, eqb-false}
use Rattle.text.proofs.Steps.{digits_end, digits_step, shape_of, value_bound}
use Rattle.std.specs.Char.{is_ascii_digit}
use Rattle.std.specs.Int.{IsInRange}
use Rattle.text.proofs.decimal_value.Goals as goal

read_digit : (b : ℕ) → is_ascii_digit b ≡ true → IsInRange 48 57 b
read_digit b h = grind arith

pub returns-then-is_empty : goal.returns-then-is_empty
returns-then-is_empty c =
    record {
      written =
          λ n h e.
          let s = shape_of c.args.field.now n h e in
          elim c.then-is_empty.either [
            | inl t ↦ omega (arith, s.some, eqb-true (length c.args.field.now) 0 (sym c.is_empty.ensures ∙ t))
            | inr t ↦ omega (arith, s.few, t.1)
          ];
    }

pub returns-then-field-gt1 : goal.returns-then-field-gt1
returns-then-field-gt1 c =
    record { written = λ n h e. let one = (shape_of c.args.field.now n h e).zero_alone c.if-field-eq48.true in omega arith }

pub returns-then-not-is_ascii_digit : goal.returns-then-not-is_ascii_digit
returns-then-not-is_ascii_digit c =
    record {
      written =
          λ n h e.
          let d = (shape_of c.args.field.now n h e).digit c.loop-digit.digit-index c.loop-digit-test.true in
          let no : is_ascii_digit (get_or c.args.field.now c.loop-digit.digit-index 0) ≡ false = sym c.if-not-is_ascii_digit.ensures.value in
          grind arith;
    }

pub overflow_mul-value : goal.overflow_mul-value
overflow_mul-value c =
    let low = value_bound c.args.field.now c.loop-digit.digit-index c.loop-digit.value c.if-field-gt-MOST_DIGITS.false c.loop-digit.invariant in
    omega arith

pub overflow_add-value : goal.overflow_add-value
overflow_add-value c =
    let low = value_bound c.args.field.now c.loop-digit.digit-index c.loop-digit.value c.if-field-gt-MOST_DIGITS.false c.loop-digit.invariant in
    omega (arith, c.from.ensures)

pub loop-digit-preserved : goal.loop-digit-preserved
loop-digit-preserved c =
    let step = digits_step c.args.field.now c.loop-digit.digit-index c.loop-digit.value c.loop-digit-test.true (read_digit _ (sym c.if-not-is_ascii_digit.ensures.value)) c.loop-digit.invariant in
    (step.0, omega (arith, step.1, c.from.ensures))

pub returns : goal.returns
returns c =
    let some = eqb-false (length c.args.field.now) 0 (sym c.if-is_empty.ensures) in
    let alone : get_or c.args.field.now 0 0 ≡ 48 → length c.args.field.now ≡ 1 =
    λ e. elim c.else-field-eq48.either [ inl t ↦ omega (arith, t.1, some) | inr t ↦ absurd (t e) ] in
    record {
      written =
          digits_end c.args.field.now c.loop-digit.digit-index c.loop-digit.value (omega arith) c.if-field-gt-MOST_DIGITS.false alone c.loop-digit-test.false c.loop-digit.invariant;
    }
