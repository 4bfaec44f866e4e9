use Rattle.std.proofs.Common.{rules}
use Rattle.std.proofs.lemmas.Result.{err_from_is_err_and}
use Rattle.heads.specs.Arithmetics.{ArithmeticAnswer}
use Rattle.heads.specs.Plays.{PlayAnswer}
use Rattle.report.specs.Input.{InputAnswer, LibraryAnswer, PlayAndLibrary}
use Rattle.report.proofs.Inputs.{head_refused, head_passed, if_answered}
use Rattle.report.proofs.input.answer.Goals as goal

pub returns-in_err-library : goal.returns-in_err-library
returns-in_err-library c =
    let p = err_from_is_err_and c.from_residual-in_err-library.result c.from_residual-in_err-library.ensures.1 in
    let b = head_refused PlayAnswer 2 LibraryAnswer _ c.in_ok-rest.rest.now c.in_err-library.field-0.0 c.in_err-library.ensures.rest_or_fault (λ line r s. search rules) in
    let a = head_passed ArithmeticAnswer 1 PlayAndLibrary _ c.args.input.now c.in_ok-rest.rest.now _ c.in_ok-rest.ensures.rest_or_fault (λ line r s. search rules) b in
    record { answer = rw (p.1, p.2) a }

pub returns : goal.returns
returns c =
    record {
      answer = if_answered c.library_answer.result (LibraryAnswer c.in_ok-library.library.now) (InputAnswer c.args.input.now)
          (λ answer told. head_passed ArithmeticAnswer 1 PlayAndLibrary _ c.args.input.now c.in_ok-rest.rest.now answer c.in_ok-rest.ensures.rest_or_fault (λ line r s. search rules)
          (head_passed PlayAnswer 2 LibraryAnswer _ c.in_ok-rest.rest.now c.in_ok-library.library.now answer c.in_ok-library.ensures.rest_or_fault (λ line r s. search rules) told))
          c.library_answer.ensures.answer;
    }
