-- The least of the faults that hold, and the one answer to a line. Assumes nothing.
use Rattle.std.proofs.Common.{◌≡◌, ◌<◌, Ok, Err, Result, ap, subst, arith}
use Rattle.faults.specs.declared.TextFault.TheVariants.{Form, Number}
use Rattle.faults.specs.declared.PlayFault.{PlayFault}
use Rattle.faults.specs.declared.PlayFault.TheVariants.{Text}
use Rattle.faults.specs.Numbers.{play_number}
use Rattle.faults.proofs.Once.{least_once}
use Rattle.heads.specs.Lines.{Least, Answers, Only}

-- no two faults have one number, no form has the least, and a bad number the next
same_number : (f g : PlayFault) → play_number f ≡ play_number g → f ≡ g
same_number f g same = grind arith

below_form : (fault : PlayFault) → play_number fault < 10 → ⊥
below_form fault less = grind arith

below_number : (fault : PlayFault) → play_number fault < 11 → fault ≡ Text Form
below_number fault less = grind arith

-- no form is the least fault wherever it holds
pub least_form : (holds : PlayFault → Type 0) → holds (Text Form) → Least holds (Text Form)
least_form holds h = record { here = h; none_smaller = λ other less k. below_form other less }

-- a bad number is the least fault where it holds and the line has a form
pub least_number : (holds : PlayFault → Type 0) → holds (Text Number) → (holds (Text Form) → ⊥) → Least holds (Text Number)
least_number holds h formed = record { here = h; none_smaller = λ other less k. formed (subst holds (below_number other less) k) }

-- there is one answer at most, where a line grants one value at most, and none if a fault holds
pub one_answer : {Y : Type 0} (grants : Y → Type 0) (holds : PlayFault → Type 0) → ((y z : Y) → grants y → grants z → y ≡ z) → ((y : Y) (f : PlayFault) → grants y → holds f → ⊥) → (r : Result Y PlayFault) → Answers grants holds r → Only (Answers grants holds) r
one_answer grants holds once none (Ok y) h (Ok z) k = ap Ok (once z y k h)
one_answer grants holds once none (Ok y) h (Err f) k = absurd (none y f h k.here)
one_answer grants holds once none (Err f) h (Ok z) k = absurd (none z f k h.here)
one_answer grants holds once none (Err f) h (Err g) k = ap Err (least_once play_number same_number holds g f k h)
