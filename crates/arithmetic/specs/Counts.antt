-- A counter's operations keep to the numbers up to its top. Assumes nothing.
use Rattle.std.specs.Prelude.{◌≡◌, ℕ, ◌≤◌, true, ℤ, pos}
use Rattle.std.proofs.Common.{arith}
use Rattle.std.proofs.lemmas.Int.{ints}
use Rattle.arithmetic.specs.declared.Operation.{Operation}
use Rattle.arithmetic.specs.Kinds.{between, counter_result}

-- a counter's operations give lawful words
pub counter_result_stays : (top : ℕ) (o : Operation) (x y : ℤ) → 1 ≤ top → between (pos 0) (pos top) x ≡ true → between (pos 0) (pos top) y ≡ true → between (pos 0) (pos top) (counter_result (pos top) o x y) ≡ true
counter_result_stays top o x y some h k = grind (arith, ints)
