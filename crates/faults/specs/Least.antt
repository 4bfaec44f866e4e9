-- Which fault is told where several hold. Assumes nothing.
use Rattle.std.specs.Prelude.{ℕ, ◌<◌}

-- a fault holds, and none of a smaller number does
pub record LeastOf {Fault : Type 0} (number : Fault → ℕ) (holds : Fault → Type 0) (fault : Fault) : Type 0 where
  pub here : holds fault
  pub none_smaller : (other : Fault) → number other < number fault → holds other → ⊥
