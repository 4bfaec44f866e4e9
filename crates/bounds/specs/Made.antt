-- What making bounds of play from three numbers answers. Assumes nothing.
use Rattle.std.specs.Prelude.{◌≡◌, ℕ, Ok, Err, Result}
use Rattle.faults.specs.declared.PlayFault.{PlayFault}
use Rattle.faults.specs.declared.PlayFault.TheVariants.{Bounds as BoundsFault}
use Rattle.bounds.specs.declared.limits.Bounds.{Bounds}
use Rattle.bounds.specs.Limits.{WithinBounds}

-- bounds of just these numbers
pub record OfNumbers (depth insistence steps : ℕ) (bounds : Bounds) : Type 0 where
  pub same_depth : bounds.depth ≡ depth
  pub same_insistence : bounds.insistence ≡ insistence
  pub same_steps : bounds.steps ≡ steps

-- bounds of just these numbers where they are within their limits, and else the fault
abbrev pub BoundsMade : ℕ → ℕ → ℕ → Result Bounds PlayFault → Type 0
BoundsMade depth insistence steps (Ok bounds) = WithinBounds depth insistence steps × OfNumbers depth insistence steps bounds
BoundsMade depth insistence steps (Err fault) = (WithinBounds depth insistence steps → ⊥) × (fault ≡ BoundsFault)
