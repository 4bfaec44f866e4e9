-- The limits of the bounds of play. Assumes nothing.
use Rattle.std.specs.Prelude.{ℕ, ◌≤◌}

-- the depth is 0 to 16
abbrev pub DepthLimit : ℕ → Type 0
DepthLimit depth = depth ≤ 16

-- the insistence is 0 to 8
abbrev pub InsistenceLimit : ℕ → Type 0
InsistenceLimit insistence = insistence ≤ 8

-- the steps are 1 to 2,048
abbrev pub StepsLimit : ℕ → Type 0
StepsLimit steps = (1 ≤ steps) × (steps ≤ 2048)

-- each bound is within its limit
pub record WithinBounds (depth insistence steps : ℕ) : Type 0 where
  pub depth_limit : DepthLimit depth
  pub insistence_limit : InsistenceLimit insistence
  pub steps_limit : StepsLimit steps
