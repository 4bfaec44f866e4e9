-- What trying the full plays in order comes to. Assumes nothing.
use Rattle.std.specs.Prelude.{ℕ, suc, Bool, true, false, List, [], ◌∷◌}
use Rattle.arithmetic.specs.Meaning.{WordList}
use Rattle.rules.specs.Game.{Game, Pass}
use Rattle.rules.specs.Plays.{failed, cut_by_depth, cut_by_steps, turn}
use Rattle.rules.specs.Enumeration.{Played, played, full_plays}

-- lost with what passed in the first failed play, and its steps, or safe; with how many plays were tried, and whether one of them was cut by
-- depth, and by steps
pub data Verdict : Type 0 where
  lost : List Pass → ℕ → ℕ → Bool → Bool → Verdict
  safe : ℕ → Bool → Bool → Verdict

-- trying plays in order, after so many were tried, with the marks so far
abbrev pub tried : List Played → ℕ → Bool → Bool → Verdict
tried [] count deep long = safe count deep long
tried (played trace failed steps ∷ plays) count deep long = lost trace steps (suc count) deep long
tried (played trace cut_by_depth steps ∷ plays) count deep long = tried plays (suc count) true long
tried (played trace cut_by_steps steps ∷ plays) count deep long = tried plays (suc count) deep true
tried (played trace turn steps ∷ plays) count deep long = tried plays (suc count) deep long

-- the verdict on a game
abbrev pub verdict : Game → WordList → Verdict
verdict G list = tried (full_plays G list) 0 false false
