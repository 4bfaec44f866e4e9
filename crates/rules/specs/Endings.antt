-- How a play comes to an end. Assumes nothing.
use Rattle.std.specs.Prelude.{◌≡◌, ℕ, List, []}
use Rattle.rules.specs.Mounted.{Playable}
use Rattle.rules.specs.Game.{Game, Position, Pass, start}
use Rattle.rules.specs.Plays.{Run, Ending, host_moves, PlayFrom}

-- from p, with t steps taken, the play comes to one of its endings without a further move of the host's
pub record ComesToAnEnd (G : Game) (p : Position) (t : ℕ) : Type 0 where
  pub trace : List Pass
  pub ending : Ending
  pub steps : ℕ
  pub play : PlayFrom G p t trace ending steps
  pub no_host_move : host_moves trace ≡ []

-- wherever a run of a game that can be played leads, the play comes to an end
abbrev pub PlayableComesToAnEnd : Type 0
PlayableComesToAnEnd =
    (G : Game) → Playable G → (trace : List Pass) (p : Position) (t : ℕ) → Run G (start G) 0 trace p t → ComesToAnEnd G p t
