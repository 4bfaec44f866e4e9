-- How a game comes out: safe or lost, said by its plays and not by a computation. Assumes nothing.
use Rattle.std.specs.Prelude.{◌≡◌, ℕ, Bool, List, MatchBool}
use Rattle.std.proofs.Math.Option.{none}
use Rattle.arithmetic.specs.Meaning.{WordList, Listed}
use Rattle.rules.specs.Game.{Game, Pass, start}
use Rattle.rules.specs.Plays.{Ending, failed, cut_by_depth, cut_by_steps, Move, host_moves, PlayFrom, Play, FullPlay, LosingPlay}
use Rattle.rules.specs.Verdicts.{Verdict, lost, safe, verdict}
use Rattle.rules.specs.Order.{Before, Counted}
use Rattle.rules.specs.Ranges.{FullInRange}

-- one of the plays that were tried was cut so
abbrev pub SomeCut : Game → (List Move → Type 0) → Ending → Type 0
SomeCut G Tried ending = (moves : List Move) × Tried moves × (play : Play G moves) × (play.ending ≡ ending)

-- n plays were tried, and the marks tell whether one of them was cut by depth, and by steps
pub record TriedWith (G : Game) (Tried : List Move → Type 0) (n : ℕ) (by_depth by_steps : Bool) : Type 0 where
  pub count : Counted Tried n
  pub depth_mark : MatchBool by_depth (SomeCut G Tried cut_by_depth) (SomeCut G Tried cut_by_depth → ⊥)
  pub steps_mark : MatchBool by_steps (SomeCut G Tried cut_by_steps) (SomeCut G Tried cut_by_steps → ⊥)

-- the game is safe: no play loses, and all full plays are tried
pub record Safe (G : Game) (n : ℕ) (by_depth by_steps : Bool) : Type 0 where
  pub no_losing_play : (moves : List Move) → LosingPlay G moves → ⊥
  pub tried : TriedWith G (FullPlay G) n by_depth by_steps

-- the game is lost: what passes here, with these steps, is the first losing play, and the full plays up to it are tried
pub record Lost (G : Game) (list : WordList) (trace : List Pass) (steps n : ℕ) (by_depth by_steps : Bool) : Type 0 where
  pub losing : PlayFrom G (start G) 0 trace failed steps
  pub first : (moves : List Move) → LosingPlay G moves → Before G list moves (host_moves trace) → ⊥
  pub tried : TriedWith G (FullInRange G list none (host_moves trace)) n by_depth by_steps

-- a game that comes out safe, or lost
pub data ComesOut (G : Game) (list : WordList) : Type 0 where
  safely : (n : ℕ) (by_depth by_steps : Bool) → Safe G n by_depth by_steps → ComesOut G list
  by_a_loss : (trace : List Pass) (steps n : ℕ) (by_depth by_steps : Bool) → Lost G list trace steps n by_depth by_steps → ComesOut G list

-- each game comes out safe or lost
abbrev pub GamesComeOut : Type 0
GamesComeOut = (G : Game) (list : WordList) → Listed G.meaning list → ComesOut G list

-- what a verdict tells of a game
abbrev pub Told : Game → WordList → Verdict → Type 0
Told G list (lost trace steps n by_depth by_steps) = Lost G list trace steps n by_depth by_steps
Told G list (safe n by_depth by_steps) = Safe G n by_depth by_steps

-- what the verdict on a game tells of it is so
abbrev pub VerdictIsRight : Type 0
VerdictIsRight = (G : Game) (list : WordList) → Listed G.meaning list → Told G list (verdict G list)
