-- What is shown of plays. Assumes nothing.
use Rattle.std.specs.Prelude.{◌≡◌, ℕ, ◌≤◌, ◌⊎◌, List, ◌++◌, map, length}
use Rattle.std.proofs.Math.Option.{Option}
use mathlib.Core.List.{Memᴰ}
use Rattle.arithmetic.specs.Meaning.{WordList, Listed}
use Rattle.rules.specs.Memory.{Entry}
use Rattle.rules.specs.Mounted.{Playable}
use Rattle.rules.specs.Game.{Game, Position, library_runs, host_turn, Pass, start, ◌⊢◌─◌⟹◌}
use Rattle.rules.specs.Listings.{listing}
use Rattle.rules.specs.Plays.{Run, Ending, Ends, Move, FullFrom, Play, FullPlay, LosingPlay}
use Rattle.rules.specs.Enumeration.{played, full_plays, moves_of}
use Rattle.rules.specs.Order.{Before, Ascending, WithoutRepetition, Counted}

-- the list of full plays holds each full play, with its trace, its ending and its steps, and nothing else
pub record ExactlyTheFullPlays (G : Game) (list : WordList) : Type 0 where
  pub each_is_listed : (trace : List Pass) (ending : Ending) (steps : ℕ) →
      FullFrom G (start G) 0 trace ending steps → Memᴰ (played trace ending steps) (full_plays G list)
  pub each_is_full : (trace : List Pass) (ending : Ending) (steps : ℕ) →
      Memᴰ (played trace ending steps) (full_plays G list) → FullFrom G (start G) 0 trace ending steps

abbrev pub FullPlaysAreListed : Type 0
FullPlaysAreListed = (G : Game) (list : WordList) → Listed G.meaning list → ExactlyTheFullPlays G list

-- a play has at most as many host moves as steps are allowed
abbrev pub AtMostStepsMoves : Type 0
AtMostStepsMoves = (G : Game) (moves : List Move) → Play G moves → length moves ≤ G.bounds.steps

-- a losing play is full
abbrev pub LosingIsFull : Type 0
LosingIsFull = (G : Game) (moves : List Move) → LosingPlay G moves → FullPlay G moves

-- a play's moves determine what passes, how it ends, and after how many steps
pub record SamePlay {G : Game} {moves : List Move} (x y : Play G moves) : Type 0 where
  pub same_trace : x.trace ≡ y.trace
  pub same_ending : x.ending ≡ y.ending
  pub same_steps : x.steps ≡ y.steps

abbrev pub MovesDetermineThePlay : Type 0
MovesDetermineThePlay = (G : Game) (moves : List Move) (x y : Play G moves) → SamePlay x y

-- the list of full plays is in order and without repetition, so that its length is the number of full plays
pub record InOrder (G : Game) (list : WordList) : Type 0 where
  pub ascending : Ascending (Before G list) (map moves_of (full_plays G list))
  pub no_repetition : WithoutRepetition (map moves_of (full_plays G list))
  pub counted : Counted (FullPlay G) (length (full_plays G list))

abbrev pub FullPlaysAreInOrder : Type 0
FullPlaysAreInOrder = (G : Game) (list : WordList) → Listed G.meaning list → InOrder G list

-- the play ends at a position, with t steps taken, or goes on from there
abbrev pub GoesOn : Game → Position → ℕ → Type 0
GoesOn G p t =
    ((ending : Ending) × (steps : ℕ) × Ends G p t ending steps) ⊎ ((a : Option Pass) × (q : Position) × (G ⊢ p ─ a ⟹ q))

-- the library is never stuck: wherever a run leads, the play ends or goes on
abbrev pub NeverStuck : Game → Type 0
NeverStuck G = (trace : List Pass) (p : Position) (t : ℕ) → Run G (start G) 0 trace p t → GoesOn G p t

-- a mounted library all of whose numbers are lawful is never stuck
abbrev pub PlayableIsNeverStuck : Type 0
PlayableIsNeverStuck = (G : Game) → Playable G → NeverStuck G

-- every play extends to a full play
abbrev pub PlaysExtend : Type 0
PlaysExtend =
    (G : Game) (list : WordList) → Playable G → Listed G.meaning list →
    (moves : List Move) → Play G moves → (more : List Move) × FullPlay G (moves ++ more)

-- the names at a position
abbrev pub names_at : Position → List Entry
names_at (library_runs K M μ P) = μ.names
names_at (host_turn K l μ P) = μ.names

-- wherever a run leads, there are at most 65,535 names
abbrev pub FewNames : Game → Type 0
FewNames G = (trace : List Pass) (p : Position) (t : ℕ) → Run G (start G) 0 trace p t → length (names_at p) ≤ 65535

abbrev pub PlayableHasFewNames : Type 0
PlayableHasFewNames = (G : Game) → Playable G → FewNames G

-- two plays with the same listing are the same play
abbrev pub ListingsTellPlays : Type 0
ListingsTellPlays =
    (G : Game) → Playable G → (moves others : List Move) (x : Play G moves) (y : Play G others) →
    listing x.trace x.ending x.steps ≡ listing y.trace y.ending y.steps → moves ≡ others
