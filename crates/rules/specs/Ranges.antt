-- Lists of all full plays, ranges of full plays, and their number by places in such a list. Assumes nothing.
use Rattle.std.specs.Prelude.{◌≡◌, ℕ, suc, ◌-◌, ◌≤◌, ◌⊎◌, List, map, length}
use mathlib.Core.List.{Memᴰ}
use Rattle.std.proofs.Math.Option.{Option, none, some}
use Rattle.arithmetic.specs.Meaning.{WordList, Listed}
use Rattle.rules.specs.Memory.{at}
use Rattle.rules.specs.Game.{Game, start, Pass}
use Rattle.rules.specs.Plays.{Ending, Move, FullFrom, FullPlay}
use Rattle.rules.specs.Enumeration.{Played, played, moves_of}
use Rattle.rules.specs.Order.{Before, Ascending, WithoutRepetition, Counted}

-- the moves come after others, where others are given
abbrev pub After : Game → WordList → Option (List Move) → List Move → Type 0
After G list none moves = Unit {0}
After G list (some others) moves = Before G list others moves

-- the full plays in a range: after one play, or from the first on, up to another, which is in the range
abbrev pub FullInRange : Game → WordList → Option (List Move) → List Move → List Move → Type 0
FullInRange G list from to moves = FullPlay G moves × After G list from moves × ((moves ≡ to) ⊎ Before G list moves to)

-- the list holds the full plays, each with what passes, its ending and its steps, and nothing else, in order
pub record AllPlays (G : Game) (list : WordList) (plays : List Played) : Type 0 where
  pub each_is_listed : (trace : List Pass) (ending : Ending) (steps : ℕ) →
      FullFrom G (start G) 0 trace ending steps → Memᴰ (played trace ending steps) plays
  pub each_is_full : (trace : List Pass) (ending : Ending) (steps : ℕ) →
      Memᴰ (played trace ending steps) plays → FullFrom G (start G) 0 trace ending steps
  pub in_order : Ascending (Before G list) (map moves_of plays)

-- the order goes one way only
abbrev pub OrderGoesOneWay : Type 0
OrderGoesOneWay =
    (G : Game) (list : WordList) → Listed G.meaning list → (moves others : List Move) → Before G list moves others → Before G list others moves → ⊥

-- the full plays are finitely many: there is a list of them, in order
abbrev pub FullPlaysHaveAList : Type 0
FullPlaysHaveAList = (G : Game) (list : WordList) → Listed G.meaning list → (plays : List Played) × AllPlays G list plays

-- a list without repetition whose length is the number of full plays, and whose places tell the number of those in a range
pub record CountedByPlace (G : Game) (list : WordList) (plays : List Played) : Type 0 where
  pub no_repetition : WithoutRepetition (map moves_of plays)
  pub counted : Counted (FullPlay G) (length plays)
  pub counted_up_to : (j : ℕ) (to : List Move) → at (map moves_of plays) j ≡ some to → Counted (FullInRange G list none to) (suc j)
  pub counted_between : (i j : ℕ) (from to : List Move) → i ≤ j → at (map moves_of plays) i ≡ some from → at (map moves_of plays) j ≡ some to →
      Counted (FullInRange G list (some from) to) (j - i)

-- each list of all full plays counts them so
abbrev pub FullPlaysAreCounted : Type 0
FullPlaysAreCounted = (G : Game) (list : WordList) → Listed G.meaning list → (plays : List Played) → AllPlays G list plays → CountedByPlace G list plays
