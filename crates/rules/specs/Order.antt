-- The order of the host's moves at a position and of plays, and counts of plays. Assumes nothing.
-- The host's list of words is used here, where full plays are enumerated and counted, and where a game comes out; and nowhere else.
use Rattle.std.specs.Prelude.{◌≡◌, ℕ, ◌<◌, List, [], ◌∷◌, ◌++◌, length, ℤ}
use mathlib.Core.List.{Memᴰ}
use Rattle.arithmetic.specs.Meaning.{WordList}
use Rattle.rules.specs.Memory.{Memory}
use Rattle.rules.specs.Game.{Game, Pending, Position, host_turn, start, Pass}
use Rattle.rules.specs.Plays.{Run, Move, call, answer, host_moves, FullPlay}

-- m stands in a list, and n behind it
pub data StandsBefore (m n : ℕ) : List ℕ → Type 0 where
  here : {k : ℕ} {P : List ℕ} → m ≡ k → Memᴰ n P → StandsBefore m n (k ∷ P)
  later : {k : ℕ} {P : List ℕ} → StandsBefore m n P → StandsBefore m n (k ∷ P)

-- where two values first differ, the word of the first has the earlier place: the left leaf is the heaviest
pub data WordsBefore (list : WordList) : List ℤ → List ℤ → Type 0 where
  differ : {v w : ℤ} {vs ws : List ℤ} (p q : ℕ) → p < q → q < list.length → v ≡ list.word p → w ≡ list.word q →
      WordsBefore list (v ∷ vs) (w ∷ ws)
  agree : {v w : ℤ} {vs ws : List ℤ} → v ≡ w → WordsBefore list vs ws → WordsBefore list (v ∷ vs) (w ∷ ws)

-- the order of the moves where the names P are shown: calls before answers, calls in the order shown, then by their words
pub data Ahead (list : WordList) (P : List ℕ) : Move → Move → Type 0 where
  call_first : {m n : ℕ} {vs ws : List ℤ} → Ahead list P (call m vs) (answer n ws)
  shown_first : {m n : ℕ} {vs ws : List ℤ} → StandsBefore m n P → Ahead list P (call m vs) (call n ws)
  called_with : {m n : ℕ} {vs ws : List ℤ} → m ≡ n → WordsBefore list vs ws → Ahead list P (call m vs) (call n ws)
  answered_with : {m n : ℕ} {vs ws : List ℤ} → m ≡ n → WordsBefore list vs ws → Ahead list P (answer m vs) (answer n ws)

-- of two lists of moves from a position, the one whose first different move is ahead of the other's
pub record BeforeFrom (G : Game) (list : WordList) (p : Position) (t : ℕ) (earlier later : List Move) : Type 0 where
  -- what passes before they differ, and the host's turn to which it leads
  pub trace : List Pass
  pub pending : List Pending
  pub level : ℕ
  pub memory : Memory
  pub shown : List ℕ
  pub taken : ℕ
  pub run : Run G p t trace (host_turn pending level memory shown) taken
  -- the different moves, and what follows them
  pub first : Move
  pub second : Move
  pub after_first : List Move
  pub after_second : List Move
  pub earlier_is : earlier ≡ host_moves trace ++ (first ∷ after_first)
  pub later_is : later ≡ host_moves trace ++ (second ∷ after_second)
  pub ahead : Ahead list shown first second

abbrev pub Before : Game → WordList → List Move → List Move → Type 0
Before G list = BeforeFrom G list (start G) 0

-- each element comes before those behind it
module _ {X : Type 0} where
  abbrev pub Ascending : (X → X → Type 0) → List X → Type 0
  Ascending before [] = Unit {0}
  Ascending before (x ∷ xs) = ((y : X) → Memᴰ y xs → before x y) × Ascending before xs

  -- no element stands twice
  abbrev pub WithoutRepetition : List X → Type 0
  WithoutRepetition [] = Unit {0}
  WithoutRepetition (x ∷ xs) = (Memᴰ x xs → ⊥) × WithoutRepetition xs

-- n lists of moves have the property: they are those of a list without repetition
pub record Counted (property : List Move → Type 0) (n : ℕ) : Type 0 where
  pub those : List (List Move)
  pub no_repetition : WithoutRepetition those
  pub holds_each : (moves : List Move) → property moves → Memᴰ moves those
  pub holds_no_other : (moves : List Move) → Memᴰ moves those → property moves
  pub as_many : length those ≡ n

-- the full plays that come after one list of moves and before another
abbrev pub FullBetween : Game → WordList → List Move → List Move → List Move → Type 0
FullBetween G list from to moves = FullPlay G moves × Before G list from moves × Before G list moves to
