-- Plays: runs with the steps counted, endings, the host's moves, full plays and losing plays. Assumes nothing.
use Rattle.std.specs.Prelude.{◌≡◌, ℕ, suc, ◌-◌, ◌<◌, List, [], ◌∷◌, ◌++◌, length, replicate, ℤ, pos}
use Rattle.std.proofs.Math.Option.{none, some}
use Rattle.rules.specs.Terms.{Value, unit, word, name, pair}
use Rattle.rules.specs.Memory.{Memory}
use Rattle.rules.specs.Game.{Game, Pending, Position, host_turn, start, Pass, host_call, host_answer, library_call, library_answer, ◌⊢◌─◌⟹◌, Fails, TooDeep}

-- Run G p t trace q u: from p, with t steps taken, come the passes of the trace, and then q with u steps taken. No step
-- is taken past the bound.
pub data Run (G : Game) : Position → ℕ → List Pass → Position → ℕ → Type 0 where
  stays : {p : Position} {t : ℕ} → Run G p t [] p t
  inside : {p q r : Position} {t u : ℕ} {trace : List Pass} →
      t < G.bounds.steps → G ⊢ p ─ none ⟹ q → Run G q (suc t) trace r u → Run G p t trace r u
  passes : {p q r : Position} {t u : ℕ} {a : Pass} {trace : List Pass} →
      t < G.bounds.steps → G ⊢ p ─ some a ⟹ q → Run G q (suc t) trace r u → Run G p t (a ∷ trace) r u

-- how a play ends: by a failed assertion, cut by a bound, or with the host's turn
pub data Ending : Type 0 where
  failed cut_by_depth cut_by_steps turn : Ending

-- Ends G p t ending u: at p, with t steps taken, the play ends so, after u steps in all. The cut by steps comes first of
-- all; a failed assertion is a step, and an entry that would pass the bound on depth is none.
pub data Ends (G : Game) : Position → ℕ → Ending → ℕ → Type 0 where
  out_of_steps : {p : Position} {t : ℕ} → t ≡ G.bounds.steps → Ends G p t cut_by_steps t
  fails : {p : Position} {t : ℕ} → t < G.bounds.steps → Fails G p → Ends G p t failed (suc t)
  too_deep : {p : Position} {t : ℕ} → t < G.bounds.steps → TooDeep G p → Ends G p t cut_by_depth t
  hands_over : {K : List Pending} {l t : ℕ} {μ : Memory} {P : List ℕ} → t < G.bounds.steps → Ends G (host_turn K l μ P) t turn t

-- a host move: a call or an answer of a name, with a word for each leaf of the value
pub data Move : Type 0 where
  call : ℕ → List ℤ → Move
  answer : ℕ → List ℤ → Move

-- the words of a value, leaf by leaf: 0 for unit and for a function
abbrev pub words : Value → List ℤ
words unit = pos 0 ∷ []
words (word w) = w ∷ []
words (name m) = pos 0 ∷ []
words (pair v w) = words v ++ words w

-- a move has four words: those that no leaf uses are 0
abbrev pub four : List ℤ → List ℤ
four ws = ws ++ replicate (4 - length ws) (pos 0)

-- the host's moves in a trace
abbrev pub host_moves : List Pass → List Move
host_moves [] = []
host_moves (host_call m v ∷ trace) = call m (four (words v)) ∷ host_moves trace
host_moves (host_answer m v ∷ trace) = answer m (four (words v)) ∷ host_moves trace
host_moves (library_call m v ∷ trace) = host_moves trace
host_moves (library_answer m v ∷ trace) = host_moves trace

-- from p, with t steps taken, the trace is a play: it comes to where the play ends so, after so many steps in all
pub record PlayFrom (G : Game) (p : Position) (t : ℕ) (trace : List Pass) (ending : Ending) (steps : ℕ) : Type 0 where
  pub last : Position
  pub taken : ℕ
  pub run : Run G p t trace last taken
  pub ends : Ends G last taken ending steps

-- the host has no move
abbrev pub NoMove : Game → Position → Type 0
NoMove G p = (a : Pass) (q : Position) → G ⊢ p ─ some a ⟹ q → ⊥

-- a full play has failed, is cut, or leaves the host no move
pub record FullFrom (G : Game) (p : Position) (t : ℕ) (trace : List Pass) (ending : Ending) (steps : ℕ) : Type 0 where
  pub play : PlayFrom G p t trace ending steps
  pub no_more : ending ≡ turn → NoMove G play.last

-- the moves are a play of the game: they are the host's in a trace from the start
pub record Play (G : Game) (moves : List Move) : Type 0 where
  pub trace : List Pass
  pub ending : Ending
  pub steps : ℕ
  pub play : PlayFrom G (start G) 0 trace ending steps
  pub moved : host_moves trace ≡ moves

-- the moves are a full play of the game
pub record FullPlay (G : Game) (moves : List Move) : Type 0 where
  pub trace : List Pass
  pub ending : Ending
  pub steps : ℕ
  pub full : FullFrom G (start G) 0 trace ending steps
  pub moved : host_moves trace ≡ moves

-- the moves are a losing play: one that has failed
pub record LosingPlay (G : Game) (moves : List Move) : Type 0 where
  pub play : Play G moves
  pub lost : play.ending ≡ failed
