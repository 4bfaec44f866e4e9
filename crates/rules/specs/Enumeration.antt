-- The full plays of a game as a list that can be computed, in order. Assumes nothing.
-- It takes the host's list of words beside the game. Its steps are those of the relation, and a theorem says that it
-- holds exactly the full plays.
use Rattle.std.specs.Prelude.{ℕ, zero, suc, Bool, true, false, List, [], ◌∷◌, ◌++◌, map, length, ℤ, nat_lt}
use Rattle.std.proofs.Math.Option.{Option, none, some}
use Rattle.arithmetic.specs.Meaning.{WordList}
use Rattle.rows.specs.Types.{Tree, unit as unit_type, int as int_type, pair as pair_type, fun as function_type}
use Rattle.rules.specs.Terms.{Term, Value, Context, plug, ⌊◌⌋, app, meth, unit, word, name, pair}
use Rattle.rules.specs.Memory.{Entry, host_name, library_name, Memory, at, with_names}
use Rattle.rules.specs.Stepping.{Parts, value, redex, neither, parts, Contracted, to, failing, asks, stuck, contract}
use Rattle.rules.specs.Game.{Game, Pending, library_waits, host_waits, Position, library_runs, host_turn, start, Pass, host_call, host_answer, library_call, library_answer, shown}
use Rattle.rules.specs.Plays.{Ending, failed, cut_by_depth, cut_by_steps, turn, Move, host_moves}

-- what the library does next: it goes on inside, passes something, fails, would pass the bound on depth, or is stuck
pub data Next : Type 0 where
  goes_on : Position → Next
  hands : Pass → Position → Next
  fails deep no_step : Next

-- the library's answer, where a call of the host's waits for it
abbrev pub answering : List Pending → Value → Memory → List ℕ → Next
answering [] v μ P = no_step
answering (library_waits m E ∷ K) v μ P = no_step
answering (host_waits m l ∷ K) v μ P = hands (library_answer m v) (host_turn K l μ (shown μ.names v P))

-- a step inside the library, by whether it would pass the bound on depth
abbrev pub bounded : Bool → Position → Next
bounded true p = deep
bounded false p = goes_on p

-- a value that the host says, with the names after it
pub data Saying : Type 0 where
  saying : Value → List Entry → Saying

-- the words of a list in their order, given how many there are and the word at each place
abbrev pub in_order : ℕ → (ℕ → ℤ) → List ℤ
in_order zero at_place = []
in_order (suc n) at_place = at_place 0 ∷ in_order n (λ p. at_place (suc p))

-- each word as a value
abbrev pub each_word : List Entry → List ℤ → List Saying
each_word R [] = []
each_word R (w ∷ ws) = saying (word w) R ∷ each_word R ws

-- a left part with each right part, and each left part with each of its right parts
abbrev pub with_left : Value → List Saying → List Saying
with_left v [] = []
with_left v (saying w R ∷ rest) = saying (pair v w) R ∷ with_left v rest

abbrev pub both_parts : (List Entry → List Saying) → List Saying → List Saying
both_parts right [] = []
both_parts right (saying v R ∷ rest) = with_left v (right R) ++ both_parts right rest

-- a move of the host's as a pass, with the position after it
pub data Reply : Type 0 where
  reply : Pass → Position → Reply

-- the calls of a name with each value, and the answers with each value
abbrev pub calls_with : ℕ → List Saying → List Pending → ℕ → Memory → List ℕ → List Reply
calls_with m [] K l μ P = []
calls_with m (saying v R ∷ rest) K l μ P =
    reply (host_call m v) (library_runs (host_waits m (suc l) ∷ K) (app (meth m) ⌊ v ⌋) (with_names R μ) P) ∷ calls_with m rest K l μ P

abbrev pub answers_with : ℕ → Context → List Saying → List Pending → Memory → List ℕ → List Reply
answers_with m E [] K μ P = []
answers_with m E (saying v R ∷ rest) K μ P = reply (host_answer m v) (library_runs K (plug E ⌊ v ⌋) (with_names R μ) P) ∷ answers_with m E rest K μ P

-- the list where the test holds, else none
abbrev pub where_true : Bool → List Reply → List Reply
where_true true replies = replies
where_true false replies = []

-- a full play: what passed, how it ends, and after how many steps
pub data Played : Type 0 where
  played : List Pass → Ending → ℕ → Played

-- the host's moves of a play
abbrev pub moves_of : Played → List Move
moves_of (played trace ending steps) = host_moves trace

-- the same with one pass before it
abbrev pub after : Pass → Played → Played
after a (played trace ending steps) = played (a ∷ trace) ending steps

-- the plays after each reply
abbrev pub after_each : (Position → List Played) → List Reply → List Played
after_each plays [] = []
after_each plays (reply a q ∷ replies) = map (after a) (plays q) ++ after_each plays replies

-- the plays after what the library does next, with t steps taken before
abbrev pub after_next : (Position → List Played) → ℕ → Next → List Played
after_next plays t (goes_on q) = plays q
after_next plays t (hands a q) = map (after a) (plays q)
after_next plays t fails = played [] failed (suc t) ∷ []
after_next plays t deep = played [] cut_by_depth t ∷ []
after_next plays t no_step = []

-- the plays at the host's turn: where it has no move, the play is full
abbrev pub at_turn : (Position → List Played) → ℕ → List Reply → List Played
at_turn plays t [] = played [] turn t ∷ []
at_turn plays t (r ∷ rs) = after_each plays (r ∷ rs)

module _ (G : Game) where
  -- the library's next step, by what its redex becomes
  abbrev pub continued : List Pending → Context → Contracted → Memory → List ℕ → Next
  continued K E (to N μ') μ P = bounded (nat_lt G.bounds.depth μ'.depth) (library_runs K (plug E N) μ' P)
  continued K E failing μ P = fails
  continued K E (asks m v) μ P = hands (library_call m v) (host_turn (library_waits m E ∷ K) 0 μ (shown μ.names v P))
  continued K E stuck μ P = no_step

  -- a value is the library's answer, and a redex is contracted
  abbrev pub next_by : List Pending → Parts → Memory → List ℕ → Next
  next_by K (value v) μ P = answering K v μ P
  next_by K (redex E r) μ P = continued K E (contract G.meaning r μ) μ P
  next_by K neither μ P = no_step

  -- what the library does next
  abbrev pub library_next : List Pending → Term → Memory → List ℕ → Next
  library_next K M μ P = next_by K (parts M) μ P

  module _ (list : WordList) where
    -- the values that the host may say at a type, in order: the left leaf is the heaviest
    abbrev pub sayings : Tree → List Entry → List Saying
    sayings unit_type R = saying unit R ∷ []
    sayings int_type R = each_word R (in_order list.length list.word)
    sayings (pair_type θ θ') R = both_parts (sayings θ') (sayings θ R)
    sayings (function_type θ θ') R = saying (name (length R)) (R ++ (host_name θ θ' ∷ [])) ∷ []

    -- the calls of a name, by what stands behind it, and those of each name
    abbrev pub calls_of : Option Entry → ℕ → List Pending → ℕ → Memory → List ℕ → List Reply
    calls_of none m K l μ P = []
    calls_of (some (host_name θ θ')) m K l μ P = []
    calls_of (some (library_name x θ M)) m K l μ P = calls_with m (sayings θ μ.names) K l μ P

    abbrev pub calls : List ℕ → List Pending → ℕ → Memory → List ℕ → List Reply
    calls [] K l μ P = []
    calls (m ∷ ms) K l μ P = calls_of (at μ.names m) m K l μ P ++ calls ms K l μ P

    -- the answers to the call that waits
    abbrev pub answers_of : Option Entry → ℕ → Context → List Pending → Memory → List ℕ → List Reply
    answers_of none m E K μ P = []
    answers_of (some (host_name θ θ')) m E K μ P = answers_with m E (sayings θ' μ.names) K μ P
    answers_of (some (library_name x θ M)) m E K μ P = []

    abbrev pub answers : List Pending → Memory → List ℕ → List Reply
    answers [] μ P = []
    answers (host_waits m l ∷ K) μ P = []
    answers (library_waits m E ∷ K) μ P = answers_of (at μ.names m) m E K μ P

    -- the host's moves in order: calls before answers, and calls in the order shown
    abbrev pub replies : List Pending → ℕ → Memory → List ℕ → List Reply
    replies K l μ P = where_true (nat_lt l G.bounds.insistence) (calls P K l μ P) ++ answers K μ P

    -- the full plays from a position, with so many steps left and t taken
    abbrev pub plays_from : ℕ → ℕ → Position → List Played
    plays_from zero t p = played [] cut_by_steps t ∷ []
    plays_from (suc left) t (library_runs K M μ P) = after_next (plays_from left (suc t)) t (library_next K M μ P)
    plays_from (suc left) t (host_turn K l μ P) = at_turn (plays_from left (suc t)) t (replies K l μ P)

    -- the full plays of the game
    abbrev pub full_plays : List Played
    full_plays = plays_from G.bounds.steps 0 (start G)
