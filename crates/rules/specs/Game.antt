-- The game between a library and a host, as a relation: positions, and how one position becomes the next. Assumes nothing.
use Rattle.std.specs.Prelude.{◌≡◌, ℕ, suc, ◌<◌, ◌≤◌, Bool, true, false, ◌||◌, List, [], ◌∷◌, ◌++◌, length, ℤ, ◌==◌}
use mathlib.Core.List.{Memᴰ}
use Rattle.std.proofs.Math.Option.{Option, none, some}
use Rattle.arithmetic.specs.Meaning.{Meaning}
use Rattle.bounds.specs.declared.limits.Bounds.{Bounds}
use Rattle.rows.specs.declared.forms.Row.{Row}
use Rattle.rows.specs.Types.{Tree, unit as unit_type, int as int_type, pair as pair_type, fun as function_type}
use Rattle.rules.specs.Terms.{Term, Value, Context, plug, ⌊◌⌋, num, app, meth, assert, unit, word, name, pair}
use Rattle.rules.specs.Memory.{Entry, host_name, library_name, Memory, at, with_names}
use Rattle.rules.specs.Steps.{◌∣◌, ◌⊢◌⟶◌}
use Rattle.rules.specs.Unfolding.{start_memory, public_methods}

-- what a game is played over: a library's rows, the meaning of an arithmetic, and bounds: how many bodies may be entered
-- and not left, how often the host may call at a level, and how many steps may be taken
pub record Game : Type 0 where
  pub rows : List Row
  pub meaning : Meaning
  pub bounds : Bounds

-- what is still to be answered: a call of the host name m, which the library made in the context E; or a call of the
-- library name m, which the host made from a level whose count is now l
pub data Pending : Type 0 where
  library_waits : ℕ → Context → Pending
  host_waits : ℕ → ℕ → Pending

-- a position, where the library runs a term, or where the host has the turn at a level with a count; with it the pending
-- calls, the newest first, the memory, and the names shown to the host, in the order shown. Below, K is what is pending, M a
-- term, l a level's count, μ the memory and P the names shown.
pub data Position : Type 0 where
  library_runs : List Pending → Term → Memory → List ℕ → Position
  host_turn : List Pending → ℕ → Memory → List ℕ → Position

-- the host begins at a level whose count is 0, and is shown the public methods
abbrev pub start : Game → Position
start G = host_turn [] 0 (start_memory G.rows) (public_methods G.rows)

-- what passes between the sides: a call or an answer of a name, with a value
pub data Pass : Type 0 where
  host_call : ℕ → Value → Pass
  host_answer : ℕ → Value → Pass
  library_call : ℕ → Value → Pass
  library_answer : ℕ → Value → Pass

-- whether a name stands in a list
abbrev pub stands : ℕ → List ℕ → Bool
stands m [] = false
stands m (n ∷ ns) = m == n || stands m ns

-- a library name that is not yet shown is shown behind the others; a host name is never shown
abbrev pub show_once : Option Entry → Bool → ℕ → List ℕ → List ℕ
show_once none seen m P = P
show_once (some (host_name θ θ')) seen m P = P
show_once (some (library_name x θ M)) true m P = P
show_once (some (library_name x θ M)) false m P = P ++ (m ∷ [])

-- the names shown after the library has passed a value, left leaf first
abbrev pub shown : List Entry → Value → List ℕ → List ℕ
shown R unit P = P
shown R (word i) P = P
shown R (name m) P = show_once (at R m) (stands m P) m P
shown R (pair v w) P = shown R w (shown R v P)

-- Says A θ R v R': the host may say v at the type θ, which takes the names R to R'. At a number it says a word that it may
-- say; a function makes a new host name, left leaf first.
pub data Says (A : Meaning) : Tree → List Entry → Value → List Entry → Type 0 where
  says_unit : {R : List Entry} → Says A unit_type R unit R
  says_word : {R : List Entry} (w : ℤ) → A.may_say w ≡ true → Says A int_type R (word w) R
  says_pair : {θ θ' : Tree} {R R' R'' : List Entry} {v w : Value} →
      Says A θ R v R' → Says A θ' R' w R'' → Says A (pair_type θ θ') R (pair v w) R''
  says_function : {θ θ' : Tree} {R : List Entry} →
      Says A (function_type θ θ') R (name (length R)) (R ++ (host_name θ θ' ∷ []))

-- G ⊢ p ─ a ⟹ q: one step of the game G leads from p to q, by the pass a or, where a is none, inside the library
infix 20 ◌⊢◌─◌⟹◌
pub data ◌⊢◌─◌⟹◌ (G : Game) : Position → Option Pass → Position → Type 0 where
  -- the library takes a step of its own that does not pass the bound on depth
  internal : {K : List Pending} {M M' : Term} {μ μ' : Memory} {P : List ℕ} →
      G.meaning ⊢ M ∣ μ ⟶ M' ∣ μ' → μ'.depth ≤ G.bounds.depth →
      G ⊢ library_runs K M μ P ─ none ⟹ library_runs K M' μ' P
  -- the library calls a host name: the host has the turn at a new level with count 0
  library_calls : (E : Context) (m : ℕ) (v : Value) (θ θ' : Tree) {K : List Pending} {μ : Memory} {P : List ℕ} →
      at μ.names m ≡ some (host_name θ θ') →
      G ⊢ library_runs K (plug E (app (meth m) ⌊ v ⌋)) μ P ─ some (library_call m v) ⟹ host_turn (library_waits m E ∷ K) 0 μ (shown μ.names v P)
  -- the library answers the host's call: the host is back at the level that it called from
  library_answers : (m l : ℕ) (v : Value) {K : List Pending} {μ : Memory} {P : List ℕ} →
      G ⊢ library_runs (host_waits m l ∷ K) ⌊ v ⌋ μ P ─ some (library_answer m v) ⟹ host_turn K l μ (shown μ.names v P)
  -- the host calls a name that is shown, while the level's count is below the insistence; this adds 1 to the count
  host_calls : (m x l : ℕ) (θ : Tree) (M : Term) (v : Value) (R : List Entry) {K : List Pending} {μ : Memory} {P : List ℕ} →
      Memᴰ m P → l < G.bounds.insistence →
      at μ.names m ≡ some (library_name x θ M) → Says G.meaning θ μ.names v R →
      G ⊢ host_turn K l μ P ─ some (host_call m v) ⟹ library_runs (host_waits m (suc l) ∷ K) (app (meth m) ⌊ v ⌋) (with_names R μ) P
  -- the host answers the call that waits, which closes the level
  host_answers : (m l : ℕ) (E : Context) (θ θ' : Tree) (v : Value) (R : List Entry) {K : List Pending} {μ : Memory} {P : List ℕ} →
      at μ.names m ≡ some (host_name θ θ') → Says G.meaning θ' μ.names v R →
      G ⊢ host_turn (library_waits m E ∷ K) l μ P ─ some (host_answer m v) ⟹ library_runs K (plug E ⌊ v ⌋) (with_names R μ) P

-- the next step is an assertion on a zero word
pub data Fails (G : Game) : Position → Type 0 where
  on_zero : (E : Context) (i : ℤ) {K : List Pending} {μ : Memory} {P : List ℕ} → G.meaning.zero i ≡ true →
      Fails G (library_runs K (plug E (assert (num i))) μ P)

-- the next step would pass the bound on depth
pub data TooDeep (G : Game) : Position → Type 0 where
  past_bound : {K : List Pending} {M M' : Term} {μ μ' : Memory} {P : List ℕ} →
      G.meaning ⊢ M ∣ μ ⟶ M' ∣ μ' → G.bounds.depth < μ'.depth → TooDeep G (library_runs K M μ P)
