-- What the terms of a library act on: names, globals and the depth. Assumes nothing.
use Rattle.std.specs.Prelude.{ℕ, zero, suc, pred, List, [], ◌∷◌, ◌++◌, slice_set}
use Rattle.std.proofs.Math.Option.{Option, none, some}
use Rattle.rows.specs.Types.{Tree}
use Rattle.rules.specs.Terms.{Term, Value}

-- what stands behind a name: a function of the host's, with its argument and result types, or one of the library's, with
-- its variable, the variable's type and its body
pub data Entry : Type 0 where
  host_name : Tree → Tree → Entry
  library_name : ℕ → Tree → Term → Entry

-- the names by number, the value of each global, and the depth: how many bodies are entered and not left
pub record Memory : Type 0 where
  pub names : List Entry
  pub globals : List Value
  pub depth : ℕ

-- what stands at a place of a list
module _ {A : Type 0} where
  abbrev pub at : List A → ℕ → Option A
  at [] n = none
  at (x ∷ xs) zero = some x
  at (x ∷ xs) (suc n) = at xs n

-- the memory with other names
abbrev pub with_names : List Entry → Memory → Memory
with_names R μ = record { names = R; globals = μ.globals; depth = μ.depth }

-- the memory with one name more
abbrev pub with_name : Entry → Memory → Memory
with_name e μ = with_names (μ.names ++ (e ∷ [])) μ

-- the memory with the value v in the global r
abbrev pub with_global : ℕ → Value → Memory → Memory
with_global r v μ = record { names = μ.names; globals = slice_set μ.globals r v; depth = μ.depth }

-- the memory after a body was entered, and after one was left
abbrev pub deeper : Memory → Memory
deeper μ = record { names = μ.names; globals = μ.globals; depth = suc μ.depth }

abbrev pub shallower : Memory → Memory
shallower μ = record { names = μ.names; globals = μ.globals; depth = pred μ.depth }
