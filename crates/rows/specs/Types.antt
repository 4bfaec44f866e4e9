-- The types that rows list, as trees. Assumes nothing.
use Rattle.std.specs.Prelude.{ℕ, ◌+◌, List, [], ◌∷◌, ◌++◌, slice_index_or}
use Rattle.rows.specs.declared.forms.TypeForm.{TypeForm}
use Rattle.rows.specs.declared.forms.TypeForm.TheVariants.{Unit as UnitType, Int as IntType, Pair as PairType, Fun as FunType}
use Rattle.rows.specs.declared.forms.Row.{Row}
use Rattle.rows.specs.declared.forms.Row.TheVariants.{«Type» as TypeRow, Variable as VariableRow, Method as MethodRow, Global as GlobalRow, Term as TermRow}

-- a type: unit, int, a pair or a function of two types
pub data Tree : Type 0 where
  unit : Tree
  int : Tree
  pair : Tree → Tree → Tree
  fun : Tree → Tree → Tree

-- the units, ints and functions of a type's pairs
abbrev pub leaves : Tree → ℕ
leaves unit = 1
leaves int = 1
leaves (pair a b) = leaves a + leaves b
leaves (fun a b) = 1

-- the type that a row lists after the types ts. A number that names none of them, which is a fault, counts as unit.
abbrev pub tree : List Tree → TypeForm → Tree
tree ts UnitType = unit
tree ts IntType = int
tree ts (PairType a b) = pair (slice_index_or ts a unit) (slice_index_or ts b unit)
tree ts (FunType a b) = fun (slice_index_or ts a unit) (slice_index_or ts b unit)

-- the types that rows list after the types ts
abbrev pub with_row : List Tree → Row → List Tree
with_row ts (TypeRow n f) = ts ++ (tree ts f ∷ [])
with_row ts (VariableRow n t) = ts
with_row ts (MethodRow n f) = ts
with_row ts (GlobalRow n t e) = ts
with_row ts (TermRow n f) = ts

abbrev pub types_after : List Tree → List Row → List Tree
types_after ts [] = ts
types_after ts (r ∷ rs) = types_after (with_row ts r) rs

-- the types that rows list, by number
abbrev pub types : List Row → List Tree
types rs = types_after [] rs
