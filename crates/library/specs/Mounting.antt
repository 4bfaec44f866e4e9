-- How rows are answered that a library is to be made of. Assumes nothing.
use Rattle.std.specs.Prelude.{◌≡◌, ℕ, ◌+◌, ◌<◌, true, ◌⊎◌, List, take, Some, Ok, Err, Result, ◌≢◌}
use Rattle.std.specs.List.{slice_get}
use Rattle.faults.specs.declared.TypingFault.{TypingFault}
use Rattle.faults.specs.declared.TypingFault.TheVariants.{Parts, Unlisted, Definition}
use Rattle.faults.specs.declared.LibraryFault.{LibraryFault}
use Rattle.faults.specs.declared.LibraryFault.TheVariants.{Text, Typing}
use Rattle.faults.specs.Numbers.{library_number}
use Rattle.rows.specs.declared.forms.Row.{Row}
use Rattle.rows.specs.declared.forms.Row.TheVariants.{«Type» as TypeRow, Variable as VariableRow, Method as MethodRow, Global as GlobalRow, Term as TermRow}
use Rattle.rows.specs.Faults.{RowFault}
use Rattle.rows.specs.Types.{Tree, types}
use Rattle.library.specs.declared.refusal.MountFault.{MountFault}
use Rattle.library.specs.declared.refusal.MountFault.TheVariants.{Refused, Memory}
use Rattle.library.specs.Typing.{HasType}
use Rattle.library.specs.Definitions.{MethodRule, GlobalRule}

-- a term has a type that isn't listed
pub record TypeUnlisted (rows : List Row) (t : ℕ) : Type 0 where
  pub type : Tree
  pub typed : HasType rows t type
  pub unlisted : (n : ℕ) → slice_get (types rows) n ≢ Some type

-- a fault of typing holds of a row
abbrev pub HasTypingFault : List Row → Row → TypingFault → Type 0
HasTypingFault rows (TermRow t f) Parts = (type : Tree) → HasType rows t type → ⊥
HasTypingFault rows (TermRow t f) Unlisted = TypeUnlisted rows t
HasTypingFault rows (TermRow t f) Definition = ⊥
HasTypingFault rows (MethodRow m f) Parts = ⊥
HasTypingFault rows (MethodRow m f) Unlisted = ⊥
HasTypingFault rows (MethodRow m f) Definition = MethodRule rows f → ⊥
HasTypingFault rows (GlobalRow r n t) Parts = ⊥
HasTypingFault rows (GlobalRow r n t) Unlisted = ⊥
HasTypingFault rows (GlobalRow r n t) Definition = GlobalRule rows n t → ⊥
HasTypingFault rows (TypeRow n f) fault = ⊥
HasTypingFault rows (VariableRow x n) fault = ⊥

-- a fault holds of a row that stands after the first i rows
abbrev pub FaultOf : List Row → ℕ → Row → LibraryFault → Type 0
FaultOf rows i row (Text fault) = RowFault true (take i rows) row fault
FaultOf rows i row (Typing fault) = HasTypingFault rows row fault

-- a fault holds at place i, counted from 0
abbrev pub FaultAt : List Row → ℕ → LibraryFault → Type 0
FaultAt rows i fault = (row : Row) × (slice_get rows i ≡ Some row) × FaultOf rows i row fault

-- rows are tried in three rounds: as text, for the typing of terms, and for methods and globals
abbrev pub round : LibraryFault → ℕ
round (Text fault) = 0
round (Typing Parts) = 1
round (Typing Unlisted) = 1
round (Typing Definition) = 2

-- a fault is tried before another: in an earlier round, or in the same round at an earlier place, or at the same place by
-- its smaller number
abbrev pub Before : ℕ → LibraryFault → ℕ → LibraryFault → Type 0
Before i f j g = (round f < round g) ⊎ ((round f ≡ round g) × ((i < j) ⊎ ((i ≡ j) × (library_number f < library_number g))))

-- a fault holds at a place, and none that is tried before it does
pub record FirstFault (rows : List Row) (i : ℕ) (fault : LibraryFault) : Type 0 where
  pub holds : FaultAt rows i fault
  pub none_before : (j : ℕ) (other : LibraryFault) → Before j other i fault → FaultAt rows j other → ⊥

-- no fault holds at any place: the rows are well-formed and well-typed
abbrev pub WellTyped : List Row → Type 0
WellTyped rows = (i : ℕ) (fault : LibraryFault) → FaultAt rows i fault → ⊥

-- the answer to rows: granted where no fault holds; refused with the first fault, at its line, counted from 1; or memory
-- has run out, of which nothing is said
abbrev pub Mounts : List Row → Result (Unit {0}) MountFault → Type 0
Mounts rows (Ok u) = WellTyped rows
Mounts rows (Err (Refused placed)) = (i : ℕ) × (placed.place ≡ i + 1) × FirstFault rows i placed.fault
Mounts rows (Err Memory) = Unit {0}

-- this is the answer to rows, and no other is but for memory
pub record Answered (rows : List Row) (answer : Result (Unit {0}) MountFault) : Type 0 where
  pub mounts : Mounts rows answer
  pub no_other : (other : Result (Unit {0}) MountFault) → Mounts rows other → (other ≢ Err Memory) → (answer ≢ Err Memory) → other ≡ answer
