-- What a tally of rows tells. Assumes nothing.
use Rattle.std.specs.Prelude.{◌≡◌, ℕ, ◌+◌, ◌<◌, ◌≤◌, Bool, true, cond, ◌&&◌, List, [], ◌∷◌, Some, None, Option, nat_lt, slice_index, slice_index_or, slice_set}
use Rattle.rows.specs.declared.forms.TypeForm.{TypeForm}
use Rattle.rows.specs.declared.forms.TypeForm.TheVariants.{Unit as UnitType, Int as IntType, Pair as PairType, Fun as FunType}
use Rattle.rows.specs.declared.forms.Row.{Row}
use Rattle.rows.specs.declared.forms.Row.TheVariants.{«Type» as TypeRow, Variable as VariableRow, Method as MethodRow, Global as GlobalRow, Term as TermRow}
use Rattle.rows.specs.declared.forms.Section.{Section}
use Rattle.rows.specs.declared.forms.Section.TheVariants.{Types, Variables, Methods, Globals, Terms}
use Rattle.rows.specs.declared.tally.Counts.{Counts}
use Rattle.rows.specs.Sections.{count, limit, running, section}
use Rattle.rows.specs.Types.{unit, leaves, types}

-- the count of a section
abbrev pub counted : Counts → Section → ℕ
counted c Types = c.types
counted c Variables = c.variables
counted c Methods = c.methods
counted c Globals = c.globals
counted c Terms = c.terms

-- the count of all sections that come after one
abbrev pub later_count : Counts → Section → ℕ
later_count c Types = c.variables + c.methods + c.globals + c.terms
later_count c Variables = c.methods + c.globals + c.terms
later_count c Methods = c.globals + c.terms
later_count c Globals = c.terms
later_count c Terms = 0

-- each reference is below the count of its section
abbrev pub all_below : Counts → List (Section × ℕ) → Bool
all_below c [] = true
all_below c (p ∷ ps) = nat_lt p.1 (counted c p.0) && all_below c ps

-- the counts are those of the rows
abbrev pub CountsOf : List Row → Counts → Type 0
CountsOf rows c = (s : Section) → counted c s ≡ count s rows

-- the counts and the leaves of each type are those of the rows
pub record Tallied (rows : List Row) (c : Counts) (leaf_counts : List ℕ) : Type 0 where
  pub counts : CountsOf rows c
  pub type_leaves : (k : ℕ) → k < count Types rows → slice_index leaf_counts k ≡ leaves (slice_index_or (types rows) k unit)

-- the leaves of the type of a number, where the types reach that far
abbrev pub leaves_at : Counts → List ℕ → ℕ → Option ℕ
leaves_at c table n = cond (nat_lt n c.types) (Some (slice_index table n)) None

-- the leaves of the type that a row lists, by the leaves of the types that it names
abbrev pub form_leaves_by : List ℕ → TypeForm → ℕ
form_leaves_by table UnitType = 1
form_leaves_by table IntType = 1
form_leaves_by table (PairType a b) = slice_index table a + slice_index table b
form_leaves_by table (FunType a b) = 1

abbrev pub leaves_by : List ℕ → Row → ℕ
leaves_by table (TypeRow n f) = form_leaves_by table f
leaves_by table (VariableRow n t) = 0
leaves_by table (MethodRow n f) = 0
leaves_by table (GlobalRow n t e) = 0
leaves_by table (TermRow n f) = 0

-- one more row of a section
abbrev pub counts_with : Counts → Section → Counts
counts_with c Types = record { types = c.types + 1; variables = c.variables; methods = c.methods; globals = c.globals; terms = c.terms }
counts_with c Variables = record { types = c.types; variables = c.variables + 1; methods = c.methods; globals = c.globals; terms = c.terms }
counts_with c Methods = record { types = c.types; variables = c.variables; methods = c.methods + 1; globals = c.globals; terms = c.terms }
counts_with c Globals = record { types = c.types; variables = c.variables; methods = c.methods; globals = c.globals + 1; terms = c.terms }
counts_with c Terms = record { types = c.types; variables = c.variables; methods = c.methods; globals = c.globals; terms = c.terms + 1 }

-- a type's leaves are kept behind those of the types before it
abbrev pub leaves_with : Counts → List ℕ → Section → ℕ → List ℕ
leaves_with c table Types n = slice_set table c.types n
leaves_with c table Variables n = table
leaves_with c table Methods n = table
leaves_with c table Globals n = table
leaves_with c table Terms n = table

-- the row is in order, by the counts of the rows before it
pub record OrderBy (c : Counts) (row : Row) : Type 0 where
  pub counts_on : running row ≡ counted c (section row)
  pub none_later : later_count c (section row) ≡ 0

-- there is a place for the row, by the counts of the rows before it and the leaves of its type
pub record PlaceBy (c : Counts) (room : Bool) (row : Row) (leaf_count : ℕ) : Type 0 where
  pub has_room : room ≡ true
  pub four_leaves : leaf_count ≤ 4
  pub section_limit : counted c (section row) < limit (section row)
