-- How the type of a term is found by number, from the numbers of its parts' types. Assumes nothing.
use Rattle.std.specs.Prelude.{◌≡◌, ℕ, suc, ◌+◌, ◌<◌, Bool, true, false, cond, ◌&&◌, List, [], ◌∷◌, length, take, Some, None, Ok, Err, Option, Result, ◌==◌, slice_index, slice_index_or}
use Rattle.std.specs.List.{slice_get}
use Rattle.std.specs.Option.{option_map}
use Rattle.faults.specs.declared.TypingFault.{TypingFault}
use Rattle.faults.specs.declared.TypingFault.TheVariants.{Parts, Unlisted}
use Rattle.rows.specs.declared.forms.TypeForm.{TypeForm}
use Rattle.rows.specs.declared.forms.TypeForm.TheVariants.{Unit as UnitType, Int as IntType, Pair as PairType, Fun as FunType}
use Rattle.rows.specs.declared.forms.TermForm.{TermForm}
use Rattle.rows.specs.declared.forms.TermForm.TheVariants.{Unit as UnitTerm, Num, Var, Meth, Get, Lam, Set, Op, Pair, Fst, Snd, App, If, Let, Assert}
use Rattle.rows.specs.declared.forms.Row.{Row}
use Rattle.rows.specs.declared.forms.Section.{Section}
use Rattle.rows.specs.declared.forms.Section.TheVariants.{Types, Variables, Methods, Globals, Terms}
use Rattle.rows.specs.declared.tally.Counts.{Counts}
use Rattle.rows.specs.Sections.{count}
use Rattle.rows.specs.Tallies.{counted}
use Rattle.rows.specs.Types.{leaves, types, unit}
use Rattle.library.specs.declared.wanted.Wanted.{Wanted}
use Rattle.library.specs.declared.wanted.Wanted.TheVariants.{Number, Form}
use Rattle.library.specs.Listing.{section_rows, type_form_of, type_form_at, term_at, variable_type_at, method_type_at, global_type_at}

-- where a section starts, by the counts of the sections before it
abbrev pub start : Counts → Section → ℕ
start c Types = 0
start c Variables = c.types
start c Methods = c.types + c.variables
start c Globals = c.types + c.variables + c.methods
start c Terms = c.types + c.variables + c.methods + c.globals

-- the counts are those of the rows, and the rows of each section stand together, in the order of the sections
pub record Sectioned (rows : List Row) (c : Counts) : Type 0 where
  pub counts : (s : Section) → counted c s ≡ length (section_rows s rows)
  pub together : (s : Section) (n : ℕ) → n < counted c s → slice_get rows (start c s + n) ≡ slice_get (section_rows s rows) n

-- whether two forms of types are the same
abbrev pub same_form : TypeForm → TypeForm → Bool
same_form UnitType UnitType = true
same_form UnitType IntType = false
same_form UnitType (PairType a b) = false
same_form UnitType (FunType a b) = false
same_form IntType UnitType = false
same_form IntType IntType = true
same_form IntType (PairType a b) = false
same_form IntType (FunType a b) = false
same_form (PairType a b) UnitType = false
same_form (PairType a b) IntType = false
same_form (PairType a b) (PairType c d) = a == c && b == d
same_form (PairType a b) (FunType c d) = false
same_form (FunType a b) UnitType = false
same_form (FunType a b) IntType = false
same_form (FunType a b) (PairType c d) = false
same_form (FunType a b) (FunType c d) = a == c && b == d

abbrev pub is_form : TypeForm → Option TypeForm → Bool
is_form form None = false
is_form form (Some listed) = same_form form listed

-- the number of the first type of this form among rows of types
abbrev pub first_of_form : TypeForm → List Row → Option ℕ
first_of_form form [] = None
first_of_form form (r ∷ rs) = cond (is_form form (type_form_of (Some r))) (Some 0) (option_map suc (first_of_form form rs))

abbrev pub number_of_form : List Row → TypeForm → Option ℕ
number_of_form rows form = first_of_form form (section_rows Types rows)

-- a type that is named by number
abbrev pub by_number : Option ℕ → Option Wanted
by_number None = None
by_number (Some n) = Some (Number n)

-- a function type and a pair type of two types
abbrev pub function_of : Option ℕ → Option ℕ → Option Wanted
function_of None b = None
function_of (Some a) None = None
function_of (Some a) (Some b) = Some (Form (FunType a b))

abbrev pub pair_of : Option ℕ → Option ℕ → Option Wanted
pair_of None b = None
pair_of (Some a) None = None
pair_of (Some a) (Some b) = Some (Form (PairType a b))

-- two numbers are there and are the same
abbrev pub same_number : Option ℕ → Option ℕ → Bool
same_number None b = false
same_number (Some a) None = false
same_number (Some a) (Some b) = a == b

-- the form of the type of a number
abbrev pub form_named : List Row → Option ℕ → Option TypeForm
form_named rows None = None
form_named rows (Some n) = type_form_at rows n

-- what a type of this form says of a pair's parts, and of a function's result where its argument is known
abbrev pub first_part : Option TypeForm → Option Wanted
first_part None = None
first_part (Some UnitType) = None
first_part (Some IntType) = None
first_part (Some (PairType a b)) = Some (Number a)
first_part (Some (FunType a b)) = None

abbrev pub second_part : Option TypeForm → Option Wanted
second_part None = None
second_part (Some UnitType) = None
second_part (Some IntType) = None
second_part (Some (PairType a b)) = Some (Number b)
second_part (Some (FunType a b)) = None

abbrev pub result_for : Option ℕ → Option TypeForm → Option Wanted
result_for argument None = None
result_for argument (Some UnitType) = None
result_for argument (Some IntType) = None
result_for argument (Some (PairType a b)) = None
result_for argument (Some (FunType a b)) = cond (same_number (Some a) argument) (Some (Number b)) None

-- the type is int
abbrev pub is_int : List Row → Option ℕ → Bool
is_int rows n = is_form IntType (form_named rows n)

-- the type that a term of this form has, where known are the types of the terms before it; none where its parts break the
-- rule
abbrev pub wanted : List Row → List ℕ → TermForm → Option Wanted
wanted rows known UnitTerm = Some (Form UnitType)
wanted rows known (Num i) = Some (Form IntType)
wanted rows known (Var x) = by_number (variable_type_at rows x)
wanted rows known (Meth m) = by_number (method_type_at rows m)
wanted rows known (Get r) = by_number (global_type_at rows r)
wanted rows known (Lam x a) = function_of (variable_type_at rows x) (slice_get known a)
wanted rows known (Set r a) = cond (same_number (global_type_at rows r) (slice_get known a)) (Some (Form UnitType)) None
wanted rows known (Op o a b) = cond (is_int rows (slice_get known a) && is_int rows (slice_get known b)) (Some (Form IntType)) None
wanted rows known (Pair a b) = pair_of (slice_get known a) (slice_get known b)
wanted rows known (Fst a) = first_part (form_named rows (slice_get known a))
wanted rows known (Snd a) = second_part (form_named rows (slice_get known a))
wanted rows known (App f a) = result_for (slice_get known a) (form_named rows (slice_get known f))
wanted rows known (If c a b) = cond (is_int rows (slice_get known c) && same_number (slice_get known a) (slice_get known b)) (by_number (slice_get known a)) None
wanted rows known (Let x a b) = cond (same_number (variable_type_at rows x) (slice_get known a)) (by_number (slice_get known b)) None
wanted rows known (Assert a) = cond (is_int rows (slice_get known a)) (Some (Form UnitType)) None

-- the number of that type
abbrev pub listed : Option ℕ → Result ℕ TypingFault
listed None = Err Unlisted
listed (Some n) = Ok n

abbrev pub settled : List Row → Option Wanted → Result ℕ TypingFault
settled rows None = Err Parts
settled rows (Some (Number n)) = Ok n
settled rows (Some (Form form)) = listed (number_of_form rows form)

abbrev pub type_of : List Row → List ℕ → TermForm → Result ℕ TypingFault
type_of rows known form = settled rows (wanted rows known form)

-- whether it is this number
abbrev pub gives : Result ℕ TypingFault → ℕ → Bool
gives (Ok m) n = m == n
gives (Err fault) n = false

-- whether a number, where there is one, is that of the type of a term
abbrev pub types_term : List Row → List ℕ → Option ℕ → Option TermForm → Bool
types_term rows known None term = true
types_term rows known (Some n) None = true
types_term rows known (Some n) (Some form) = gives (type_of rows known form) n

-- the numbers are those of the types of the first terms, each found from those before it
abbrev pub TypedBy : List Row → List ℕ → Type 0
TypedBy rows known = (t : ℕ) → types_term rows (take t known) (slice_get known t) (term_at rows t) ≡ true

-- the numbers are those of the leaves of all types
abbrev pub LeavesBy : List Row → List ℕ → Type 0
LeavesBy rows table = (n : ℕ) → n < count Types rows → slice_index table n ≡ leaves (slice_index_or (types rows) n unit)
