-- The rules for methods and globals. Assumes nothing.
use Rattle.std.specs.Prelude.{◌≡◌, ℕ, ◌⊎◌, List, ℤ, Some}
use Rattle.std.specs.List.{slice_get}
use Rattle.rows.specs.declared.forms.MethodForm.{MethodForm}
use Rattle.rows.specs.declared.forms.MethodForm.TheVariants.{Abstract, Public, Private}
use Rattle.rows.specs.declared.forms.TermForm.TheVariants.{Num, Lam}
use Rattle.rows.specs.declared.forms.Row.{Row}
use Rattle.rows.specs.Types.{Tree, int, fun, types}
use Rattle.library.specs.Typing.{TermIs, HasType}
use Rattle.library.specs.Closed.{Closed}
use Rattle.library.specs.Listing.{global_term_at, global_type_at, method_at}

-- the type of number n is that of functions from A to B
pub record FunctionType (rows : List Row) (n : ℕ) : Type 0 where
  pub argument : Tree
  pub result : Tree
  pub named : slice_get (types rows) n ≡ Some (fun argument result)

-- the type of number n is a function type, and term t is a `lam` of that type without free variables
pub record ClosedFunction (rows : List Row) (n t : ℕ) : Type 0 where
  pub typed_as : FunctionType rows n
  pub variable : ℕ
  pub body : ℕ
  pub lam : TermIs rows t (Lam variable body)
  pub typed : HasType rows t (fun typed_as.argument typed_as.result)
  pub closed : Closed rows t

-- the type of number n is int, and term t is a number
pub record Number (rows : List Row) (n t : ℕ) : Type 0 where
  pub int_type : slice_get (types rows) n ≡ Some int
  pub word : ℤ
  pub num : TermIs rows t (Num word)

-- a method's type is a function type, and its term, if it has one, is a closed function of that type
abbrev pub MethodRule : List Row → MethodForm → Type 0
MethodRule rows (Abstract n) = FunctionType rows n
MethodRule rows (Public n t) = ClosedFunction rows n t
MethodRule rows (Private n t) = ClosedFunction rows n t

-- a global of type n with the term t is an int with a number, or a closed function of its type
abbrev pub GlobalRule : List Row → ℕ → ℕ → Type 0
GlobalRule rows n t = Number rows n t ⊎ ClosedFunction rows n t

-- each method and each global keeps its rule
pub record SoundDefinitions (rows : List Row) : Type 0 where
  pub methods : (m : ℕ) (form : MethodForm) → method_at rows m ≡ Some form → MethodRule rows form
  pub globals : (r n t : ℕ) → global_type_at rows r ≡ Some n → global_term_at rows r ≡ Some t → GlobalRule rows n t
