-- How the rules for methods and globals are tried, where the types and the free variables of all terms are known. Assumes
-- nothing.
use Rattle.std.specs.Prelude.{ℕ, Bool, true, false, ◌&&◌, ◌||◌, List, Some, None, Option}
use Rattle.std.specs.List.{slice_get}
use Rattle.rows.specs.declared.forms.TypeForm.{TypeForm}
use Rattle.rows.specs.declared.forms.TypeForm.TheVariants.{Unit as UnitType, Int as IntType, Pair as PairType, Fun as FunType}
use Rattle.rows.specs.declared.forms.MethodForm.{MethodForm}
use Rattle.rows.specs.declared.forms.MethodForm.TheVariants.{Abstract, Public, Private}
use Rattle.rows.specs.declared.forms.TermForm.{TermForm}
use Rattle.rows.specs.declared.forms.TermForm.TheVariants.{Unit as UnitTerm, Num, Var, Meth, Get, Lam, Set, Op, Pair, Fst, Snd, App, If, Let, Assert}
use Rattle.rows.specs.declared.forms.Row.{Row}
use Rattle.rows.specs.declared.forms.Row.TheVariants.{«Type» as TypeRow, Variable as VariableRow, Method as MethodRow, Global as GlobalRow, Term as TermRow}
use Rattle.library.specs.Listing.{type_form_at, term_at}
use Rattle.library.specs.Inference.{is_int, same_number}

-- a form of a type is that of functions
abbrev pub is_function : Option TypeForm → Bool
is_function None = false
is_function (Some UnitType) = false
is_function (Some IntType) = false
is_function (Some (PairType a b)) = false
is_function (Some (FunType a b)) = true

-- a term is a `lam`, or a number
abbrev pub is_lam : Option TermForm → Bool
is_lam None = false
is_lam (Some UnitTerm) = false
is_lam (Some (Num i)) = false
is_lam (Some (Var x)) = false
is_lam (Some (Meth m)) = false
is_lam (Some (Get r)) = false
is_lam (Some (Lam x a)) = true
is_lam (Some (Set r a)) = false
is_lam (Some (Op o a b)) = false
is_lam (Some (Pair a b)) = false
is_lam (Some (Fst a)) = false
is_lam (Some (Snd a)) = false
is_lam (Some (App f a)) = false
is_lam (Some (If c a b)) = false
is_lam (Some (Let x a b)) = false
is_lam (Some (Assert a)) = false

abbrev pub is_num : Option TermForm → Bool
is_num None = false
is_num (Some UnitTerm) = false
is_num (Some (Num i)) = true
is_num (Some (Var x)) = false
is_num (Some (Meth m)) = false
is_num (Some (Get r)) = false
is_num (Some (Lam x a)) = false
is_num (Some (Set r a)) = false
is_num (Some (Op o a b)) = false
is_num (Some (Pair a b)) = false
is_num (Some (Fst a)) = false
is_num (Some (Snd a)) = false
is_num (Some (App f a)) = false
is_num (Some (If c a b)) = false
is_num (Some (Let x a b)) = false
is_num (Some (Assert a)) = false

-- whether term t is a closed function of type n, by the types and the free variables of all terms
abbrev pub closed_function : List Row → List ℕ → List ℕ → ℕ → ℕ → Bool
closed_function rows known free n t = is_function (type_form_at rows n) && (is_lam (term_at rows t) && (same_number (Some n) (slice_get known t) && same_number (Some 0) (slice_get free t)))

abbrev pub method_stands : List Row → List ℕ → List ℕ → MethodForm → Bool
method_stands rows known free (Abstract n) = is_function (type_form_at rows n)
method_stands rows known free (Public n t) = closed_function rows known free n t
method_stands rows known free (Private n t) = closed_function rows known free n t

abbrev pub global_stands : List Row → List ℕ → List ℕ → ℕ → ℕ → Bool
global_stands rows known free n t = (is_int rows (Some n) && is_num (term_at rows t)) || closed_function rows known free n t

-- whether a row keeps the rule for methods or globals
abbrev pub stands : List Row → List ℕ → List ℕ → Row → Bool
stands rows known free (TypeRow n f) = true
stands rows known free (VariableRow x n) = true
stands rows known free (MethodRow m f) = method_stands rows known free f
stands rows known free (GlobalRow r n t) = global_stands rows known free n t
stands rows known free (TermRow t f) = true
