-- The typing rules, one for each form of a term. Variables, methods and globals have one declared type each, so that no
-- context is needed. Assumes nothing.
use Rattle.std.specs.Prelude.{◌≡◌, ℕ, List, ℤ, Some, Option}
use Rattle.std.specs.List.{slice_get}
use Rattle.arithmetic.specs.declared.Operation.{Operation}
use Rattle.rows.specs.declared.forms.TermForm.{TermForm}
use Rattle.rows.specs.declared.forms.TermForm.TheVariants.{Unit as UnitTerm, Num, Var, Meth, Get, Lam, Set, Op, Pair, Fst, Snd, App, If, Let, Assert}
use Rattle.rows.specs.declared.forms.Row.{Row}
use Rattle.rows.specs.Types.{Tree, unit, int, pair, fun, types}
use Rattle.library.specs.Listing.{term_at, variable_type_at, method_type_at, global_type_at}

-- term t has this form
abbrev pub TermIs : List Row → ℕ → TermForm → Type 0
TermIs rows t form = term_at rows t ≡ Some form

-- a number, where there is one, names a listed type
pub record Names (rows : List Row) (declared : Option ℕ) (type : Tree) : Type 0 where
  pub number : ℕ
  pub is : declared ≡ Some number
  pub named : slice_get (types rows) number ≡ Some type

-- the declared type of a variable, a method and a global
abbrev pub VariableHas : List Row → ℕ → Tree → Type 0
VariableHas rows x type = Names rows (variable_type_at rows x) type

abbrev pub MethodHas : List Row → ℕ → Tree → Type 0
MethodHas rows m type = Names rows (method_type_at rows m) type

abbrev pub GlobalHas : List Row → ℕ → Tree → Type 0
GlobalHas rows r type = Names rows (global_type_at rows r) type

-- term t has this type
pub data HasType (rows : List Row) : ℕ → Tree → Type 0 where
  unit_rule : {t : ℕ} → TermIs rows t UnitTerm → HasType rows t unit
  num_rule : {t : ℕ} {i : ℤ} → TermIs rows t (Num i) → HasType rows t int
  var_rule : {t x : ℕ} {A : Tree} → TermIs rows t (Var x) → VariableHas rows x A → HasType rows t A
  meth_rule : {t m : ℕ} {A : Tree} → TermIs rows t (Meth m) → MethodHas rows m A → HasType rows t A
  get_rule : {t r : ℕ} {A : Tree} → TermIs rows t (Get r) → GlobalHas rows r A → HasType rows t A
  lam_rule : {t x a : ℕ} {A B : Tree} → TermIs rows t (Lam x a) → VariableHas rows x A → HasType rows a B → HasType rows t (fun A B)
  set_rule : {t r a : ℕ} {A : Tree} → TermIs rows t (Set r a) → GlobalHas rows r A → HasType rows a A → HasType rows t unit
  op_rule : {t a b : ℕ} {o : Operation} → TermIs rows t (Op o a b) → HasType rows a int → HasType rows b int → HasType rows t int
  pair_rule : {t a b : ℕ} {A B : Tree} → TermIs rows t (Pair a b) → HasType rows a A → HasType rows b B → HasType rows t (pair A B)
  fst_rule : {t a : ℕ} {A B : Tree} → TermIs rows t (Fst a) → HasType rows a (pair A B) → HasType rows t A
  snd_rule : {t a : ℕ} {A B : Tree} → TermIs rows t (Snd a) → HasType rows a (pair A B) → HasType rows t B
  app_rule : {t f a : ℕ} {A B : Tree} → TermIs rows t (App f a) → HasType rows f (fun A B) → HasType rows a A → HasType rows t B
  if_rule : {t c a b : ℕ} {A : Tree} → TermIs rows t (If c a b) → HasType rows c int → HasType rows a A → HasType rows b A → HasType rows t A
  let_rule : {t x a b : ℕ} {A B : Tree} → TermIs rows t (Let x a b) → VariableHas rows x A → HasType rows a A → HasType rows b B → HasType rows t B
  assert_rule : {t a : ℕ} → TermIs rows t (Assert a) → HasType rows a int → HasType rows t unit

-- each term has at most one type
abbrev pub OneType : Type 0
OneType = (rows : List Row) (t : ℕ) (A B : Tree) → HasType rows t A → HasType rows t B → A ≡ B
