-- The rules for methods and globals are kept where they are found to be kept. Assumes nothing.
use Rattle.std.proofs.lemmas.Option.{same_Some}
use Rattle.std.proofs.Common.{◌≡◌, ℕ, ◌^◌, ◌<◌, true, false, ◌&&◌, List, length, get_or, ℤ, Some, None, Option, sym, refl, ap, ◌∙◌, subst, inl, inr, ⊎_elim, arith, eq-eqb}
use Rattle.std.specs.List.{slice_get}
use Rattle.std.proofs.lemmas.Bool.{and_parts, and_from, or_cases, or_left, or_right}
use Rattle.faults.specs.declared.TypingFault.TheVariants.{Definition}
use Rattle.rows.specs.declared.forms.TypeForm.{TypeForm}
use Rattle.rows.specs.declared.forms.TypeForm.TheVariants.{Unit as UnitType, Int as IntType, Pair as PairType, Fun as FunType}
use Rattle.rows.specs.declared.forms.TermForm.{TermForm}
use Rattle.rows.specs.declared.forms.TermForm.TheVariants.{Unit as UnitTerm, Num, Var, Meth, Get, Lam, Set, Op, Pair, Fst, Snd, App, If, Let, Assert}
use Rattle.rows.specs.declared.forms.Row.{Row}
use Rattle.rows.specs.declared.forms.Section.TheVariants.{Terms}
use Rattle.rows.specs.Types.{unit, fun, types}
use Rattle.rows.specs.Faults.{Faultless}
use Rattle.library.specs.Listing.{section_rows, type_form_at, term_at}
use Rattle.library.specs.Typing.{HasType}
use Rattle.library.proofs.Lists.{nth_there}
use Rattle.rows.specs.declared.forms.MethodForm.{MethodForm}
use Rattle.rows.specs.declared.forms.MethodForm.TheVariants.{Abstract, Public, Private}
use Rattle.rows.specs.declared.forms.Row.TheVariants.{«Type» as TypeRow, Variable as VariableRow, Method as MethodRow, Global as GlobalRow, Term as TermRow}
use Rattle.library.specs.Definitions.{FunctionType, ClosedFunction, MethodRule, GlobalRule}
use Rattle.library.specs.Inference.{is_int, same_number}
use Rattle.library.specs.Judging.{is_function, is_lam, is_num, closed_function, method_stands, global_stands, stands}
use Rattle.library.specs.Mounting.{HasTypingFault}
use Rattle.library.specs.Scopes.{ScopedBy}
use Rattle.library.proofs.Sorted.{type_named, term_inside}
use Rattle.library.proofs.Numbered.{listed_as, tree_once, fun_form}
use Rattle.library.proofs.Unique.{one_type}
use Rattle.library.proofs.Inferring.{Known, int_said, int_told, same_said}
use Rattle.library.proofs.Scoping.{closed_empty, closed_told}

pub function_said : (o : Option TypeForm) → is_function o ≡ true → (a : ℕ) × (b : ℕ) × (o ≡ Some (FunType a b))
function_said None e = cc
function_said (Some UnitType) e = cc
function_said (Some IntType) e = cc
function_said (Some (PairType a b)) e = cc
function_said (Some (FunType a b)) e = (a, b, refl)

pub lam_said : (o : Option TermForm) → is_lam o ≡ true → (x : ℕ) × (a : ℕ) × (o ≡ Some (Lam x a))
lam_said None e = cc
lam_said (Some UnitTerm) e = cc
lam_said (Some (Num i)) e = cc
lam_said (Some (Var x)) e = cc
lam_said (Some (Meth m)) e = cc
lam_said (Some (Get r)) e = cc
lam_said (Some (Lam x a)) e = (x, a, refl)
lam_said (Some (Set r a)) e = cc
lam_said (Some (Op o a b)) e = cc
lam_said (Some (Pair a b)) e = cc
lam_said (Some (Fst a)) e = cc
lam_said (Some (Snd a)) e = cc
lam_said (Some (App f a)) e = cc
lam_said (Some (If c a b)) e = cc
lam_said (Some (Let x a b)) e = cc
lam_said (Some (Assert a)) e = cc

pub num_said : (o : Option TermForm) → is_num o ≡ true → (i : ℤ) × (o ≡ Some (Num i))
num_said None e = cc
num_said (Some UnitTerm) e = cc
num_said (Some (Num i)) e = (i, refl)
num_said (Some (Var x)) e = cc
num_said (Some (Meth m)) e = cc
num_said (Some (Get r)) e = cc
num_said (Some (Lam x a)) e = cc
num_said (Some (Set r a)) e = cc
num_said (Some (Op o a b)) e = cc
num_said (Some (Pair a b)) e = cc
num_said (Some (Fst a)) e = cc
num_said (Some (Snd a)) e = cc
num_said (Some (App f a)) e = cc
num_said (Some (If c a b)) e = cc
num_said (Some (Let x a b)) e = cc
num_said (Some (Assert a)) e = cc

module _ (rows : List Row) (fine : Faultless rows) (known sets : List ℕ) (each : Known rows fine known) (scoped : ScopedBy rows sets) (all_Known : length known ≡ length (section_rows Terms rows)) (all_sets : length sets ≡ length (section_rows Terms rows)) (small : (t s : ℕ) → slice_get sets t ≡ Some s → s < 2 ^ 64) where
  function_kept : (n : ℕ) → is_function (type_form_at rows n) ≡ true → FunctionType rows n
  function_kept n e =
      let f = function_said (type_form_at rows n) e in
      record { argument = get_or (types rows) f.0 unit; result = get_or (types rows) f.1 unit; named = (type_named rows fine n (FunType f.0 f.1) f.2).1 }

  function_told : (n : ℕ) → FunctionType rows n → is_function (type_form_at rows n) ≡ true
  function_told n h =
      let l = listed_as rows fine n (fun h.argument h.result) h.named in
      let f = fun_form (types rows) h.argument h.result l.form l.is in
      ap is_function (l.at ∙ ap Some f.2)

  closed_kept : (n t : ℕ) → closed_function rows known sets n t ≡ true → ClosedFunction rows n t
  closed_kept n t e =
      let p = and_parts (is_function (type_form_at rows n)) (is_lam (term_at rows t) && (same_number (Some n) (slice_get known t) && same_number (Some 0) (slice_get sets t))) e in
      let q = and_parts (is_lam (term_at rows t)) (same_number (Some n) (slice_get known t) && same_number (Some 0) (slice_get sets t)) p.1 in
      let r = and_parts (same_number (Some n) (slice_get known t)) (same_number (Some 0) (slice_get sets t)) q.1 in
      let f = function_kept n p.0 in
      let l = lam_said (term_at rows t) q.0 in
      let k = same_said (Some n) (slice_get known t) r.0 in
      let z = same_said (Some 0) (slice_get sets t) r.1 in
      let here : slice_get known t ≡ Some n = k.2 ∙ sym k.1 in
      let empty : slice_get sets t ≡ Some 0 = z.2 ∙ sym z.1 in
      let h = each t n here in
      record {
        typed_as = f;
        variable = l.0;
        body = l.1;
        lam = l.2;
        typed = subst (HasType rows t) (same_Some _ _ (sym h.1 ∙ f.named)) h.2;
        closed = closed_empty rows fine sets scoped t empty;
      }

  closed_function_told : (n t : ℕ) → ClosedFunction rows n t → closed_function rows known sets n t ≡ true
  closed_function_told n t h =
      let inside = term_inside rows fine t (Lam h.variable h.body) h.lam in
      let k = nth_there known t (omega (arith, inside, all_Known)) in
      let s = nth_there sets t (omega (arith, inside, all_sets)) in
      let p = each t k.0 k.1 in
      let A = fun h.typed_as.argument h.typed_as.result in
      let same : n ≡ k.0 = tree_once rows fine A n k.0 h.typed_as.named (p.1 ∙ ap Some (one_type rows t p.0 A p.2 h.typed)) in
      let empty : s.0 ≡ 0 = closed_told rows fine sets scoped t s.0 (Lam h.variable h.body) (small t s.0 s.1) h.lam s.1 h.closed in
      and_from _ _ (function_told n h.typed_as) (and_from _ _ (ap is_lam h.lam) (and_from _ _ (ap (same_number (Some n)) k.1 ∙ eq-eqb n k.0 same) (ap (same_number (Some 0)) s.1 ∙ eq-eqb 0 s.0 (sym empty))))

  pub method_kept : (f : MethodForm) → method_stands rows known sets f ≡ true → MethodRule rows f
  method_kept (Abstract n) e = function_kept n e
  method_kept (Public n t) e = closed_kept n t e
  method_kept (Private n t) e = closed_kept n t e

  method_told : (f : MethodForm) → MethodRule rows f → method_stands rows known sets f ≡ true
  method_told (Abstract n) h = function_told n h
  method_told (Public n t) h = closed_function_told n t h
  method_told (Private n t) h = closed_function_told n t h

  pub global_kept : (n t : ℕ) → global_stands rows known sets n t ≡ true → GlobalRule rows n t
  global_kept n t e =
      ⊎_elim
      (λ h.
      let p = and_parts (is_int rows (Some n)) (is_num (term_at rows t)) h in
      let i = int_said rows fine (Some n) p.0 in
      let w = num_said (term_at rows t) p.1 in
      inl (record { int_type = ap (slice_get (types rows)) (same_Some _ _ i.1) ∙ i.2; word = w.0; num = w.1 })) (λ h. inr (closed_kept n t h)) (or_cases (is_int rows (Some n) && is_num (term_at rows t)) (closed_function rows known sets n t) e)

  global_told : (n t : ℕ) → GlobalRule rows n t → global_stands rows known sets n t ≡ true
  global_told n t =
      ⊎_elim (λ h. or_left _ _ (and_from _ _ (int_told rows fine n h.int_type) (ap is_num h.num))) (λ h. or_right _ _ (closed_function_told n t h))

  -- a row that is found to keep its rule has no fault of definition, and one that isn't has
  pub stands_right : (row : Row) → stands rows known sets row ≡ true → HasTypingFault rows row Definition → ⊥
  stands_right (TypeRow n f) e h = h
  stands_right (VariableRow n t) e h = h
  stands_right (MethodRow n f) e h = h (method_kept f e)
  stands_right (GlobalRow n t u) e h = h (global_kept t u e)
  stands_right (TermRow n f) e h = h

  pub stands_not : (row : Row) → stands rows known sets row ≡ false → HasTypingFault rows row Definition
  stands_not (TypeRow n f) e = cc
  stands_not (VariableRow n t) e = cc
  stands_not (MethodRow n f) e = λ h. let z : true ≡ false = sym (method_told f h) ∙ e in cc
  stands_not (GlobalRow n t u) e = λ h. let z : true ≡ false = sym (global_told t u h) ∙ e in cc
  stands_not (TermRow n f) e = cc
