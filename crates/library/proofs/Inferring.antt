-- The type that is found for a term is the type that it has. Assumes nothing.
use Rattle.std.proofs.lemmas.Option.{none-some, same_Some}
use Rattle.std.proofs.Common.{◌≡◌, ℕ, ◌<◌, Bool, true, false, cond, ◌&&◌, List, length, get_or, Some, None, Ok, Err, Option, sym, refl, ap, ◌∙◌, subst, arith, eq-eqb, true-eqb}
use Rattle.std.specs.List.{slice_get}
use Rattle.std.proofs.lemmas.Option.{slice_get-get_or}
use Rattle.std.proofs.lemmas.Bool.{and_parts, and_from}
use Rattle.faults.specs.declared.TypingFault.TheVariants.{Parts, Unlisted, Definition}
use Rattle.rows.specs.declared.forms.TypeForm.{TypeForm}
use Rattle.rows.specs.declared.forms.TypeForm.TheVariants.{Unit as UnitType, Int as IntType, Pair as PairType, Fun as FunType}
use Rattle.rows.specs.declared.forms.TermForm.{TermForm}
use Rattle.rows.specs.declared.forms.TermForm.TheVariants.{Unit as UnitTerm, Num, Var, Meth, Get, Lam, Set, Op, Pair, Fst, Snd, App, If, Let, Assert}
use Rattle.rows.specs.declared.forms.Row.{Row}
use Rattle.rows.specs.declared.forms.Section.TheVariants.{Types}
use Rattle.rows.specs.Types.{Tree, unit, int, pair, fun, tree, types}
use Rattle.rows.specs.Faults.{Faultless}
use Rattle.library.specs.Listing.{section_rows, type_form_at, variable_type_at, method_type_at, global_type_at}
use Rattle.library.specs.Typing.{TermIs, HasType, unit_rule, num_rule, var_rule, meth_rule, get_rule, lam_rule, set_rule, op_rule, pair_rule, fst_rule, snd_rule, app_rule, if_rule, let_rule, assert_rule}
use Rattle.library.proofs.Lists.{nth_inside, nth_there}
use Rattle.library.specs.declared.wanted.Wanted.{Wanted}
use Rattle.library.specs.declared.wanted.Wanted.TheVariants.{Number, Form}
use Rattle.library.specs.Inference.{number_of_form, by_number, function_of, pair_of, same_number, form_named, first_part, second_part, result_for, is_int, wanted, listed, settled, type_of}
use Rattle.library.specs.Mounting.{TypeUnlisted}
use Rattle.library.proofs.Lists.{is_form_true, is_form_told, found_form, not_found}
use Rattle.library.proofs.Sorted.{PartsBelow, type_named, variable_below, method_below, global_below, term_back}
use Rattle.library.proofs.Unique.{ruled, one_type}
use Rattle.library.proofs.Numbered.{listed_as, named_at, tree_once, same_tree_form, int_form, pair_form, fun_form}

-- what follows from a type that is wanted
number_said : (o : Option ℕ) (w : Wanted) → by_number o ≡ Some w → (n : ℕ) × (o ≡ Some n) × (w ≡ Number n)
number_said None w e = cc
number_said (Some n) w e = (n, refl, cc)

function_said : (o p : Option ℕ) (w : Wanted) → function_of o p ≡ Some w → (a : ℕ) × (b : ℕ) × (o ≡ Some a) × (p ≡ Some b) × (w ≡ Form (FunType a b))
function_said None p w e = cc
function_said (Some a) None w e = cc
function_said (Some a) (Some b) w e = (a, b, refl, refl, cc)

pair_said : (o p : Option ℕ) (w : Wanted) → pair_of o p ≡ Some w → (a : ℕ) × (b : ℕ) × (o ≡ Some a) × (p ≡ Some b) × (w ≡ Form (PairType a b))
pair_said None p w e = cc
pair_said (Some a) None w e = cc
pair_said (Some a) (Some b) w e = (a, b, refl, refl, cc)

kept_said : (b : Bool) (o : Option Wanted) (w : Wanted) → cond b o None ≡ Some w → (b ≡ true) × (o ≡ Some w)
kept_said true o w e = (refl, e)
kept_said false o w e = cc

pub same_said : (o p : Option ℕ) → same_number o p ≡ true → (n : ℕ) × (o ≡ Some n) × (p ≡ Some n)
same_said None p e = cc
same_said (Some a) None e = cc
same_said (Some a) (Some b) e = (a, refl, ap Some (sym (true-eqb a b (sym e))))

first_said : (o : Option TypeForm) (w : Wanted) → first_part o ≡ Some w → (a : ℕ) × (b : ℕ) × (o ≡ Some (PairType a b)) × (w ≡ Number a)
first_said None w e = cc
first_said (Some UnitType) w e = cc
first_said (Some IntType) w e = cc
first_said (Some (PairType a b)) w e = (a, b, refl, cc)
first_said (Some (FunType a b)) w e = cc

second_said : (o : Option TypeForm) (w : Wanted) → second_part o ≡ Some w → (a : ℕ) × (b : ℕ) × (o ≡ Some (PairType a b)) × (w ≡ Number b)
second_said None w e = cc
second_said (Some UnitType) w e = cc
second_said (Some IntType) w e = cc
second_said (Some (PairType a b)) w e = (a, b, refl, cc)
second_said (Some (FunType a b)) w e = cc

result_said : (p : Option ℕ) (o : Option TypeForm) (w : Wanted) → result_for p o ≡ Some w → (a : ℕ) × (b : ℕ) × (o ≡ Some (FunType a b)) × (p ≡ Some a) × (w ≡ Number b)
result_said p None w e = cc
result_said p (Some UnitType) w e = cc
result_said p (Some IntType) w e = cc
result_said p (Some (PairType a b)) w e = cc
result_said p (Some (FunType a b)) w e =
    let k = kept_said (same_number (Some a) p) (Some (Number b)) w e in
    let s = same_said (Some a) p k.0 in
    (a, b, refl, s.2 ∙ sym s.1, sym (same_Some _ _ k.1))

module _ (rows : List Row) (fine : Faultless rows) where
  named_said : (o : Option ℕ) (f : TypeForm) → form_named rows o ≡ Some f → (n : ℕ) × (o ≡ Some n) × (type_form_at rows n ≡ Some f)
  named_said None f e = cc
  named_said (Some n) f e = (n, refl, e)

  pub int_said : (o : Option ℕ) → is_int rows o ≡ true → (n : ℕ) × (o ≡ Some n) × (slice_get (types rows) n ≡ Some int)
  int_said o e =
      let k = named_said o IntType (is_form_true IntType (form_named rows o) e) in
      (k.0, k.1, (type_named rows fine k.0 IntType k.2).1)

  pub int_told : (n : ℕ) → slice_get (types rows) n ≡ Some int → is_int rows (Some n) ≡ true
  int_told n e =
      let f = listed_as rows fine n int e in
      is_form_told IntType (type_form_at rows n) (f.at ∙ ap Some (int_form (types rows) f.form f.is))

  -- a wanted type is this one
  abbrev pub Wants : Wanted → Tree → Type 0
  Wants (Number n) A = slice_get (types rows) n ≡ Some A
  Wants (Form f) A = PartsBelow (length (types rows)) f × (A ≡ tree (types rows) f)

  -- each number is that of a term's type
  abbrev pub Known : List ℕ → Type 0
  Known known = (j k : ℕ) → slice_get known j ≡ Some k → (A : Tree) × (slice_get (types rows) k ≡ Some A) × HasType rows j A

  module _ (known : List ℕ) (each : Known known) where
    -- the type of a part whose number is known to be that of a type
    part_has : (j k : ℕ) (A : Tree) → slice_get known j ≡ Some k → slice_get (types rows) k ≡ Some A → HasType rows j A
    part_has j k A e g =
        let p = each j k e in
        subst (HasType rows j) (same_Some _ _ (sym p.1 ∙ g)) p.2

    pub sound : (t : ℕ) (form : TermForm) (w : Wanted) → TermIs rows t form → wanted rows known form ≡ Some w → (A : Tree) × Wants w A × HasType rows t A
    sound t UnitTerm w h e = subst (λ v. (A : Tree) × Wants v A × HasType rows t A) (same_Some _ _ e) (unit, (tt, refl), unit_rule h)
    sound t (Num i) w h e = subst (λ v. (A : Tree) × Wants v A × HasType rows t A) (same_Some _ _ e) (int, (tt, refl), num_rule h)
    sound t (Var x) w h e =
        let s = number_said (variable_type_at rows x) w e in
        let a = nth_there (types rows) s.0 (variable_below rows fine x s.0 s.1) in
        subst (λ v. (A : Tree) × Wants v A × HasType rows t A) (sym s.2) (a.0, a.1, var_rule h (record { number = s.0; is = s.1; named = a.1 }))
    sound t (Meth m) w h e =
        let s = number_said (method_type_at rows m) w e in
        let a = nth_there (types rows) s.0 (method_below rows fine m s.0 s.1) in
        subst (λ v. (A : Tree) × Wants v A × HasType rows t A) (sym s.2) (a.0, a.1, meth_rule h (record { number = s.0; is = s.1; named = a.1 }))
    sound t (Get r) w h e =
        let s = number_said (global_type_at rows r) w e in
        let a = nth_there (types rows) s.0 (global_below rows fine r s.0 s.1) in
        subst (λ v. (A : Tree) × Wants v A × HasType rows t A) (sym s.2) (a.0, a.1, get_rule h (record { number = s.0; is = s.1; named = a.1 }))
    sound t (Lam x a) w h e =
        let s = function_said (variable_type_at rows x) (slice_get known a) w e in
        let u = nth_there (types rows) s.0 (variable_below rows fine x s.0 s.2) in
        let p = each a s.1 s.3 in
        let i = nth_inside (types rows) s.0 u.0 u.1 in
        let j = nth_inside (types rows) s.1 p.0 p.1 in
        let x' : u.0 ≡ get_or (types rows) s.0 unit = same_Some _ _ (sym u.1 ∙ slice_get-get_or (types rows) s.0 unit i) in
        let y' : p.0 ≡ get_or (types rows) s.1 unit = same_Some _ _ (sym p.1 ∙ slice_get-get_or (types rows) s.1 unit j) in
        let z : fun u.0 p.0 ≡ fun (get_or (types rows) s.0 unit) (get_or (types rows) s.1 unit) = cc in
        subst (λ v. (A : Tree) × Wants v A × HasType rows t A) (sym s.4) (fun u.0 p.0, ((i, j), z), lam_rule h (record { number = s.0; is = s.2; named = u.1 }) p.2)
    sound t (Set r a) w h e =
        let k = kept_said (same_number (global_type_at rows r) (slice_get known a)) (Some (Form UnitType)) w e in
        let s = same_said (global_type_at rows r) (slice_get known a) k.0 in
        let p = each a s.0 s.2 in
        subst (λ v. (A : Tree) × Wants v A × HasType rows t A) (same_Some _ _ k.1) (unit, (tt, refl), set_rule h (record { number = s.0; is = s.1; named = p.1 }) p.2)
    sound t (Op o a b) w h e =
        let k = kept_said (is_int rows (slice_get known a) && is_int rows (slice_get known b)) (Some (Form IntType)) w e in
        let q = and_parts (is_int rows (slice_get known a)) (is_int rows (slice_get known b)) k.0 in
        let x = int_said (slice_get known a) q.0 in
        let y = int_said (slice_get known b) q.1 in
        subst (λ v. (A : Tree) × Wants v A × HasType rows t A) (same_Some _ _ k.1) (int, (tt, refl), op_rule h (part_has a x.0 int x.1 x.2) (part_has b y.0 int y.1 y.2))
    sound t (Pair a b) w h e =
        let s = pair_said (slice_get known a) (slice_get known b) w e in
        let u = each a s.0 s.2 in
        let p = each b s.1 s.3 in
        let i = nth_inside (types rows) s.0 u.0 u.1 in
        let j = nth_inside (types rows) s.1 p.0 p.1 in
        let x' : u.0 ≡ get_or (types rows) s.0 unit = same_Some _ _ (sym u.1 ∙ slice_get-get_or (types rows) s.0 unit i) in
        let y' : p.0 ≡ get_or (types rows) s.1 unit = same_Some _ _ (sym p.1 ∙ slice_get-get_or (types rows) s.1 unit j) in
        let z : pair u.0 p.0 ≡ pair (get_or (types rows) s.0 unit) (get_or (types rows) s.1 unit) = cc in
        subst (λ v. (A : Tree) × Wants v A × HasType rows t A) (sym s.4) (pair u.0 p.0, ((i, j), z), pair_rule h u.2 p.2)
    sound t (Fst a) w h e =
        let s = first_said (form_named rows (slice_get known a)) w e in
        let n = named_said (slice_get known a) (PairType s.0 s.1) s.2 in
        let y = type_named rows fine n.0 (PairType s.0 s.1) n.2 in
        let lt = nth_inside (types rows) n.0 _ y.1 in
        subst (λ v. (A : Tree) × Wants v A × HasType rows t A) (sym s.3)
        (get_or (types rows) s.0 unit, named_at rows fine s.0 _ (omega (arith, lt, y.0.0)) refl, fst_rule h (part_has a n.0 _ n.1 y.1))
    sound t (Snd a) w h e =
        let s = second_said (form_named rows (slice_get known a)) w e in
        let n = named_said (slice_get known a) (PairType s.0 s.1) s.2 in
        let y = type_named rows fine n.0 (PairType s.0 s.1) n.2 in
        let lt = nth_inside (types rows) n.0 _ y.1 in
        subst (λ v. (A : Tree) × Wants v A × HasType rows t A) (sym s.3)
        (get_or (types rows) s.1 unit, named_at rows fine s.1 _ (omega (arith, lt, y.0.1)) refl, snd_rule h (part_has a n.0 _ n.1 y.1))
    sound t (App f a) w h e =
        let s = result_said (slice_get known a) (form_named rows (slice_get known f)) w e in
        let n = named_said (slice_get known f) (FunType s.0 s.1) s.2 in
        let y = type_named rows fine n.0 (FunType s.0 s.1) n.2 in
        let lt = nth_inside (types rows) n.0 _ y.1 in
        subst (λ v. (A : Tree) × Wants v A × HasType rows t A) (sym s.4) (
          get_or (types rows) s.1 unit,
          named_at rows fine s.1 _ (omega (arith, lt, y.0.1)) refl,
          app_rule h (part_has f n.0 _ n.1 y.1) (part_has a s.0 _ s.3 (named_at rows fine s.0 _ (omega (arith, lt, y.0.0)) refl)),
        )
    sound t (If c a b) w h e =
        let k = kept_said (is_int rows (slice_get known c) && same_number (slice_get known a) (slice_get known b)) (by_number (slice_get known a)) w e in
        let q = and_parts (is_int rows (slice_get known c)) (same_number (slice_get known a) (slice_get known b)) k.0 in
        let x = int_said (slice_get known c) q.0 in
        let s = same_said (slice_get known a) (slice_get known b) q.1 in
        let n = number_said (slice_get known a) w k.1 in
        let p = each a s.0 s.1 in
        let m : w ≡ Number s.0 = n.2 ∙ ap Number (same_Some _ _ (sym n.1 ∙ s.1)) in
        subst (λ v. (A : Tree) × Wants v A × HasType rows t A) (sym m) (p.0, p.1, if_rule h (part_has c x.0 int x.1 x.2) p.2 (part_has b s.0 p.0 s.2 p.1))
    sound t (Let x a b) w h e =
        let k = kept_said (same_number (variable_type_at rows x) (slice_get known a)) (by_number (slice_get known b)) w e in
        let s = same_said (variable_type_at rows x) (slice_get known a) k.0 in
        let n = number_said (slice_get known b) w k.1 in
        let p = each a s.0 s.2 in
        let q = each b n.0 n.1 in
        subst (λ v. (A : Tree) × Wants v A × HasType rows t A) (sym n.2) (q.0, q.1, let_rule h (record { number = s.0; is = s.1; named = p.1 }) p.2 q.2)
    sound t (Assert a) w h e =
        let k = kept_said (is_int rows (slice_get known a)) (Some (Form UnitType)) w e in
        let x = int_said (slice_get known a) k.0 in
        subst (λ v. (A : Tree) × Wants v A × HasType rows t A) (same_Some _ _ k.1) (unit, (tt, refl), assert_rule h (part_has a x.0 int x.1 x.2))

    -- a part that has a type has its number
    part_known : (t j : ℕ) (A : Tree) → length known ≡ t → j < t → HasType rows j A → (k : ℕ) × (slice_get known j ≡ Some k) × (slice_get (types rows) k ≡ Some A)
    part_known t j A long lt d =
        let k = nth_there known j (omega (arith, long)) in
        let p = each j k.0 k.1 in
        (k.0, k.1, p.1 ∙ ap Some (one_type rows j p.0 A p.2 d))

    pub complete : (t : ℕ) (form : TermForm) (A : Tree) → length known ≡ t → TermIs rows t form → HasType rows t A → (w : Wanted) × (wanted rows known form ≡ Some w)
    complete t UnitTerm A long h d = (Form UnitType, refl)
    complete t (Num i) A long h d = (Form IntType, refl)
    complete t (Var x) A long h d = let v = ruled d (Var x) h in (Number v.number, ap by_number v.is)
    complete t (Meth m) A long h d = let v = ruled d (Meth m) h in (Number v.number, ap by_number v.is)
    complete t (Get r) A long h d = let v = ruled d (Get r) h in (Number v.number, ap by_number v.is)
    complete t (Lam x a) A long h d =
        let r = ruled d (Lam x a) h in
        let b = term_back rows fine t (Lam x a) h in
        let p = part_known t a r.1 long (omega (arith, b.1.1.0, b.2)) r.3 in
        (Form (FunType r.2.number p.0), ap (λ o. function_of o (slice_get known a)) r.2.is ∙ ap (function_of (Some r.2.number)) p.1)
    complete t (Set g a) A long h d =
        let r = ruled d (Set g a) h in
        let b = term_back rows fine t (Set g a) h in
        let p = part_known t a r.0 long (omega (arith, b.1.1.0, b.2)) r.2 in
        let same : r.1.number ≡ p.0 = tree_once rows fine r.0 r.1.number p.0 r.1.named p.2 in (
          Form UnitType,
          ap (λ o. cond (same_number o (slice_get known a)) (Some (Form UnitType)) None) r.1.is
              ∙ ap (λ o. cond (same_number (Some r.1.number) o) (Some (Form UnitType)) None) p.1
              ∙ ap (λ b. cond b (Some (Form UnitType)) None) (eq-eqb r.1.number p.0 same),
        )
    complete t (Op o a b) A long h d =
        let r = ruled d (Op o a b) h in
        let back = term_back rows fine t (Op o a b) h in
        let p = part_known t a int long (omega (arith, back.1.0, back.2)) r.0 in
        let q = part_known t b int long (omega (arith, back.1.1.0, back.2)) r.1 in
        let x : is_int rows (slice_get known a) ≡ true = ap (is_int rows) p.1 ∙ int_told p.0 p.2 in
        let y : is_int rows (slice_get known b) ≡ true = ap (is_int rows) q.1 ∙ int_told q.0 q.2 in
        (Form IntType, ap (λ c. cond c (Some (Form IntType)) None) (and_from _ _ x y))
    complete t (Pair a b) A long h d =
        let r = ruled d (Pair a b) h in
        let back = term_back rows fine t (Pair a b) h in
        let p = part_known t a r.0 long (omega (arith, back.1.0, back.2)) r.2 in
        let q = part_known t b r.1 long (omega (arith, back.1.1.0, back.2)) r.3 in
        (Form (PairType p.0 q.0), ap (λ o. pair_of o (slice_get known b)) p.1 ∙ ap (pair_of (Some p.0)) q.1)
    complete t (Fst a) A long h d =
        let r = ruled d (Fst a) h in
        let back = term_back rows fine t (Fst a) h in
        let p = part_known t a (pair A r.0) long (omega (arith, back.1.0, back.2)) r.1 in
        let f = listed_as rows fine p.0 (pair A r.0) p.2 in
        let g = pair_form (types rows) A r.0 f.form f.is in
        (Number g.0, ap (λ o. first_part (form_named rows o)) p.1 ∙ ap first_part (f.at ∙ ap Some g.2))
    complete t (Snd a) A long h d =
        let r = ruled d (Snd a) h in
        let back = term_back rows fine t (Snd a) h in
        let p = part_known t a (pair r.0 A) long (omega (arith, back.1.0, back.2)) r.1 in
        let f = listed_as rows fine p.0 (pair r.0 A) p.2 in
        let g = pair_form (types rows) r.0 A f.form f.is in
        (Number g.1, ap (λ o. second_part (form_named rows o)) p.1 ∙ ap second_part (f.at ∙ ap Some g.2))
    complete t (App k a) A long h d =
        let r = ruled d (App k a) h in
        let back = term_back rows fine t (App k a) h in
        let p = part_known t k (fun r.0 A) long (omega (arith, back.1.0, back.2)) r.1 in
        let q = part_known t a r.0 long (omega (arith, back.1.1.0, back.2)) r.2 in
        let f = listed_as rows fine p.0 (fun r.0 A) p.2 in
        let g = fun_form (types rows) r.0 A f.form f.is in
        let below : PartsBelow (length (types rows)) (FunType g.0 g.1) = subst (PartsBelow (length (types rows))) g.2 f.below in
        let same : g.0 ≡ q.0 = tree_once rows fine r.0 g.0 q.0 (named_at rows fine g.0 r.0 below.0 g.3) q.2 in (
          Number g.1,
          ap (λ o. result_for (slice_get known a) (form_named rows o)) p.1
              ∙ ap (result_for (slice_get known a)) (f.at ∙ ap Some g.2)
              ∙ ap (λ o. cond (same_number (Some g.0) o) (Some (Number g.1)) None) q.1
              ∙ ap (λ c. cond c (Some (Number g.1)) None) (eq-eqb g.0 q.0 same),
        )
    complete t (If c a b) A long h d =
        let r = ruled d (If c a b) h in
        let back = term_back rows fine t (If c a b) h in
        let o = part_known t c int long (omega (arith, back.1.0, back.2)) r.0 in
        let p = part_known t a A long (omega (arith, back.1.1.0, back.2)) r.1 in
        let q = part_known t b A long (omega (arith, back.1.1.1.0, back.2)) r.2 in
        let x : is_int rows (slice_get known c) ≡ true = ap (is_int rows) o.1 ∙ int_told o.0 o.2 in
        let y : same_number (slice_get known a) (slice_get known b) ≡ true =
        ap (λ v. same_number v (slice_get known b)) p.1 ∙ ap (same_number (Some p.0)) q.1 ∙ eq-eqb p.0 q.0 (tree_once rows fine A p.0 q.0 p.2 q.2) in
        (Number p.0, ap (λ v. cond v (by_number (slice_get known a)) None) (and_from _ _ x y) ∙ ap by_number p.1)
    complete t (Let x a b) A long h d =
        let r = ruled d (Let x a b) h in
        let back = term_back rows fine t (Let x a b) h in
        let p = part_known t a r.0 long (omega (arith, back.1.1.0, back.2)) r.2 in
        let q = part_known t b A long (omega (arith, back.1.1.1.0, back.2)) r.3 in
        let y : same_number (variable_type_at rows x) (slice_get known a) ≡ true =
        ap (λ v. same_number v (slice_get known a)) r.1.is ∙ ap (same_number (Some r.1.number)) p.1 ∙ eq-eqb r.1.number p.0 (tree_once rows fine r.0 r.1.number p.0 r.1.named p.2) in
        (Number q.0, ap (λ v. cond v (by_number (slice_get known b)) None) y ∙ ap by_number q.1)
    complete t (Assert a) A long h d =
        let r = ruled d (Assert a) h in
        let back = term_back rows fine t (Assert a) h in
        let p = part_known t a int long (omega (arith, back.1.0, back.2)) r.0 in
        (Form UnitType, ap (λ c. cond c (Some (Form UnitType)) None) (ap (is_int rows) p.1 ∙ int_told p.0 p.2))

    -- what is found, and what isn't
    module _ (t : ℕ) (form : TermForm) (is : TermIs rows t form) where
      unlisted_form : (f : TypeForm) (A : Tree) → PartsBelow (length (types rows)) f → A ≡ tree (types rows) f → number_of_form rows f ≡ None → (n : ℕ) → slice_get (types rows) n ≡ Some A → ⊥
      unlisted_form f A below e none n g =
          let l = listed_as rows fine n A g in
          let same = same_tree_form rows fine l.form f l.below below (sym l.is ∙ e) in
          not_found f (section_rows Types rows) n none (l.at ∙ ap Some same)

      pub found : (n : ℕ) → type_of rows known form ≡ Ok n → (A : Tree) × (slice_get (types rows) n ≡ Some A) × HasType rows t A
      found n e = step (wanted rows known form) refl e
        where
          place : (f : TypeForm) (o : Option ℕ) → number_of_form rows f ≡ o → wanted rows known form ≡ Some (Form f) → listed o ≡ Ok n → (A : Tree) × (slice_get (types rows) n ≡ Some A) × HasType rows t A
          place f None q g h = cc
          place f (Some m) q g h =
              let same : m ≡ n = cc in
              let s = sound t form (Form f) is g in
              let at = (type_named rows fine m f (found_form f (section_rows Types rows) m q)).1 in
              (s.0, ap (slice_get (types rows)) (sym same) ∙ at ∙ ap Some (sym s.1.1), s.2)

          step : (o : Option Wanted) → wanted rows known form ≡ o → settled rows o ≡ Ok n → (A : Tree) × (slice_get (types rows) n ≡ Some A) × HasType rows t A
          step None q h = cc
          step (Some (Number m)) q h =
              let same : m ≡ n = cc in
              let s = sound t form (Number m) is q in
              (s.0, ap (slice_get (types rows)) (sym same) ∙ s.1, s.2)
          step (Some (Form f)) q h = place f (number_of_form rows f) refl q h

      pub no_type : length known ≡ t → type_of rows known form ≡ Err Parts → (A : Tree) → HasType rows t A → ⊥
      no_type long e A d = step (wanted rows known form) refl e
        where
          place : (o : Option ℕ) → listed o ≡ Err Parts → ⊥
          place None h = cc
          place (Some m) h = cc

          step : (o : Option Wanted) → wanted rows known form ≡ o → settled rows o ≡ Err Parts → ⊥
          step None q h = let c = complete t form A long is d in none-some _ (sym q ∙ c.1)
          step (Some (Number m)) q h = cc
          step (Some (Form f)) q h = place (number_of_form rows f) h

      pub unlisted_type : type_of rows known form ≡ Err Unlisted → TypeUnlisted rows t
      unlisted_type e = step (wanted rows known form) refl e
        where
          place : (f : TypeForm) (o : Option ℕ) → number_of_form rows f ≡ o → wanted rows known form ≡ Some (Form f) → listed o ≡ Err Unlisted → TypeUnlisted rows t
          place f None q g h =
              let s = sound t form (Form f) is g in
              record { type = s.0; typed = s.2; unlisted = unlisted_form f s.0 s.1.0 s.1.1 q }
          place f (Some m) q g h = cc

          step : (o : Option Wanted) → wanted rows known form ≡ o → settled rows o ≡ Err Unlisted → TypeUnlisted rows t
          step None q h = cc
          step (Some (Number m)) q h = cc
          step (Some (Form f)) q h = place f (number_of_form rows f) refl q h

      pub no_definition : type_of rows known form ≡ Err Definition → ⊥
      no_definition e = step (wanted rows known form) e
        where
          place : (o : Option ℕ) → listed o ≡ Err Definition → ⊥
          place None h = cc
          place (Some m) h = cc

          step : (o : Option Wanted) → settled rows o ≡ Err Definition → ⊥
          step None h = cc
          step (Some (Number m)) h = cc
          step (Some (Form f)) h = place (number_of_form rows f) h
