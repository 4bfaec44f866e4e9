-- Types by number: each tree has one number. Assumes nothing.
use Rattle.std.proofs.lemmas.Option.{same_Some}
use Rattle.std.proofs.Common.{◌≡◌, ℕ, ◌<◌, List, length, get_or, Some, sym, refl, ap, ◌∙◌, subst, arith}
use Rattle.std.specs.List.{slice_get}
use Rattle.std.proofs.lemmas.Option.{slice_get-get_or}
use Rattle.rows.specs.declared.forms.TypeForm.{TypeForm}
use Rattle.rows.specs.declared.forms.TypeForm.TheVariants.{Unit as UnitType, Int as IntType, Pair as PairType, Fun as FunType}
use Rattle.rows.specs.declared.forms.Row.{Row}
use Rattle.rows.specs.Types.{Tree, unit, int, pair, fun, tree, types}
use Rattle.rows.specs.Faults.{Faultless}
use Rattle.library.specs.Listing.{type_form_at}
use Rattle.library.proofs.Lists.{nth_inside}
use Rattle.library.proofs.Sorted.{PartsBelow, parts_below_more, type_named, form_there, form_once}

-- which form has a tree
pub unit_form : (ts : List Tree) (f : TypeForm) → unit ≡ tree ts f → f ≡ UnitType
unit_form ts UnitType e = refl
unit_form ts IntType e = cc
unit_form ts (PairType a b) e = cc
unit_form ts (FunType a b) e = cc

pub int_form : (ts : List Tree) (f : TypeForm) → int ≡ tree ts f → f ≡ IntType
int_form ts UnitType e = cc
int_form ts IntType e = refl
int_form ts (PairType a b) e = cc
int_form ts (FunType a b) e = cc

pub pair_form : (ts : List Tree) (A B : Tree) (f : TypeForm) → pair A B ≡ tree ts f → (a : ℕ) × (b : ℕ) × (f ≡ PairType a b) × (A ≡ get_or ts a unit) × (B ≡ get_or ts b unit)
pair_form ts A B UnitType e = cc
pair_form ts A B IntType e = cc
pair_form ts A B (PairType a b) e = (a, b, refl, cc, cc)
pair_form ts A B (FunType a b) e = cc

pub fun_form : (ts : List Tree) (A B : Tree) (f : TypeForm) → fun A B ≡ tree ts f → (a : ℕ) × (b : ℕ) × (f ≡ FunType a b) × (A ≡ get_or ts a unit) × (B ≡ get_or ts b unit)
fun_form ts A B UnitType e = cc
fun_form ts A B IntType e = cc
fun_form ts A B (PairType a b) e = cc
fun_form ts A B (FunType a b) e = (a, b, refl, cc, cc)

module _ (rows : List Row) (fine : Faultless rows) where
  -- the form that a listed type has
  pub record ListedAs (n : ℕ) (A : Tree) : Type 0 where
    pub form : TypeForm
    pub at : type_form_at rows n ≡ Some form
    pub is : A ≡ tree (types rows) form
    pub below : PartsBelow (length (types rows)) form

  pub listed_as : (n : ℕ) (A : Tree) → slice_get (types rows) n ≡ Some A → ListedAs n A
  listed_as n A e =
      let lt = nth_inside (types rows) n A e in
      let f = form_there rows fine n lt in
      let h = type_named rows fine n f.0 f.1 in
      record { form = f.0; at = f.1; is = same_Some _ _ (sym e ∙ h.1); below = parts_below_more n (length (types rows)) f.0 (omega (arith, lt)) h.0 }

  pub named_at : (a : ℕ) (A : Tree) → a < length (types rows) → A ≡ get_or (types rows) a unit → slice_get (types rows) a ≡ Some A
  named_at a A lt e = slice_get-get_or (types rows) a unit lt ∙ ap Some (sym e)

  pub tree_once : (A : Tree) (m n : ℕ) → slice_get (types rows) m ≡ Some A → slice_get (types rows) n ≡ Some A → m ≡ n
  tree_once unit m n e g =
      let f = listed_as m unit e in
      let h = listed_as n unit g in
      form_once rows fine m n UnitType (f.at ∙ ap Some (unit_form (types rows) f.form f.is)) (h.at ∙ ap Some (unit_form (types rows) h.form h.is))
  tree_once int m n e g =
      let f = listed_as m int e in
      let h = listed_as n int g in
      form_once rows fine m n IntType (f.at ∙ ap Some (int_form (types rows) f.form f.is)) (h.at ∙ ap Some (int_form (types rows) h.form h.is))
  tree_once (pair A B) m n e g =
      let f = listed_as m (pair A B) e in
      let h = listed_as n (pair A B) g in
      let p = pair_form (types rows) A B f.form f.is in
      let q = pair_form (types rows) A B h.form h.is in
      let u : PartsBelow (length (types rows)) (PairType p.0 p.1) = subst (PartsBelow (length (types rows))) p.2 f.below in
      let v : PartsBelow (length (types rows)) (PairType q.0 q.1) = subst (PartsBelow (length (types rows))) q.2 h.below in
      let x : p.0 ≡ q.0 = tree_once A p.0 q.0 (named_at p.0 A u.0 p.3) (named_at q.0 A v.0 q.3) in
      let y : p.1 ≡ q.1 = tree_once B p.1 q.1 (named_at p.1 B u.1 p.4) (named_at q.1 B v.1 q.4) in
      let z : PairType q.0 q.1 ≡ PairType p.0 p.1 = cc in
      form_once rows fine m n (PairType p.0 p.1) (f.at ∙ ap Some p.2) (h.at ∙ ap Some (q.2 ∙ z))
  tree_once (fun A B) m n e g =
      let f = listed_as m (fun A B) e in
      let h = listed_as n (fun A B) g in
      let p = fun_form (types rows) A B f.form f.is in
      let q = fun_form (types rows) A B h.form h.is in
      let u : PartsBelow (length (types rows)) (FunType p.0 p.1) = subst (PartsBelow (length (types rows))) p.2 f.below in
      let v : PartsBelow (length (types rows)) (FunType q.0 q.1) = subst (PartsBelow (length (types rows))) q.2 h.below in
      let x : p.0 ≡ q.0 = tree_once A p.0 q.0 (named_at p.0 A u.0 p.3) (named_at q.0 A v.0 q.3) in
      let y : p.1 ≡ q.1 = tree_once B p.1 q.1 (named_at p.1 B u.1 p.4) (named_at q.1 B v.1 q.4) in
      let z : FunType q.0 q.1 ≡ FunType p.0 p.1 = cc in
      form_once rows fine m n (FunType p.0 p.1) (f.at ∙ ap Some p.2) (h.at ∙ ap Some (q.2 ∙ z))

  -- a form over listed types is determined by its tree
  pub same_tree_form : (f g : TypeForm) → PartsBelow (length (types rows)) f → PartsBelow (length (types rows)) g → tree (types rows) f ≡ tree (types rows) g → f ≡ g
  same_tree_form UnitType g u v e = sym (unit_form (types rows) g e)
  same_tree_form IntType g u v e = sym (int_form (types rows) g e)
  same_tree_form (PairType a b) g u v e =
      let q = pair_form (types rows) (get_or (types rows) a unit) (get_or (types rows) b unit) g e in
      let w : PartsBelow (length (types rows)) (PairType q.0 q.1) = subst (PartsBelow (length (types rows))) q.2 v in
      let x : a ≡ q.0 = tree_once (get_or (types rows) a unit) a q.0 (named_at a _ u.0 refl) (named_at q.0 _ w.0 q.3) in
      let y : b ≡ q.1 = tree_once (get_or (types rows) b unit) b q.1 (named_at b _ u.1 refl) (named_at q.1 _ w.1 q.4) in
      let z = q.2 in cc
  same_tree_form (FunType a b) g u v e =
      let q = fun_form (types rows) (get_or (types rows) a unit) (get_or (types rows) b unit) g e in
      let w : PartsBelow (length (types rows)) (FunType q.0 q.1) = subst (PartsBelow (length (types rows))) q.2 v in
      let x : a ≡ q.0 = tree_once (get_or (types rows) a unit) a q.0 (named_at a _ u.0 refl) (named_at q.0 _ w.0 q.3) in
      let y : b ≡ q.1 = tree_once (get_or (types rows) b unit) b q.1 (named_at b _ u.1 refl) (named_at q.1 _ w.1 q.4) in
      let z = q.2 in cc
