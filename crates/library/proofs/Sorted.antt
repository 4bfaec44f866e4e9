-- What rows without text fault say of their sections. Assumes nothing.
use Rattle.std.proofs.lemmas.Option.{same_Some}
use Rattle.std.proofs.Common.{◌≡◌, ℕ, zero, suc, ◌+◌, ◌<◌, ◌≤◌, Bool, true, false, cond, eqb, List, [], ◌∷◌, ◌++◌, length, get_or, take, drop, Some, None, Option, unwrap_or, sym, refl, ap, ◌∙◌, subst, inl, ⊎_elim, arith, lit<, length-append, eq-eqb, true-eqb}
use Rattle.std.specs.List.{slice_get, AllByRecursion}
use Rattle.std.proofs.lemmas.Option.{slice_get-get_or, unwrap_or-slice_get}
use Rattle.std.proofs.lemmas.Bool.{cases_eq, cases_lt}
use Rattle.faults.specs.declared.TextFault.TheVariants.{Order, Reference, Limit, Repeat}
use Rattle.rows.specs.declared.forms.TypeForm.{TypeForm}
use Rattle.rows.specs.declared.forms.TypeForm.TheVariants.{Unit as UnitType, Int as IntType, Pair as PairType, Fun as FunType}
use Rattle.rows.specs.declared.forms.MethodForm.{MethodForm}
use Rattle.rows.specs.declared.forms.MethodForm.TheVariants.{Abstract, Public, Private}
use Rattle.rows.specs.declared.forms.TermForm.{TermForm}
use Rattle.rows.specs.declared.forms.Row.{Row}
use Rattle.rows.specs.declared.forms.Row.TheVariants.{«Type» as TypeRow, Variable as VariableRow, Method as MethodRow, Global as GlobalRow, Term as TermRow}
use Rattle.rows.specs.declared.forms.Section.{Section}
use Rattle.rows.specs.declared.forms.Section.TheVariants.{Types, Variables, Methods, Globals, Terms}
use Rattle.rows.specs.Sections.{section, running, place, limit, count, references, term_references}
use Rattle.rows.specs.declared.tally.Counts.{Counts}
use Rattle.rows.specs.Tallies.{CountsOf, counted}
use Rattle.std.proofs.lemmas.List.{length-take-le}
use Rattle.library.specs.Inference.{Sectioned, start}
use Rattle.rows.specs.Types.{Tree, unit, tree, types, types_after, with_row}
use Rattle.rows.specs.Faults.{Faultless, InOrder, RefersBack, RowFault, NoneOf}
use Rattle.rows.proofs.Admits.{types_count}
use Rattle.library.specs.Listing.{section_rows, type_form_of, variable_type_of, method_of, method_type, method_type_of, global_type_of, term_of, type_form_at, term_at, variable_type_at, method_type_at, global_type_at}
use Rattle.library.proofs.Lists.{nth_inside, nth_there, nth_left, nth_end, nth_take, parted}

-- which row says it
pub type_form_row : (o : Option Row) (v : TypeForm) → type_form_of o ≡ Some v → (m : ℕ) × (o ≡ Some (TypeRow m v))
type_form_row None v e = cc
type_form_row (Some (TypeRow n f)) v e = (n, cc)
type_form_row (Some (VariableRow n t)) v e = cc
type_form_row (Some (MethodRow n f)) v e = cc
type_form_row (Some (GlobalRow n t u)) v e = cc
type_form_row (Some (TermRow n f)) v e = cc

pub variable_row : (o : Option Row) (v : ℕ) → variable_type_of o ≡ Some v → (m : ℕ) × (o ≡ Some (VariableRow m v))
variable_row None v e = cc
variable_row (Some (TypeRow n f)) v e = cc
variable_row (Some (VariableRow n t)) v e = (n, cc)
variable_row (Some (MethodRow n f)) v e = cc
variable_row (Some (GlobalRow n t u)) v e = cc
variable_row (Some (TermRow n f)) v e = cc

pub method_row : (o : Option Row) (v : MethodForm) → method_of o ≡ Some v → (m : ℕ) × (o ≡ Some (MethodRow m v))
method_row None v e = cc
method_row (Some (TypeRow n f)) v e = cc
method_row (Some (VariableRow n t)) v e = cc
method_row (Some (MethodRow n f)) v e = (n, cc)
method_row (Some (GlobalRow n t u)) v e = cc
method_row (Some (TermRow n f)) v e = cc

pub method_type_row : (o : Option Row) (v : ℕ) → method_type_of o ≡ Some v → (m : ℕ) × (f : MethodForm) × (o ≡ Some (MethodRow m f)) × (method_type f ≡ v)
method_type_row None v e = cc
method_type_row (Some (TypeRow n f)) v e = cc
method_type_row (Some (VariableRow n t)) v e = cc
method_type_row (Some (MethodRow n f)) v e = (n, f, refl, same_Some _ _ e)
method_type_row (Some (GlobalRow n t u)) v e = cc
method_type_row (Some (TermRow n f)) v e = cc

pub global_type_row : (o : Option Row) (v : ℕ) → global_type_of o ≡ Some v → (m : ℕ) × (u : ℕ) × (o ≡ Some (GlobalRow m v u))
global_type_row None v h = cc
global_type_row (Some (TypeRow n f)) v h = cc
global_type_row (Some (VariableRow n t)) v h = cc
global_type_row (Some (MethodRow n f)) v h = cc
global_type_row (Some (GlobalRow n t e)) v h = (n, e, cc)
global_type_row (Some (TermRow n f)) v h = cc

pub term_row : (o : Option Row) (v : TermForm) → term_of o ≡ Some v → (m : ℕ) × (o ≡ Some (TermRow m v))
term_row None v e = cc
term_row (Some (TypeRow n f)) v e = cc
term_row (Some (VariableRow n t)) v e = cc
term_row (Some (MethodRow n f)) v e = cc
term_row (Some (GlobalRow n t u)) v e = cc
term_row (Some (TermRow n f)) v e = (n, cc)

-- what can't fail to hold, holds
less_stable : (a b : ℕ) → ((a < b → ⊥) → ⊥) → a < b
less_stable a b h = ⊎_elim (λ lt. lt) (λ le. absurd (h (λ lt. omega arith))) (cases_lt a b)

pub equal_stable : (a b : ℕ) → ((a ≡ b → ⊥) → ⊥) → a ≡ b
equal_stable a b h = ⊎_elim (λ e. e) (λ ne. absurd (h ne)) (cases_eq a b)

all_stable : {X : Type 0} (P : X → Type 0) → ((x : X) → ((P x → ⊥) → ⊥) → P x) → (xs : List X) → ((AllByRecursion P xs → ⊥) → ⊥) → AllByRecursion P xs
all_stable P stable [] h = tt
all_stable P stable (x ∷ xs) h = (stable x (λ k. h (λ a. k a.0)), all_stable P stable xs (λ k. h (λ a. k a.1)))

-- a row that was admitted
module _ (before : List Row) (row : Row) (good : NoneOf (RowFault true before row)) where
  pub in_order : InOrder before row
  in_order = record {
    no_later_section = λ s p. equal_stable (count s before) 0 (λ k. good Order (λ o. k (o.no_later_section s p)));
    counts_on = equal_stable (running row) (count (section row) before) (λ k. good Order (λ o. k o.counts_on));
  }

  pub refers_back : RefersBack before row
  refers_back = all_stable (λ p. p.1 < count p.0 before) (λ p. less_stable p.1 (count p.0 before)) (references row) (good Reference)

  pub has_place : count (section row) before < limit (section row)
  has_place = less_stable (count (section row) before) (limit (section row)) (λ k. good Limit (inl (λ w. k w.section_limit)))

pub same_section : (s u : Section) → place s ≡ place u → s ≡ u
same_section Types Types e = refl
same_section Types Variables e = absurd (omega arith)
same_section Types Methods e = absurd (omega arith)
same_section Types Globals e = absurd (omega arith)
same_section Types Terms e = absurd (omega arith)
same_section Variables Types e = absurd (omega arith)
same_section Variables Variables e = refl
same_section Variables Methods e = absurd (omega arith)
same_section Variables Globals e = absurd (omega arith)
same_section Variables Terms e = absurd (omega arith)
same_section Methods Types e = absurd (omega arith)
same_section Methods Variables e = absurd (omega arith)
same_section Methods Methods e = refl
same_section Methods Globals e = absurd (omega arith)
same_section Methods Terms e = absurd (omega arith)
same_section Globals Types e = absurd (omega arith)
same_section Globals Variables e = absurd (omega arith)
same_section Globals Methods e = absurd (omega arith)
same_section Globals Globals e = refl
same_section Globals Terms e = absurd (omega arith)
same_section Terms Types e = absurd (omega arith)
same_section Terms Variables e = absurd (omega arith)
same_section Terms Methods e = absurd (omega arith)
same_section Terms Globals e = absurd (omega arith)
same_section Terms Terms e = refl

-- how many rows a section has
pub count_length : (s : Section) (rows : List Row) → count s rows ≡ length (section_rows s rows)
count_length s [] = refl
count_length s (r ∷ rs) = step (eqb (place (section r)) (place s)) (count_length s rs)
  where
    step : (b : Bool) → count s rs ≡ length (section_rows s rs) → cond b 1 0 + count s rs ≡ length (cond b (r ∷ section_rows s rs) (section_rows s rs))
    step true e = omega (arith, e)
    step false e = omega (arith, e)

-- a row of a section stands somewhere among the rows, after the rows of the section that are before it
pub record Origin (s : Section) (rows : List Row) (n : ℕ) (row : Row) : Type 0 where
  pub index : ℕ
  pub at : slice_get rows index ≡ Some row
  pub in_section : place (section row) ≡ place s
  pub number : length (section_rows s (take index rows)) ≡ n

pub origin : (s : Section) (rows : List Row) (n : ℕ) (row : Row) → slice_get (section_rows s rows) n ≡ Some row → Origin s rows n row
origin s [] n row e = cc
origin s (r ∷ rs) n row e = step (λ k. origin s rs k row) (eqb (place (section r)) (place s)) refl n e
  where
    later : (b : Bool) → eqb (place (section r)) (place s) ≡ b → (k m : ℕ) → Origin s rs k row → cond b (suc k) k ≡ m → Origin s (r ∷ rs) m row
    later true q k m o e = record { index = suc o.index; at = o.at; in_section = o.in_section; number = ap (λ b. length (cond b (r ∷ section_rows s (take o.index rs)) (section_rows s (take o.index rs)))) q ∙ ap suc o.number ∙ e }
    later false q k m o e = record { index = suc o.index; at = o.at; in_section = o.in_section; number = ap (λ b. length (cond b (r ∷ section_rows s (take o.index rs)) (section_rows s (take o.index rs)))) q ∙ o.number ∙ e }

    step : ((k : ℕ) → slice_get (section_rows s rs) k ≡ Some row → Origin s rs k row) → (b : Bool) → eqb (place (section r)) (place s) ≡ b → (k : ℕ) → slice_get (cond b (r ∷ section_rows s rs) (section_rows s rs)) k ≡ Some row → Origin s (r ∷ rs) k row
    step again true q zero h = record { index = 0; at = h; in_section = ap (λ x. place (section x)) (sym (same_Some _ _ h)) ∙ true-eqb _ _ (sym q); number = refl }
    step again true q (suc k) h = later true q k (suc k) (again k h) refl
    step again false q k h = later false q k k (again k h) refl

-- and the other way round
pub in_section : (s : Section) (rows : List Row) (i : ℕ) (row : Row) → slice_get rows i ≡ Some row → place (section row) ≡ place s → slice_get (section_rows s rows) (length (section_rows s (take i rows))) ≡ Some row
in_section s [] i row e same = cc
in_section s (r ∷ rs) zero row e same = ap (λ b. slice_get (cond b (r ∷ section_rows s rs) (section_rows s rs)) 0) (eq-eqb _ _ (ap (λ x. place (section x)) (same_Some _ _ e) ∙ same)) ∙ e
in_section s (r ∷ rs) (suc i) row e same = step (eqb (place (section r)) (place s)) (in_section s rs i row e same)
  where
    step : (b : Bool) → slice_get (section_rows s rs) (length (section_rows s (take i rs))) ≡ Some row → slice_get (cond b (r ∷ section_rows s rs) (section_rows s rs)) (length (cond b (r ∷ section_rows s (take i rs)) (section_rows s (take i rs)))) ≡ Some row
    step true h = h
    step false h = h

-- more rows, more of each section
pub section_grows : (s : Section) (rows : List Row) (i j : ℕ) → i ≤ j → length (section_rows s (take i rows)) ≤ length (section_rows s (take j rows))
section_grows s [] zero zero le = omega arith
section_grows s [] zero (suc j) le = omega arith
section_grows s [] (suc i) zero le = omega arith
section_grows s [] (suc i) (suc j) le = omega arith
section_grows s (r ∷ rs) zero j le = omega arith
section_grows s (r ∷ rs) (suc i) zero le = absurd (omega arith)
section_grows s (r ∷ rs) (suc i) (suc j) le = step (eqb (place (section r)) (place s)) (section_grows s rs i j (omega arith))
  where
    step : (b : Bool) → length (section_rows s (take i rs)) ≤ length (section_rows s (take j rs)) → length (cond b (r ∷ section_rows s (take i rs)) (section_rows s (take i rs))) ≤ length (cond b (r ∷ section_rows s (take j rs)) (section_rows s (take j rs)))
    step true h = omega arith
    step false h = h

pub section_part : (s : Section) (rows : List Row) (i : ℕ) → length (section_rows s (take i rows)) ≤ length (section_rows s rows)
section_part s [] zero = omega arith
section_part s [] (suc i) = omega arith
section_part s (r ∷ rs) zero = omega arith
section_part s (r ∷ rs) (suc i) = step (eqb (place (section r)) (place s)) (section_part s rs i)
  where
    step : (b : Bool) → length (section_rows s (take i rs)) ≤ length (section_rows s rs) → length (cond b (r ∷ section_rows s (take i rs)) (section_rows s (take i rs))) ≤ length (cond b (r ∷ section_rows s rs) (section_rows s rs))
    step true h = omega arith
    step false h = h

-- one row more
pub section_more : (s : Section) (rows : List Row) (i : ℕ) (row : Row) → slice_get rows i ≡ Some row → length (section_rows s (take (suc i) rows)) ≡ length (section_rows s (take i rows)) + cond (eqb (place (section row)) (place s)) 1 0
section_more s [] i row e = cc
section_more s (r ∷ rs) zero row e = ap (λ x. length (section_rows s (x ∷ []))) (same_Some _ _ e) ∙ step (eqb (place (section row)) (place s))
  where
    step : (b : Bool) → length (cond b (row ∷ []) []) ≡ 0 + cond b 1 0
    step true = refl
    step false = refl
section_more s (r ∷ rs) (suc i) row e = step (eqb (place (section r)) (place s)) (section_more s rs i row e)
  where
    step : (b : Bool) → length (section_rows s (take (suc i) rs)) ≡ length (section_rows s (take i rs)) + cond (eqb (place (section row)) (place s)) 1 0 → length (cond b (r ∷ section_rows s (take (suc i) rs)) (section_rows s (take (suc i) rs))) ≡ length (cond b (r ∷ section_rows s (take i rs)) (section_rows s (take i rs))) + cond (eqb (place (section row)) (place s)) 1 0
    step true h = omega (arith, h)
    step false h = h

-- each row stands in one section
one_section : (r : Row) → cond (eqb (place (section r)) 0) 1 0 + cond (eqb (place (section r)) 1) 1 0 + cond (eqb (place (section r)) 2) 1 0 + cond (eqb (place (section r)) 3) 1 0 + cond (eqb (place (section r)) 4) 1 0 ≡ 1
one_section (TypeRow n f) = refl
one_section (VariableRow n t) = refl
one_section (MethodRow n f) = refl
one_section (GlobalRow n t e) = refl
one_section (TermRow n f) = refl

pub all_sections : (rows : List Row) → count Types rows + count Variables rows + count Methods rows + count Globals rows + count Terms rows ≡ length rows
all_sections [] = refl
all_sections (r ∷ rs) = omega (arith, one_section r, all_sections rs)

-- the types of rows, part by part
types_parts : (ts : List Tree) (xs ys : List Row) → types_after ts (xs ++ ys) ≡ types_after (types_after ts xs) ys
types_parts ts [] ys = refl
types_parts ts (x ∷ xs) ys = types_parts (with_row ts x) xs ys

types_grow : (ts : List Tree) (rows : List Row) (k : ℕ) → k < length ts → slice_get (types_after ts rows) k ≡ slice_get ts k
types_grow ts [] k lt = refl
types_grow ts (TypeRow n f ∷ rows) k lt = types_grow (ts ++ (tree ts f ∷ [])) rows k (omega (arith, length-append ts (tree ts f ∷ []))) ∙ nth_left ts (tree ts f ∷ []) k lt
types_grow ts (VariableRow n t ∷ rows) k lt = types_grow ts rows k lt
types_grow ts (MethodRow n f ∷ rows) k lt = types_grow ts rows k lt
types_grow ts (GlobalRow n t e ∷ rows) k lt = types_grow ts rows k lt
types_grow ts (TermRow n f ∷ rows) k lt = types_grow ts rows k lt

-- the parts of a type's form are below a number
abbrev pub PartsBelow : ℕ → TypeForm → Type 0
PartsBelow n UnitType = Unit {0}
PartsBelow n IntType = Unit {0}
PartsBelow n (PairType a b) = (a < n) × (b < n)
PartsBelow n (FunType a b) = (a < n) × (b < n)

pub parts_below_more : (n m : ℕ) (f : TypeForm) → n ≤ m → PartsBelow n f → PartsBelow m f
parts_below_more n m UnitType le p = tt
parts_below_more n m IntType le p = tt
parts_below_more n m (PairType a b) le p = (omega (arith, p.0), omega (arith, p.1))
parts_below_more n m (FunType a b) le p = (omega (arith, p.0), omega (arith, p.1))

same_tree : (n : ℕ) (ts us : List Tree) (f : TypeForm) → ((k : ℕ) → k < n → slice_get ts k ≡ slice_get us k) → PartsBelow n f → tree ts f ≡ tree us f
same_tree n ts us UnitType same p = refl
same_tree n ts us IntType same p = refl
same_tree n ts us (PairType a b) same p =
    let x : get_or ts a unit ≡ get_or us a unit = sym (unwrap_or-slice_get ts a unit) ∙ ap (λ o. unwrap_or o unit) (same a p.0) ∙ unwrap_or-slice_get us a unit in
    let y : get_or ts b unit ≡ get_or us b unit = sym (unwrap_or-slice_get ts b unit) ∙ ap (λ o. unwrap_or o unit) (same b p.1) ∙ unwrap_or-slice_get us b unit in
    cc
same_tree n ts us (FunType a b) same p =
    let x : get_or ts a unit ≡ get_or us a unit = sym (unwrap_or-slice_get ts a unit) ∙ ap (λ o. unwrap_or o unit) (same a p.0) ∙ unwrap_or-slice_get us a unit in
    let y : get_or ts b unit ≡ get_or us b unit = sym (unwrap_or-slice_get ts b unit) ∙ ap (λ o. unwrap_or o unit) (same b p.1) ∙ unwrap_or-slice_get us b unit in
    cc

parts_of_row : (before : List Row) (m : ℕ) (f : TypeForm) → RefersBack before (TypeRow m f) → PartsBelow (count Types before) f
parts_of_row before m UnitType r = tt
parts_of_row before m IntType r = tt
parts_of_row before m (PairType a b) r = (r.0, r.1.0)
parts_of_row before m (FunType a b) r = (r.0, r.1.0)

-- rows without text fault
module _ (rows : List Row) (fine : Faultless rows) where
  pub good_at : (i : ℕ) (row : Row) → slice_get rows i ≡ Some row → NoneOf (RowFault true (take i rows) row)
  good_at i row e =
      let lt = nth_inside rows i row e in
      fine i row lt (same_Some _ _ (sym (slice_get-get_or rows i row lt) ∙ e))

  -- a type's form is over earlier types, and the type is the form's tree
  pub type_named : (n : ℕ) (f : TypeForm) → type_form_at rows n ≡ Some f → PartsBelow n f × (slice_get (types rows) n ≡ Some (tree (types rows) f))
  type_named n f e =
      let r = type_form_row (slice_get (section_rows Types rows) n) f e in
      let row = TypeRow r.0 f in
      let o = origin Types rows n row r.1 in
      let before = take o.index rows in
      let here : count Types before ≡ n = count_length Types before ∙ o.number in
      let below : PartsBelow n f = subst (λ k. PartsBelow k f) here (parts_of_row before r.0 f (refers_back before row (good_at o.index row o.at))) in
      let long : length (types before) ≡ n = types_count before ∙ here in
      let whole : types rows ≡ types_after (types before ++ (tree (types before) f ∷ [])) (drop (suc o.index) rows) =
      ap types (parted rows o.index row o.at) ∙ types_parts [] before (row ∷ drop (suc o.index) rows) in
      let older : (k : ℕ) → k < suc n → slice_get (types rows) k ≡ slice_get (types before ++ (tree (types before) f ∷ [])) k =
      λ k lt. ap (λ ts. slice_get ts k) whole ∙ types_grow (types before ++ (tree (types before) f ∷ [])) (drop (suc o.index) rows) k (omega (arith, length-append (types before) (tree (types before) f ∷ []))) in
      let same : tree (types rows) f ≡ tree (types before) f =
      same_tree n (types rows) (types before) f (λ k lt. older k (omega arith) ∙ nth_left (types before) (tree (types before) f ∷ []) k (omega arith)) below in
      (below, older n (omega arith) ∙ ap (slice_get (types before ++ (tree (types before) f ∷ []))) (sym long) ∙ nth_end (types before) (tree (types before) f) [] ∙ ap Some (sym same))

  pub types_many : length (types rows) ≡ length (section_rows Types rows)
  types_many = types_count rows ∙ count_length Types rows

  type_row : (row : Row) → place (section row) ≡ 0 → (f : TypeForm) × (type_form_of (Some row) ≡ Some f)
  type_row (TypeRow n f) e = (f, refl)
  type_row (VariableRow n t) e = absurd (omega arith)
  type_row (MethodRow n f) e = absurd (omega arith)
  type_row (GlobalRow n t u) e = absurd (omega arith)
  type_row (TermRow n f) e = absurd (omega arith)

  -- each type has a form
  pub form_there : (n : ℕ) → n < length (types rows) → (f : TypeForm) × (type_form_at rows n ≡ Some f)
  form_there n lt =
      let r = nth_there (section_rows Types rows) n (omega (arith, types_many)) in
      let o = origin Types rows n r.0 r.1 in
      let g = type_row r.0 o.in_section in
      (g.0, ap type_form_of r.1 ∙ g.1)

  -- a form is listed once
  once : (m n : ℕ) (f : TypeForm) → m < n → type_form_at rows m ≡ Some f → type_form_at rows n ≡ Some f → ⊥
  once m n f lt e g =
      let r = type_form_row (slice_get (section_rows Types rows) m) f e in
      let s = type_form_row (slice_get (section_rows Types rows) n) f g in
      let o = origin Types rows m (TypeRow r.0 f) r.1 in
      let p = origin Types rows n (TypeRow s.0 f) s.1 in
      let sooner : o.index < p.index = ⊎_elim (λ h. h) (λ h. absurd (omega (arith, section_grows Types rows p.index o.index h, o.number, p.number))) (cases_lt o.index p.index) in
      let inside : slice_get (take p.index rows) o.index ≡ Some (TypeRow r.0 f) = nth_take rows o.index p.index sooner ∙ o.at in
      let short = nth_inside (take p.index rows) o.index (TypeRow r.0 f) inside in
      good_at p.index (TypeRow s.0 f) p.at Repeat (o.index, r.0, short, same_Some _ _ (sym (slice_get-get_or (take p.index rows) o.index (TypeRow r.0 f) short) ∙ inside))

  pub form_once : (m n : ℕ) (f : TypeForm) → type_form_at rows m ≡ Some f → type_form_at rows n ≡ Some f → m ≡ n
  form_once m n f e g =
      ⊎_elim (λ lt. absurd (once m n f lt e g)) (λ le. ⊎_elim (λ lt. absurd (once n m f lt g e)) (λ ge. omega arith) (cases_lt n m)) (cases_lt m n)

  declared_below : (s : Section) (n k : ℕ) (row : Row) → slice_get (section_rows s rows) n ≡ Some row → ((before : List Row) → RefersBack before row → k < count Types before) → k < length (types rows)
  declared_below s n k row e named =
      let o = origin s rows n row e in
      let below = named (take o.index rows) (refers_back (take o.index rows) row (good_at o.index row o.at)) in
      omega (arith, below, count_length Types (take o.index rows), section_part Types rows o.index, types_many)

  method_names : (before : List Row) (m : ℕ) (f : MethodForm) → RefersBack before (MethodRow m f) → method_type f < count Types before
  method_names before m (Abstract t) r = r.0
  method_names before m (Public t e) r = r.0
  method_names before m (Private t e) r = r.0

  -- declared types are listed
  pub variable_below : (x k : ℕ) → variable_type_at rows x ≡ Some k → k < length (types rows)
  variable_below x k e =
      let r = variable_row (slice_get (section_rows Variables rows) x) k e in
      declared_below Variables x k (VariableRow r.0 k) r.1 (λ before h. h.0)

  pub method_below : (m k : ℕ) → method_type_at rows m ≡ Some k → k < length (types rows)
  method_below m k e =
      let r = method_type_row (slice_get (section_rows Methods rows) m) k e in
      declared_below Methods m k (MethodRow r.0 r.1) r.2 (λ before h. subst (λ j. j < count Types before) r.3 (method_names before r.0 r.1 h))

  pub global_below : (n k : ℕ) → global_type_at rows n ≡ Some k → k < length (types rows)
  global_below n k e =
      let r = global_type_row (slice_get (section_rows Globals rows) n) k e in
      declared_below Globals n k (GlobalRow r.0 k r.1) r.2 (λ before h. h.0)

  -- a term is over earlier terms
  pub term_back : (t : ℕ) (form : TermForm) → term_at rows t ≡ Some form → (before : List Row) × AllByRecursion (λ p. p.1 < count p.0 before) (term_references form) × (count Terms before ≡ t) × ((s : Section) → count s before ≤ length (section_rows s rows))
  term_back t form e =
      let r = term_row (slice_get (section_rows Terms rows) t) form e in
      let row = TermRow r.0 form in
      let o = origin Terms rows t row r.1 in
      let before = take o.index rows in
      (before, refers_back before row (good_at o.index row o.at), count_length Terms before ∙ o.number, λ s. subst (λ n. n ≤ length (section_rows s rows)) (sym (count_length s before)) (section_part s rows o.index))

  -- a row is found under its running number
  pub running_row : (i : ℕ) (row : Row) → slice_get rows i ≡ Some row → slice_get (section_rows (section row) rows) (running row) ≡ Some row
  running_row i row e =
      let number : running row ≡ length (section_rows (section row) (take i rows)) = (in_order (take i rows) row (good_at i row e)).counts_on ∙ count_length (section row) (take i rows) in
      ap (slice_get (section_rows (section row) rows)) number ∙ in_section (section row) rows i row e refl

  pub running_now : (i : ℕ) (row : Row) → slice_get rows i ≡ Some row → running row ≡ length (section_rows (section row) (take i rows))
  running_now i row e = (in_order (take i rows) row (good_at i row e)).counts_on ∙ count_length (section row) (take i rows)

  term_only : (row : Row) → place (section row) ≡ 4 → (f : TermForm) × (term_of (Some row) ≡ Some f)
  term_only (TypeRow n f) e = absurd (omega arith)
  term_only (VariableRow n t) e = absurd (omega arith)
  term_only (MethodRow n f) e = absurd (omega arith)
  term_only (GlobalRow n t u) e = absurd (omega arith)
  term_only (TermRow n f) e = (f, refl)

  -- which terms there are
  pub term_there : (t : ℕ) → t < length (section_rows Terms rows) → (form : TermForm) × (term_at rows t ≡ Some form)
  term_there t lt =
      let r = nth_there (section_rows Terms rows) t lt in
      let o = origin Terms rows t r.0 r.1 in
      let g = term_only r.0 o.in_section in
      (g.0, ap term_of r.1 ∙ g.1)

  pub term_inside : (t : ℕ) (form : TermForm) → term_at rows t ≡ Some form → t < length (section_rows Terms rows)
  term_inside t form e = let r = term_row (slice_get (section_rows Terms rows) t) form e in nth_inside (section_rows Terms rows) t (TermRow r.0 form) r.1

  -- a section keeps its limit
  pub few : (s : Section) → length (section_rows s rows) ≤ limit s
  few s = ⊎_elim passed (λ le. le) (cases_lt (limit s) (length (section_rows s rows)))
    where
      passed : limit s < length (section_rows s rows) → length (section_rows s rows) ≤ limit s
      passed lt =
          let r = nth_there (section_rows s rows) (limit s) lt in
          let o = origin s rows (limit s) r.0 r.1 in
          let before = take o.index rows in
          let same : section r.0 ≡ s = same_section (section r.0) s o.in_section in
          let room : count s before < limit s = subst (λ u. count u before < limit u) same (has_place before r.0 (good_at o.index r.0 o.at)) in
          absurd (omega (arith, room, count_length s before, o.number))

  -- there are few rows
  pub few_rows : length rows ≤ 1232
  few_rows =
      omega (
        arith,
        all_sections rows,
        few Types,
        few Variables,
        few Methods,
        few Globals,
        few Terms,
        count_length Types rows,
        count_length Variables rows,
        count_length Methods rows,
        count_length Globals rows,
        count_length Terms rows,
      )

  -- the rows of earlier sections all stand before a row
  earlier_all : (i : ℕ) (row : Row) → slice_get rows i ≡ Some row → (u : Section) → place u < place (section row) → length (section_rows u (take i rows)) ≡ length (section_rows u rows)
  earlier_all i row e u lt = ⊎_elim more (λ le. let p = section_part u rows i in omega arith) (cases_lt (length (section_rows u (take i rows))) (length (section_rows u rows)))
    where
      more : length (section_rows u (take i rows)) < length (section_rows u rows) → length (section_rows u (take i rows)) ≡ length (section_rows u rows)
      more missing =
          let r = nth_there (section_rows u rows) (length (section_rows u (take i rows))) missing in
          let o = origin u rows (length (section_rows u (take i rows))) r.0 r.1 in
          let j = o.index in
          let own : ◌≡◌ {A = ℕ} (cond (eqb (place (section r.0)) (place u)) 1 0) 1 = ap (λ b. cond b 1 0) (eq-eqb _ _ o.in_section) in
          let mine : ◌≡◌ {A = ℕ} (cond (eqb (place (section row)) (place (section row))) 1 0) 1 = ap (λ b. cond b 1 0) (eq-eqb (place (section row)) (place (section row)) refl) in
          absurd (⊎_elim
          (λ before. omega (arith, section_more u rows j r.0 o.at, own, section_grows u rows (suc j) i (omega arith), o.number))
          (λ le. ⊎_elim
          (λ after.
          let none : count (section row) (take j rows) ≡ 0 = (in_order (take j rows) r.0 (good_at j r.0 o.at)).no_later_section (section row) (omega (arith, o.in_section)) in
          omega (arith, none, count_length (section row) (take j rows), section_more (section row) rows i row e, mine, section_grows (section row) rows (suc i) j (omega arith)))
          (λ ge.
          let here : j ≡ i = omega arith in
          let same : r.0 ≡ row = same_Some _ _ (sym o.at ∙ ap (slice_get rows) here ∙ e) in
          omega (arith, ap (λ x. place (section x)) same, o.in_section)) (cases_lt i j)) (cases_lt j i))

  inside_le : (i : ℕ) (row : Row) → slice_get rows i ≡ Some row → i ≤ length rows
  inside_le i row e = let lt = nth_inside rows i row e in omega arith

  place_of : (c : Counts) (i : ℕ) (row : Row) (s : Section) → CountsOf rows c → section row ≡ s → slice_get rows i ≡ Some row → i ≡ start c s + count s (take i rows)
  place_of c i row Types h is e = omega (arith, all_sections (take i rows), length-take-le i rows (inside_le i row e), (in_order (take i rows) row (good_at i row e)).no_later_section Variables (subst (λ x. place x < 1) (sym is) (lit< tt)), (in_order (take i rows) row (good_at i row e)).no_later_section Methods (subst (λ x. place x < 2) (sym is) (lit< tt)), (in_order (take i rows) row (good_at i row e)).no_later_section Globals (subst (λ x. place x < 3) (sym is) (lit< tt)), (in_order (take i rows) row (good_at i row e)).no_later_section Terms (subst (λ x. place x < 4) (sym is) (lit< tt)))
  place_of c i row Variables h is e = omega (arith, all_sections (take i rows), length-take-le i rows (inside_le i row e), earlier_all i row e Types (subst (λ x. 0 < place x) (sym is) (lit< tt)), h Types, count_length Types rows, count_length Types (take i rows), (in_order (take i rows) row (good_at i row e)).no_later_section Methods (subst (λ x. place x < 2) (sym is) (lit< tt)), (in_order (take i rows) row (good_at i row e)).no_later_section Globals (subst (λ x. place x < 3) (sym is) (lit< tt)), (in_order (take i rows) row (good_at i row e)).no_later_section Terms (subst (λ x. place x < 4) (sym is) (lit< tt)))
  place_of c i row Methods h is e = omega (arith, all_sections (take i rows), length-take-le i rows (inside_le i row e), earlier_all i row e Types (subst (λ x. 0 < place x) (sym is) (lit< tt)), h Types, count_length Types rows, count_length Types (take i rows), earlier_all i row e Variables (subst (λ x. 1 < place x) (sym is) (lit< tt)), h Variables, count_length Variables rows, count_length Variables (take i rows), (in_order (take i rows) row (good_at i row e)).no_later_section Globals (subst (λ x. place x < 3) (sym is) (lit< tt)), (in_order (take i rows) row (good_at i row e)).no_later_section Terms (subst (λ x. place x < 4) (sym is) (lit< tt)))
  place_of c i row Globals h is e = omega (arith, all_sections (take i rows), length-take-le i rows (inside_le i row e), earlier_all i row e Types (subst (λ x. 0 < place x) (sym is) (lit< tt)), h Types, count_length Types rows, count_length Types (take i rows), earlier_all i row e Variables (subst (λ x. 1 < place x) (sym is) (lit< tt)), h Variables, count_length Variables rows, count_length Variables (take i rows), earlier_all i row e Methods (subst (λ x. 2 < place x) (sym is) (lit< tt)), h Methods, count_length Methods rows, count_length Methods (take i rows), (in_order (take i rows) row (good_at i row e)).no_later_section Terms (subst (λ x. place x < 4) (sym is) (lit< tt)))
  place_of c i row Terms h is e = omega (arith, all_sections (take i rows), length-take-le i rows (inside_le i row e), earlier_all i row e Types (subst (λ x. 0 < place x) (sym is) (lit< tt)), h Types, count_length Types rows, count_length Types (take i rows), earlier_all i row e Variables (subst (λ x. 1 < place x) (sym is) (lit< tt)), h Variables, count_length Variables rows, count_length Variables (take i rows), earlier_all i row e Methods (subst (λ x. 2 < place x) (sym is) (lit< tt)), h Methods, count_length Methods rows, count_length Methods (take i rows), earlier_all i row e Globals (subst (λ x. 3 < place x) (sym is) (lit< tt)), h Globals, count_length Globals rows, count_length Globals (take i rows))

  -- rows without text fault are sorted into sections
  pub sectioned : (c : Counts) → CountsOf rows c → Sectioned rows c
  sectioned c h = record { counts = λ s. h s ∙ count_length s rows; together = together }
    where
      together : (s : Section) (n : ℕ) → n < counted c s → slice_get rows (start c s + n) ≡ slice_get (section_rows s rows) n
      together s n lt =
          let r = nth_there (section_rows s rows) n (omega (arith, lt, h s, count_length s rows)) in
          let o = origin s rows n r.0 r.1 in
          let same : section r.0 ≡ s = same_section (section r.0) s o.in_section in
          let p = place_of c o.index r.0 s h same o.at in
          let here : start c s + n ≡ o.index = omega (arith, p, count_length s (take o.index rows), o.number) in
          ap (slice_get rows) here ∙ o.at ∙ sym r.1
