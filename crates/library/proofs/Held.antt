-- What the invariant of a library says of its rows. Assumes nothing.
use Rattle.std.proofs.lemmas.Option.{none-some, same_Some}
use Rattle.std.proofs.Common.{◌≡◌, ℕ, ◌<◌, ◌≤◌, Bool, true, false, cond, ◌&&◌, List, length, get_or, Some, None, Option, sym, refl, ap, ◌∙◌, subst, inl, inr, ⊎_elim, arith, lt-ltb, MatchOption}
use Rattle.std.specs.List.{slice_get}
use Rattle.std.proofs.lemmas.Option.{slice_get-get_or, slice_get_past}
use Rattle.std.proofs.lemmas.Bool.{and_parts, and_from, le-ltb}
use Rattle.faults.specs.declared.TypingFault.TheVariants.{Definition}
use Rattle.rows.specs.declared.forms.TypeForm.TheVariants.{Fun as FunType}
use Rattle.rows.specs.declared.forms.TermForm.TheVariants.{Lam}
use Rattle.rows.specs.declared.forms.Row.{Row}
use Rattle.rows.specs.declared.forms.Section.TheVariants.{Types, Terms}
use Rattle.rows.specs.Types.{Tree, unit, fun, types}
use Rattle.rows.specs.Faults.{Faultless}
use Rattle.library.specs.Listing.{section_rows, type_form_at, term_at, global_type_at}
use Rattle.library.specs.Typing.{TermIs, HasType}
use Rattle.library.proofs.Lists.{nth_there}
use Rattle.std.specs.Option.{option_map}
use Rattle.std.proofs.lemmas.Bool.{cases_lt}
use Rattle.faults.specs.declared.LibraryFault.TheVariants.{Text, Typing}
use Rattle.rows.specs.declared.forms.MethodForm.{MethodForm}
use Rattle.rows.specs.declared.forms.MethodForm.TheVariants.{Abstract, Public, Private}
use Rattle.rows.specs.declared.forms.Row.TheVariants.{Method as MethodRow, Global as GlobalRow}
use Rattle.rows.specs.declared.forms.Section.TheVariants.{Methods, Globals}
use Rattle.rows.specs.declared.tally.Counts.{Counts}
use Rattle.rows.specs.Tallies.{CountsOf, leaves_at}
use Rattle.rows.specs.Types.{leaves}
use Rattle.rows.proofs.Admits.{types_count}
use Rattle.rows.specs.Sections.{count}
use Rattle.library.specs.Definitions.{ClosedFunction, FunctionType, GlobalRule, MethodRule, SoundDefinitions}
use Rattle.library.specs.Inference.{LeavesBy, TypedBy, is_int}
use Rattle.library.specs.Judging.{is_function, is_lam, is_num}
use Rattle.library.specs.Listing.{global_term_at, global_term_of, method_at, term_of}
use Rattle.library.specs.Mounting.{WellTyped}
use Rattle.library.proofs.Sorted.{count_length, equal_stable, global_type_row, method_row, origin, term_inside, type_named}
use Rattle.library.proofs.Numbered.{fun_form, listed_as, tree_once}
use Rattle.library.proofs.Unique.{one_type}
use Rattle.library.proofs.Inferring.{Known, int_said, int_told}
use Rattle.library.proofs.Tables.{known_all}
use Rattle.library.proofs.Judged.{function_said, lam_said, num_said}

pub faultless_of : (rows : List Row) → WellTyped rows → Faultless rows
faultless_of rows fine i row lt is fault h = fine i (Text fault) (row, slice_get-get_or rows i row lt ∙ ap Some is, h)

-- as many numbers as terms
pub as_many : (rows : List Row) (known : List ℕ) (n : ℕ) → n ≡ length known → n ≡ count Terms rows → length known ≡ length (section_rows Terms rows)
as_many rows known n e f = sym e ∙ f ∙ count_length Terms rows

-- the leaves of a type, read from the table
pub leaves_told : (rows : List Row) (c : Counts) (table : List ℕ) → CountsOf rows c → LeavesBy rows table → (n : ℕ) → leaves_at c table n ≡ option_map leaves (slice_get (types rows) n)
leaves_told rows c table counts told n = ⊎_elim inside past (cases_lt n c.types)
  where
    inside : n < c.types → leaves_at c table n ≡ option_map leaves (slice_get (types rows) n)
    inside lt =
        let few : n < length (types rows) = omega (arith, lt, counts Types, types_count rows) in
        ap (λ b. cond b (Some (get_or table n 0)) None) (lt-ltb n c.types lt) ∙ ap Some (told n (omega (arith, lt, counts Types))) ∙ sym (ap (option_map leaves) (slice_get-get_or (types rows) n unit few))

    past : c.types ≤ n → leaves_at c table n ≡ option_map leaves (slice_get (types rows) n)
    past le =
        let far : length (types rows) ≤ n = omega (arith, le, counts Types, types_count rows) in
        ap (λ b. cond b (Some (get_or table n 0)) None) (le-ltb n c.types le) ∙ sym (ap (option_map leaves) (slice_get_past (types rows) n far))

module _ (rows : List Row) (fine : WellTyped rows) (known : List ℕ) (typed : TypedBy rows known) (long : length known ≡ length (section_rows Terms rows)) where
  faultless : Faultless rows
  faultless = faultless_of rows fine

  each : Known rows faultless known
  each = known_all rows faultless known typed (omega (arith, long))

  pub type_told : (t n : ℕ) → slice_get known t ≡ Some n → (A : Tree) × (slice_get (types rows) n ≡ Some A) × HasType rows t A
  type_told t n e = each t n e

  pub no_term_told : (t : ℕ) → slice_get known t ≡ None → term_at rows t ≡ None
  no_term_told t e = ⊎_elim (λ lt. let k = nth_there known t lt in absurd (none-some _ (sym e ∙ k.1))) (λ le. ap term_of (slice_get_past (section_rows Terms rows) t (omega (arith, long)))) (cases_lt t (length known))

  pub type_cases : (t : ℕ) (o : Option ℕ) → o ≡ slice_get known t → MatchOption o (term_at rows t ≡ None) (λ n. (A : Tree) × (slice_get (types rows) n ≡ Some A) × HasType rows t A)
  type_cases t None e = no_term_told t (sym e)
  type_cases t (Some n) e = type_told t n (sym e)

  -- a rule that can't be broken is kept
  function_kept : (n : ℕ) → ((FunctionType rows n → ⊥) → ⊥) → FunctionType rows n
  function_kept n h = step (is_function (type_form_at rows n)) refl
    where
      step : (b : Bool) → is_function (type_form_at rows n) ≡ b → FunctionType rows n
      step true e =
          let f = function_said (type_form_at rows n) e in
          record { argument = get_or (types rows) f.0 unit; result = get_or (types rows) f.1 unit; named = (type_named rows faultless n (FunType f.0 f.1) f.2).1 }
      step false e =
          absurd (h (λ k.
          let l = listed_as rows faultless n (fun k.argument k.result) k.named in
          let f = fun_form (types rows) k.argument k.result l.form l.is in
          let z : true ≡ false = sym (ap is_function (l.at ∙ ap Some f.2)) ∙ e in
          cc))

  lam_kept : (t : ℕ) → (((x : ℕ) × (a : ℕ) × TermIs rows t (Lam x a) → ⊥) → ⊥) → (x : ℕ) × (a : ℕ) × TermIs rows t (Lam x a)
  lam_kept t h = step (is_lam (term_at rows t)) refl
    where
      step : (b : Bool) → is_lam (term_at rows t) ≡ b → (x : ℕ) × (a : ℕ) × TermIs rows t (Lam x a)
      step true e = lam_said (term_at rows t) e
      step false e = absurd (h (λ k. let z : true ≡ false = sym (ap is_lam k.2) ∙ e in cc))

  closed_kept : (n t : ℕ) → ((ClosedFunction rows n t → ⊥) → ⊥) → ClosedFunction rows n t
  closed_kept n t h =
      let f = function_kept n (λ k. h (λ c. k c.typed_as)) in
      let l = lam_kept t (λ k. h (λ c. k (c.variable, c.body, c.lam))) in
      let A = fun f.argument f.result in
      let inside = term_inside rows faultless t (Lam l.0 l.1) l.2 in
      let k = nth_there known t (omega (arith, inside, long)) in
      let p = each t k.0 k.1 in
      let same : k.0 ≡ n =
      equal_stable k.0 n (λ ne. h (λ c. ne (tree_once rows faultless p.0 k.0 n p.1 (c.typed_as.named ∙ ap Some (one_type rows t (fun c.typed_as.argument c.typed_as.result) p.0 c.typed p.2))))) in
      let alike : p.0 ≡ A = same_Some _ _ (sym p.1 ∙ ap (slice_get (types rows)) same ∙ f.named) in
      record { typed_as = f; variable = l.0; body = l.1; lam = l.2; typed = subst (HasType rows t) alike p.2; closed = λ x free. h (λ c. c.closed x free) }

  method_kept : (f : MethodForm) → ((MethodRule rows f → ⊥) → ⊥) → MethodRule rows f
  method_kept (Abstract n) h = function_kept n h
  method_kept (Public n t) h = closed_kept n t h
  method_kept (Private n t) h = closed_kept n t h

  global_kept : (n t : ℕ) → ((GlobalRule rows n t → ⊥) → ⊥) → GlobalRule rows n t
  global_kept n t h = step (is_int rows (Some n) && is_num (term_at rows t)) refl
    where
      step : (b : Bool) → (is_int rows (Some n) && is_num (term_at rows t)) ≡ b → GlobalRule rows n t
      step true e =
          let p = and_parts (is_int rows (Some n)) (is_num (term_at rows t)) e in
          let i = int_said rows faultless (Some n) p.0 in
          let w = num_said (term_at rows t) p.1 in
          inl (record { int_type = ap (slice_get (types rows)) (same_Some _ _ i.1) ∙ i.2; word = w.0; num = w.1 })
      step false e =
          inr (closed_kept n t (λ k. h (⊎_elim (λ m.
          let z : true ≡ false = sym (and_from _ _ (int_told rows faultless n m.int_type) (ap is_num m.num)) ∙ e in
          cc) k)))

  method_sound : (m : ℕ) (form : MethodForm) → method_at rows m ≡ Some form → MethodRule rows form
  method_sound m form e =
      let r = method_row (slice_get (section_rows Methods rows) m) form e in
      let o = origin Methods rows m (MethodRow r.0 form) r.1 in
      method_kept form (λ k. fine o.index (Typing Definition) (MethodRow r.0 form, o.at, k))

  global_sound : (g n t : ℕ) → global_type_at rows g ≡ Some n → global_term_at rows g ≡ Some t → GlobalRule rows n t
  global_sound g n t e h =
      let r = global_type_row (slice_get (section_rows Globals rows) g) n e in
      let same : r.1 ≡ t = same_Some _ _ (sym (ap global_term_of r.2) ∙ h) in
      let o = origin Globals rows g (GlobalRow r.0 n r.1) r.2 in
      subst (GlobalRule rows n) same (global_kept n r.1 (λ k. fine o.index (Typing Definition) (GlobalRow r.0 n r.1, o.at, k)))

  pub sound_definitions : SoundDefinitions rows
  sound_definitions = record { methods = method_sound; globals = global_sound }
