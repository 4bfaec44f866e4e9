-- What a tally tells of the rows that it is the tally of. Assumes nothing.
use Rattle.std.proofs.Common.{◌≡◌, ℕ, ◌+◌, ◌<◌, ◌≤◌, Bool, true, false, cond, eqb, ltb, ◌≢◌, ◌⊎◌, List, [], ◌∷◌, ◌++◌, length, get_or, set, sym, refl, ap, ◌∙◌, inl, inr, ⊎_elim, add-zero, add_assoc, zero-add, arith, lit<, length-append, ltb-true, lt-ltb}
use Rattle.std.specs.List.{AllByRecursion}
use Rattle.std.proofs.lemmas.List.{get_or_append_left, get_or_push, get_or-set_same, get_or-set_other}
use Rattle.std.proofs.lemmas.Bool.{and_parts, and_from}
use Rattle.std.proofs.str.Laws.{order}
use Rattle.faults.specs.declared.TextFault.{TextFault}
use Rattle.faults.specs.Numbers.{text_number}
use Rattle.faults.specs.declared.TextFault.TheVariants.{Form, Number, Order, Reference, Limit, Repeat}
use Rattle.rows.specs.declared.forms.TypeForm.TheVariants.{Unit as UnitType, Int as IntType, Pair as PairType, Fun as FunType}
use Rattle.rows.specs.declared.forms.Row.{Row}
use Rattle.rows.specs.declared.forms.Row.TheVariants.{«Type» as TypeRow, Variable as VariableRow, Method as MethodRow, Global as GlobalRow, Term as TermRow}
use Rattle.rows.specs.declared.forms.Section.{Section}
use Rattle.rows.specs.declared.forms.Section.TheVariants.{Types, Variables, Methods, Globals, Terms}
use Rattle.rows.specs.declared.tally.Counts.{Counts}
use Rattle.rows.specs.Sections.{section, place, limit, count, references}
use Rattle.rows.specs.Types.{Tree, unit, leaves, tree, types, types_after, with_row}
use Rattle.rows.specs.Faults.{NumbersInRange, InOrder, WithinLimits, ListedBefore, RowFault, Least, NoneOf, row_leaves}
use Rattle.rows.specs.Tallies.{counted, later_count, all_below, Tallied, leaves_by, counts_with, leaves_with, OrderBy, PlaceBy}

-- no section after sec has a row where the sum of their counts is 0
none_later : (c : Counts) (sec s : Section) → later_count c sec ≡ 0 → place sec < place s → counted c s ≡ 0
none_later c Types Types e p = omega arith
none_later c Types Variables e p = omega arith
none_later c Types Methods e p = omega arith
none_later c Types Globals e p = omega arith
none_later c Types Terms e p = omega arith
none_later c Variables Types e p = omega arith
none_later c Variables Variables e p = omega arith
none_later c Variables Methods e p = omega arith
none_later c Variables Globals e p = omega arith
none_later c Variables Terms e p = omega arith
none_later c Methods Types e p = omega arith
none_later c Methods Variables e p = omega arith
none_later c Methods Methods e p = omega arith
none_later c Methods Globals e p = omega arith
none_later c Methods Terms e p = omega arith
none_later c Globals Types e p = omega arith
none_later c Globals Variables e p = omega arith
none_later c Globals Methods e p = omega arith
none_later c Globals Globals e p = omega arith
none_later c Globals Terms e p = omega arith
none_later c Terms Types e p = omega arith
none_later c Terms Variables e p = omega arith
none_later c Terms Methods e p = omega arith
none_later c Terms Globals e p = omega arith
none_later c Terms Terms e p = omega arith

sum_none : (c : Counts) (sec : Section) → ((s : Section) → place sec < place s → counted c s ≡ 0) → later_count c sec ≡ 0
sum_none c Types h = omega (arith, h Variables (lit< tt), h Methods (lit< tt), h Globals (lit< tt), h Terms (lit< tt))
sum_none c Variables h = omega (arith, h Methods (lit< tt), h Globals (lit< tt), h Terms (lit< tt))
sum_none c Methods h = omega (arith, h Globals (lit< tt), h Terms (lit< tt))
sum_none c Globals h = h Terms (lit< tt)
sum_none c Terms h = refl

-- the counts and the types of rows with one more row
pub count_push : (s : Section) (rows : List Row) (row : Row) → count s (rows ++ (row ∷ [])) ≡ count s rows + cond (eqb (place (section row)) (place s)) 1 0
count_push s [] row = add-zero _ ∙ sym (zero-add _)
count_push s (r ∷ rows) row = ap (λ n. cond (eqb (place (section r)) (place s)) 1 0 + n) (count_push s rows row) ∙ sym (add_assoc _ _ _)

pub types_push : (ts : List Tree) (rows : List Row) (row : Row) → types_after ts (rows ++ (row ∷ [])) ≡ with_row (types_after ts rows) row
types_push ts [] row = refl
types_push ts (r ∷ rows) row = types_push (with_row ts r) rows row

types_count_after : (ts : List Tree) (rows : List Row) → length (types_after ts rows) ≡ length ts + count Types rows
types_count_after ts [] = sym (add-zero _)
types_count_after ts (TypeRow n f ∷ rows) = types_count_after (ts ++ (tree ts f ∷ [])) rows ∙ omega (arith, length-append ts (tree ts f ∷ []))
types_count_after ts (VariableRow n t ∷ rows) = types_count_after ts rows ∙ omega arith
types_count_after ts (MethodRow n f ∷ rows) = types_count_after ts rows ∙ omega arith
types_count_after ts (GlobalRow n t e ∷ rows) = types_count_after ts rows ∙ omega arith
types_count_after ts (TermRow n f ∷ rows) = types_count_after ts rows ∙ omega arith

pub types_count : (rows : List Row) → length (types rows) ≡ count Types rows
types_count rows = types_count_after [] rows ∙ zero-add _

-- which sections a row of a section adds to
counted_with : (c : Counts) (sec s : Section) → counted (counts_with c sec) s ≡ counted c s + cond (eqb (place sec) (place s)) 1 0
counted_with c Types Types = refl
counted_with c Types Variables = sym (add-zero _)
counted_with c Types Methods = sym (add-zero _)
counted_with c Types Globals = sym (add-zero _)
counted_with c Types Terms = sym (add-zero _)
counted_with c Variables Types = sym (add-zero _)
counted_with c Variables Variables = refl
counted_with c Variables Methods = sym (add-zero _)
counted_with c Variables Globals = sym (add-zero _)
counted_with c Variables Terms = sym (add-zero _)
counted_with c Methods Types = sym (add-zero _)
counted_with c Methods Variables = sym (add-zero _)
counted_with c Methods Methods = refl
counted_with c Methods Globals = sym (add-zero _)
counted_with c Methods Terms = sym (add-zero _)
counted_with c Globals Types = sym (add-zero _)
counted_with c Globals Variables = sym (add-zero _)
counted_with c Globals Methods = sym (add-zero _)
counted_with c Globals Globals = refl
counted_with c Globals Terms = sym (add-zero _)
counted_with c Terms Types = sym (add-zero _)
counted_with c Terms Variables = sym (add-zero _)
counted_with c Terms Methods = sym (add-zero _)
counted_with c Terms Globals = sym (add-zero _)
counted_with c Terms Terms = refl

module _ (before : List Row) (c : Counts) (table : List ℕ) (row : Row) (h : Tallied before c table) where
  order_holds : OrderBy c row → InOrder before row
  order_holds o = record {
    no_later_section = λ s p. sym (h.counts s) ∙ none_later c (section row) s o.none_later p;
    counts_on = o.counts_on ∙ h.counts (section row);
  }

  order_told : InOrder before row → OrderBy c row
  order_told o = record {
    counts_on = o.counts_on ∙ sym (h.counts (section row));
    none_later = sum_none c (section row) (λ s p. h.counts s ∙ o.no_later_section s p);
  }

  references_hold : (ps : List (Section × ℕ)) → all_below c ps ≡ true → AllByRecursion (λ p. p.1 < count p.0 before) ps
  references_hold [] e = tt
  references_hold (p ∷ ps) e =
      let parts = and_parts (ltb p.1 (counted c p.0)) (all_below c ps) e in
      let below = ltb-true p.1 (counted c p.0) parts.0 in
      (omega (arith, below, h.counts p.0), references_hold ps parts.1)

  references_told : (ps : List (Section × ℕ)) → AllByRecursion (λ p. p.1 < count p.0 before) ps → all_below c ps ≡ true
  references_told [] a = refl
  references_told (p ∷ ps) a =
      let below : p.1 < counted c p.0 = omega (arith, a.0, h.counts p.0) in
      and_from _ _ (lt-ltb _ _ below) (references_told ps a.1)

  pub leaves_told : (r : Row) → all_below c (references r) ≡ true → leaves_by table r ≡ row_leaves before r
  leaves_told (TypeRow n UnitType) e = refl
  leaves_told (TypeRow n IntType) e = refl
  leaves_told (TypeRow n (PairType a b)) e =
      let below = references_hold (references (TypeRow n (PairType a b))) e in
      ap (λ k. k + get_or table b 0) (h.type_leaves a below.0) ∙ ap (λ k. leaves (get_or (types before) a unit) + k) (h.type_leaves b below.1.0)
  leaves_told (TypeRow n (FunType a b)) e = refl
  leaves_told (VariableRow n t) e = refl
  leaves_told (MethodRow n f) e = refl
  leaves_told (GlobalRow n t u) e = refl
  leaves_told (TermRow n f) e = refl

  counts_push : (s : Section) → counted (counts_with c (section row)) s ≡ count s (before ++ (row ∷ []))
  counts_push s = counted_with c (section row) s ∙ ap (λ k. k + cond (eqb (place (section row)) (place s)) 1 0) (h.counts s) ∙ sym (count_push s before row)

  -- a type's leaves stand in the table behind those of the types before it
  leaves_push : (r : Row) (n : ℕ) → n ≡ row_leaves before r → length table ≡ 64 → counted c (section r) < limit (section r) → (k : ℕ) → k < count Types (before ++ (r ∷ [])) → get_or (leaves_with c table (section r) n) k 0 ≡ leaves (get_or (types (before ++ (r ∷ []))) k unit)
  leaves_push (TypeRow m f) n is long room k lt = ⊎_elim older newest (order k (count Types before))
    where
      same : types (before ++ (TypeRow m f ∷ [])) ≡ types before ++ (tree (types before) f ∷ [])
      same = types_push [] before (TypeRow m f)

      older : k < count Types before → get_or (set table c.types n) k 0 ≡ leaves (get_or (types (before ++ (TypeRow m f ∷ []))) k unit)
      older p =
          let other : k ≢ c.types = omega (arith, h.counts Types) in
          let inside : k < length (types before) = omega (arith, types_count before) in
          get_or-set_other table c.types k n 0 other ∙ h.type_leaves k p ∙ ap leaves (sym (get_or_append_left (types before) (tree (types before) f ∷ []) unit k inside) ∙ ap (λ ts. get_or ts k unit) (sym same))

      newest : count Types before ≤ k → get_or (set table c.types n) k 0 ≡ leaves (get_or (types (before ++ (TypeRow m f ∷ []))) k unit)
      newest p =
          let here : k ≡ c.types = omega (arith, h.counts Types, count_push Types before (TypeRow m f)) in
          let last : length (types before) ≡ k = omega (arith, h.counts Types, types_count before) in
          ap (λ i. get_or (set table c.types n) i 0) here ∙ get_or-set_same table c.types n 0 (omega arith) ∙ is ∙ ap leaves (sym (get_or_push (types before) (tree (types before) f) unit k last) ∙ ap (λ ts. get_or ts k unit) (sym same))
  leaves_push (VariableRow m t) n is long room k lt =
      h.type_leaves k (omega (arith, count_push Types before (VariableRow m t))) ∙ ap (λ ts. leaves (get_or ts k unit)) (sym (types_push [] before (VariableRow m t)))
  leaves_push (MethodRow m f) n is long room k lt =
      h.type_leaves k (omega (arith, count_push Types before (MethodRow m f))) ∙ ap (λ ts. leaves (get_or ts k unit)) (sym (types_push [] before (MethodRow m f)))
  leaves_push (GlobalRow m t e) n is long room k lt =
      h.type_leaves k (omega (arith, count_push Types before (GlobalRow m t e))) ∙ ap (λ ts. leaves (get_or ts k unit)) (sym (types_push [] before (GlobalRow m t e)))
  leaves_push (TermRow m f) n is long room k lt =
      h.type_leaves k (omega (arith, count_push Types before (TermRow m f))) ∙ ap (λ ts. leaves (get_or ts k unit)) (sym (types_push [] before (TermRow m f)))

  pub tallied_push : (n : ℕ) → n ≡ row_leaves before row → length table ≡ 64 → counted c (section row) < limit (section row) → Tallied (before ++ (row ∷ [])) (counts_with c (section row)) (leaves_with c table (section row) n)
  tallied_push n is long room = record { counts = counts_push; type_leaves = leaves_push row n is long room }

  -- the least fault of a row, by what the tally tells
  module _ (room : Bool) (fine : NumbersInRange row) where
    pub order_least : (OrderBy c row → ⊥) → Least (RowFault room before row) Order
    order_least no_order = record { here = λ o. no_order (order_told o); none_smaller = smaller }
      where
        smaller : (other : TextFault) → text_number other < 12 → RowFault room before row other → ⊥
        smaller Form lt f = f
        smaller Number lt f = f fine
        smaller Order lt f = absurd (omega arith)
        smaller Reference lt f = absurd (omega arith)
        smaller Limit lt f = absurd (omega arith)
        smaller Repeat lt f = absurd (omega arith)

    module _ (o : OrderBy c row) where
      pub reference_least : all_below c (references row) ≡ false → Least (RowFault room before row) Reference
      reference_least e = record { here = λ a. let z : true ≡ false = sym (references_told (references row) a) ∙ e in cc; none_smaller = smaller }
        where
          smaller : (other : TextFault) → text_number other < 13 → RowFault room before row other → ⊥
          smaller Form lt f = f
          smaller Number lt f = f fine
          smaller Order lt f = f (order_holds o)
          smaller Reference lt f = absurd (omega arith)
          smaller Limit lt f = absurd (omega arith)
          smaller Repeat lt f = absurd (omega arith)

      module _ (back : all_below c (references row) ≡ true) where
        pub limit_least : (PlaceBy c room row (leaves_by table row) → ⊥) → Least (RowFault room before row) Limit
        limit_least none = record { here = passed room (λ e w. none (record { has_room = e; four_leaves = rw (leaves_told row back) w.four_leaves; section_limit = rw (h.counts (section row)) w.section_limit })); none_smaller = smaller }
          where
            passed : (b : Bool) → (b ≡ true → WithinLimits before row → ⊥) → (WithinLimits before row → ⊥) ⊎ (b ≡ false)
            passed true k = inl (k refl)
            passed false k = inr refl

            smaller : (other : TextFault) → text_number other < 14 → RowFault room before row other → ⊥
            smaller Form lt f = f
            smaller Number lt f = f fine
            smaller Order lt f = f (order_holds o)
            smaller Reference lt f = f (references_hold (references row) back)
            smaller Limit lt f = absurd (omega arith)
            smaller Repeat lt f = absurd (omega arith)

        module _ (p : PlaceBy c room row (leaves_by table row)) where
          within : WithinLimits before row
          within = record { section_limit = rw (← (h.counts (section row))) p.section_limit; four_leaves = rw (leaves_told row back) at p.four_leaves }

          no_limit : RowFault room before row Limit → ⊥
          no_limit = ⊎_elim (λ f. f within) (λ e. let z : true ≡ false = sym p.has_room ∙ e in cc)

          pub repeat_least : ListedBefore before row → Least (RowFault room before row) Repeat
          repeat_least l = record { here = l; none_smaller = smaller }
            where
              smaller : (other : TextFault) → text_number other < 15 → RowFault room before row other → ⊥
              smaller Form lt f = f
              smaller Number lt f = f fine
              smaller Order lt f = f (order_holds o)
              smaller Reference lt f = f (references_hold (references row) back)
              smaller Limit lt f = no_limit f
              smaller Repeat lt f = absurd (omega arith)

          pub none_holds : (ListedBefore before row → ⊥) → NoneOf (RowFault room before row)
          none_holds l Form f = f
          none_holds l Number f = f fine
          none_holds l Order f = f (order_holds o)
          none_holds l Reference f = f (references_hold (references row) back)
          none_holds l Limit f = no_limit f
          none_holds l Repeat f = l f
