-- Texts that pass tests which can be computed are read, and their rows mount.
use Rattle.std.proofs.Common.{◌≡◌, ℕ, zero, suc, ◌+◌, ◌^◌, ◌<◌, Bool, true, ◌&&◌, eqb, ltb, leb, List, [], ◌∷◌, ◌++◌, length, take, replicate, Some, None, Ok, Err, Option, Result, sym, refl, ap, ◌∙◌, append_assoc, append-nil, arith, length-set, ltb-true, eqb-true, leb-true}
use Rattle.std.proofs.Math.Logic.{⊎_elim}
use lib.Signed.{mag}
use Rattle.std.specs.List.{slice_get, AllByRecursion}
use Rattle.std.specs.Option.{is_none}
use Rattle.std.proofs.lemmas.Option.{slice_get-get_or, slice_get_past}
use Rattle.std.proofs.lemmas.Bool.{and_parts}
use Rattle.std.proofs.str.Laws.{order}
use Rattle.faults.specs.declared.TypingFault.{TypingFault}
use Rattle.text.specs.Slots.{Slot, literal, number, word, InRange}
use Rattle.rows.specs.declared.forms.TermForm.{TermForm}
use Rattle.rows.specs.declared.forms.Row.{Row}
use Rattle.rows.specs.declared.forms.Row.TheVariants.{«Type» as TypeRow, Term as TermRow}
use Rattle.rows.specs.declared.forms.Section.{Section}
use Rattle.rows.specs.declared.forms.Section.TheVariants.{Types, Variables, Methods, Globals, Terms}
use Rattle.rows.specs.declared.tally.Counts.{Counts}
use Rattle.rows.specs.Printing.{slots, row_lines}
use Rattle.rows.specs.Sections.{section, running, limit, references}
use Rattle.rows.specs.Faults.{Faultless, ListedBefore}
use Rattle.rows.specs.Tallies.{Tallied, counted, later_count, all_below, leaves_by, counts_with, leaves_with}
use Rattle.rows.proofs.Admits.{leaves_told, none_holds, tallied_push}
use Rattle.reader.specs.Text.{most_bytes}
use Rattle.reader.proofs.Progress.{faultless_push}
use Rattle.library.specs.Inference.{first_of_form, type_of, types_term, TypedBy}
use Rattle.library.specs.Judging.{stands}
use Rattle.library.specs.Listing.{section_rows, type_form_of, term_at}
use Rattle.library.specs.Mounting.{WellTyped}
use Rattle.library.specs.Scopes.{ScopedBy, Words, free_in}
use Rattle.library.proofs.Granting.{granted_rows}
use Rattle.library.proofs.Lists.{nth_inside, not_found}
use Rattle.rules.specs.Texts.{ReadsAndMounts}

-- the test that each number is in its range
abbrev in_range_test : List Slot → Bool
in_range_test [] = true
in_range_test (literal bs ∷ ss) = in_range_test ss
in_range_test (number n ∷ ss) = leb n 65535 && in_range_test ss
in_range_test (word z ∷ ss) = ltb (mag z) (2 ^ 31) && in_range_test ss

-- where the test holds, each number is in its range
in_range_tested : (ss : List Slot) → in_range_test ss ≡ true → AllByRecursion InRange ss
in_range_tested [] e = tt
in_range_tested (literal bs ∷ ss) e = (tt, in_range_tested ss e)
in_range_tested (number n ∷ ss) e = let p = and_parts (leb n 65535) (in_range_test ss) e in (leb-true n 65535 p.0, in_range_tested ss p.1)
in_range_tested (word z ∷ ss) e = let p = and_parts (ltb (mag z) (2 ^ 31)) (in_range_test ss) e in (record { sfits = ltb-true (mag z) (2 ^ 31) p.0 }, in_range_tested ss p.1)

-- the test that a type is not listed before
abbrev new_test : List Row → Row → Bool
new_test before (TypeRow n f) = is_none (first_of_form f before)
new_test before row = true

-- the test that a row has no fault after the rows before it, of which there is a tally
abbrev row_test : List Row → Counts → List ℕ → Row → Bool
row_test before c table row =
    in_range_test (slots row)
    && (eqb (running row) (counted c (section row))
    && (eqb (later_count c (section row)) 0
    && (all_below c (references row)
    && (leb (leaves_by table row) 4
    && (ltb (counted c (section row)) (limit (section row)) && new_test before row)))))

-- where the test holds, no type is listed twice
no_such : (before : List Row) (row : Row) → new_test before row ≡ true → ListedBefore before row → ⊥
no_such before (TypeRow n f) e h = go (first_of_form f before) refl e
  where
    go : (o : Option ℕ) → first_of_form f before ≡ o → is_none o ≡ true → ⊥
    go None d g = not_found f before h.0 d (ap type_form_of (slice_get-get_or before h.0 (TypeRow h.1 f) h.2 ∙ ap Some h.3))
    go (Some k) d g = cc
no_such before row e h = h

-- the table of leaves stays as long as it is
leaves_long : (c : Counts) (table : List ℕ) (s : Section) (n : ℕ) → length table ≡ 64 → length (leaves_with c table s n) ≡ 64
leaves_long c table Types n e = length-set table c.types n ∙ e
leaves_long c table s n e = e

-- the tally of rows without fault
pub record Good (rows : List Row) (c : Counts) (table : List ℕ) : Type 0 where
  pub faultless : Faultless rows
  pub tallied : Tallied rows c table
  pub long : length table ≡ 64

-- where the test holds, the tally goes on
row_tested : (before : List Row) (c : Counts) (table : List ℕ) (row : Row) → Good before c table → row_test before c table row ≡ true → Good (before ++ (row ∷ [])) (counts_with c (section row)) (leaves_with c table (section row) (leaves_by table row))
row_tested before c table row good e =
    let a = and_parts (in_range_test (slots row)) _ e in
    let b = and_parts (eqb (running row) (counted c (section row))) _ a.1 in
    let d = and_parts (eqb (later_count c (section row)) 0) _ b.1 in
    let f = and_parts (all_below c (references row)) _ d.1 in
    let g = and_parts (leb (leaves_by table row) 4) _ f.1 in
    let h = and_parts (ltb (counted c (section row)) (limit (section row))) (new_test before row) g.1 in
    let few = leb-true (leaves_by table row) 4 g.0 in
    let room = ltb-true (counted c (section row)) (limit (section row)) h.0 in
    record {
      faultless =
          faultless_push before row good.faultless
          (none_holds before c table row good.tallied true (in_range_tested (slots row) a.0)
          (record { counts_on = eqb-true (running row) (counted c (section row)) b.0; none_later = eqb-true (later_count c (section row)) 0 d.0 }) f.0
          (record { has_room = refl; four_leaves = few; section_limit = room }) (no_such before row h.1));
      tallied = tallied_push before c table row good.tallied (leaves_by table row) (leaves_told before c table row good.tallied row f.0) good.long room;
      long = leaves_long c table (section row) (leaves_by table row) good.long;
    }

-- the test of all rows, one after another
abbrev rows_test : List Row → Counts → List ℕ → List Row → Bool
rows_test before c table [] = true
rows_test before c table (row ∷ rows) = row_test before c table row && rows_test (before ++ (row ∷ [])) (counts_with c (section row)) (leaves_with c table (section row) (leaves_by table row)) rows

-- the counts after all rows
abbrev counts_after : Counts → List Row → Counts
counts_after c [] = c
counts_after c (row ∷ rows) = counts_after (counts_with c (section row)) rows

-- where the test holds, the tally goes on to the end
rows_tested : (before : List Row) (c : Counts) (table : List ℕ) (rows : List Row) → Good before c table → rows_test before c table rows ≡ true → (more : List ℕ) × Good (before ++ rows) (counts_after c rows) more
rows_tested before c table [] good e = (table, rw (← append-nil before) at good)
rows_tested before c table (row ∷ rows) good e =
    let p = and_parts (row_test before c table row) _ e in
    let w = rows_tested (before ++ (row ∷ [])) _ _ rows (row_tested before c table row good p.0) p.1 in
    (w.0, rw (append_assoc before (row ∷ []) rows) at w.1)

-- a test at each place below n
abbrev all_places : ℕ → (ℕ → Bool) → Bool
all_places zero holds = true
all_places (suc n) holds = holds n && all_places n holds

-- where it holds, the test holds at each place
all_placed : (n : ℕ) (holds : ℕ → Bool) → all_places n holds ≡ true → (t : ℕ) → t < n → holds t ≡ true
all_placed zero holds e t lt = absurd (omega arith)
all_placed (suc n) holds e t lt =
    let p = and_parts (holds n) (all_places n holds) e in
    ⊎_elim (λ l. all_placed n holds p.1 t l) (λ le. let same : t ≡ n = omega arith in ap holds same ∙ p.0) (order t n)

-- the type of a term, where it is found, goes on to what follows
abbrev found : Result ℕ TypingFault → List ℕ → (ℕ → List ℕ) → List ℕ
found (Ok n) known onward = onward n
found (Err fault) known onward = known

-- the numbers of the types of terms, one after another
abbrev types_found : List Row → List ℕ → List TermForm → List ℕ
types_found rows known [] = known
types_found rows known (form ∷ forms) = found (type_of rows known form) known (λ n. types_found rows (known ++ (n ∷ [])) forms)

-- the free variables of terms, one after another
abbrev sets_found : List ℕ → List TermForm → List ℕ
sets_found sets [] = sets
sets_found sets (form ∷ forms) = sets_found (sets ++ (free_in sets form ∷ [])) forms

-- a set of free variables is that of a term
abbrev set_test : List ℕ → Option ℕ → Option TermForm → Bool
set_test before None form = true
set_test before (Some s) None = true
set_test before (Some s) (Some form) = eqb s (free_in before form)

-- the test that each set of free variables is a word
abbrev words_test : List ℕ → Bool
words_test [] = true
words_test (s ∷ sets) = ltb s (2 ^ 64) && words_test sets

-- where the test holds, each set is a word
words_tested : (sets : List ℕ) → words_test sets ≡ true → Words sets
words_tested [] e t s h = cc
words_tested (x ∷ sets) e zero s h = let same : x ≡ s = cc in rw same at (ltb-true x (2 ^ 64) (and_parts (ltb x (2 ^ 64)) (words_test sets) e).0)
words_tested (x ∷ sets) e (suc t) s h = words_tested sets (and_parts (ltb x (2 ^ 64)) (words_test sets) e).1 t s h

module _ (rows : List Row) (known sets : List ℕ) where
  -- the test that each term has the type whose number is known
  abbrev typed_test : Bool
  typed_test = all_places (length known) (λ t. types_term rows (take t known) (slice_get known t) (term_at rows t))

  -- where the test holds, the terms are typed so
  typed_tested : typed_test ≡ true → TypedBy rows known
  typed_tested e t =
      ⊎_elim (λ lt. all_placed (length known) (λ u. types_term rows (take u known) (slice_get known u) (term_at rows u)) e t lt)
      (λ le. ap (λ (o : Option ℕ). types_term rows (take t known) o (term_at rows t)) (slice_get_past known t le)) (order t (length known))

  -- the test that each term has the free variables that are known
  abbrev scoped_test : Bool
  scoped_test = all_places (length sets) (λ t. set_test (take t sets) (slice_get sets t) (term_at rows t))

  -- where the test holds, the terms are scoped so
  scoped_tested : scoped_test ≡ true → ScopedBy rows sets
  scoped_tested e t s form h k =
      let here = all_placed (length sets) (λ u. set_test (take u sets) (slice_get sets u) (term_at rows u)) e t (nth_inside sets t s h) in
      eqb-true s (free_in (take t sets) form) (ap (λ (o : Option TermForm). set_test (take t sets) (Some s) o) (sym k) ∙ ap (λ (o : Option ℕ). set_test (take t sets) o (term_at rows t)) (sym h) ∙ here)

  -- the test that each row stands
  abbrev stands_test : List Row → Bool
  stands_test [] = true
  stands_test (row ∷ more) = stands rows known sets row && stands_test more

  -- where the test holds, each row stands
  stands_tested : (more : List Row) → stands_test more ≡ true → (j : ℕ) (row : Row) → slice_get more j ≡ Some row → stands rows known sets row ≡ true
  stands_tested [] e j row h = cc
  stands_tested (r ∷ more) e zero row h = let same : r ≡ row = cc in rw same at (and_parts (stands rows known sets r) (stands_test more) e).0
  stands_tested (r ∷ more) e (suc j) row h = stands_tested more (and_parts (stands rows known sets r) (stands_test more) e).1 j row h

  -- the test that rows without fault mount
  abbrev mount_test : Bool
  mount_test =
      eqb (length known) (length (section_rows Terms rows))
      && (eqb (length sets) (length (section_rows Terms rows)) && (typed_test && (scoped_test && (words_test sets && stands_test rows))))

  -- where the test holds, they mount
  mount_tested : Faultless rows → mount_test ≡ true → WellTyped rows
  mount_tested fine e =
      let a = and_parts (eqb (length known) (length (section_rows Terms rows))) _ e in
      let b = and_parts (eqb (length sets) (length (section_rows Terms rows))) _ a.1 in
      let c = and_parts typed_test _ b.1 in
      let d = and_parts scoped_test _ c.1 in
      let f = and_parts (words_test sets) (stands_test rows) d.1 in
      granted_rows rows fine known sets
      (record { typed = typed_tested c.0; long = eqb-true _ _ a.0; scoped = scoped_tested d.0; all = eqb-true _ _ b.0; small = words_tested sets f.0 })
      (stands_tested rows f.1)

-- the counts before the first row
abbrev none_counted : Counts
none_counted = record { types = 0; variables = 0; methods = 0; globals = 0; terms = 0 }

-- the tally before the first row
none_good : Good [] none_counted (replicate 64 0)
none_good = record { faultless = λ i row lt. absurd (omega arith); tallied = record { counts = none_there; type_leaves = λ k lt. absurd (omega arith) }; long = refl }
  where
    none_there : (s : Section) → counted none_counted s ≡ 0
    none_there Types = refl
    none_there Variables = refl
    none_there Methods = refl
    none_there Globals = refl
    none_there Terms = refl

-- how many rows are counted
abbrev all_counted : Counts → ℕ
all_counted c = c.types + c.variables + c.methods + c.globals + c.terms

-- the forms of the terms among rows
abbrev forms : List Row → List TermForm
forms [] = []
forms (TermRow n f ∷ rows) = f ∷ forms rows
forms (row ∷ rows) = forms rows

-- a text is short, its rows have no fault, and they mount
abbrev pub text_test : List ℕ → List Row → Bool
text_test text rows =
    leb (length text) most_bytes
    && (rows_test [] none_counted (replicate 64 0) rows
    && (eqb (all_counted (counts_after none_counted rows)) (length rows)
    && mount_test rows (types_found rows [] (forms rows)) (sets_found [] (forms rows))))

-- a text that is printed from rows is read as these, and they mount, where the test holds
pub text_tested : (text : List ℕ) (rows : List Row) → text_test text rows ≡ true → row_lines rows ≡ text → ReadsAndMounts text rows
text_tested text rows e printing =
    let a = and_parts (leb (length text) most_bytes) _ e in
    let b = and_parts (rows_test [] none_counted (replicate 64 0) rows) _ a.1 in
    let c = and_parts (eqb _ (length rows)) _ b.1 in
    let w = rows_tested [] none_counted (replicate 64 0) rows none_good b.0 in
    record {
      counts = counts_after none_counted rows;
      reads = (
        record { short = leb-true (length text) most_bytes a.0; printing = sym printing; faultless = w.1.faultless; fits = omega arith },
        w.1.tallied.counts,
        eqb-true _ _ c.0,
      );
      mounts = mount_tested rows _ _ w.1.faultless c.1;
    }
