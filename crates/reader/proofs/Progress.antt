-- How far a text is read, and what one line more adds. Assumes nothing.
use Rattle.std.proofs.Common.{◌≡◌, ℕ, ◌+◌, ◌<◌, ◌≤◌, true, cond, eqb, ltb, List, [], ◌∷◌, ◌++◌, length, take, drop, set, Ok, Err, Result, sym, refl, ap, ◌∙◌, subst, inl, ⊎_elim, append_assoc, append-nil, arith, length-append, length-set, lt-ltb, rules}
use Rattle.std.proofs.lemmas.Grind.{common_steps}
use Rattle.std.proofs.lemmas.List.{nil_from_length, take_more_set, get_or_append_left, get_or_push, take-append-le, take_all, length-take-le}
use Rattle.std.proofs.str.Laws.{order}
use Rattle.rows.specs.declared.forms.Row.{Row}
use Rattle.rows.specs.declared.tally.Counts.{Counts}
use Rattle.rows.specs.Printing.{row_line, row_lines}
use Rattle.rows.specs.Faults.{Faultless, Least, NoneOf, RowFault}
use Rattle.rows.specs.Tallies.{Tallied, CountsOf}
use Rattle.rows.specs.Sections.{section, place, count}
use Rattle.rows.specs.declared.forms.Section.TheVariants.{Types, Variables, Methods, Globals, Terms}
use Rattle.std.specs.Result.{MatchResult, IsErrAnd}
use Rattle.faults.specs.declared.TextFault.{TextFault}
use Rattle.faults.specs.declared.TextFault.TheVariants.{Limit}
use Rattle.reader.specs.declared.spelled.Admitted.{Admitted}
use Rattle.reader.specs.Text.{FirstLine, LineFault, Reads, Spells, most_bytes}

-- the first count rows are those of the lines read, rest is still to be read, and the other rows are as they were
pub record SoFar (text : List ℕ) (old rows : List Row) (count : ℕ) (rest : List ℕ) (c : Counts) (table : List ℕ) : Type 0 where
  pub long : length rows ≡ length old
  pub fits : count ≤ length rows
  pub few : count + length rest ≤ length text
  pub printing : text ≡ row_lines (take count rows) ++ rest
  pub faultless : Faultless (take count rows)
  pub others : drop count rows ≡ drop count old
  pub tallied : Tallied (take count rows) c table

pub lines_push : (rs : List Row) (row : Row) → row_lines (rs ++ (row ∷ [])) ≡ row_lines rs ++ row_line row
lines_push [] row = append-nil (row_line row)
lines_push (r ∷ rs) row = ap (λ bs. row_line r ++ bs) (lines_push rs row) ∙ sym (append_assoc (row_line r) (row_lines rs) (row_line row))

pub faultless_push : (rs : List Row) (row : Row) → Faultless rs → NoneOf (RowFault true rs row) → Faultless (rs ++ (row ∷ []))
faultless_push rs row h here i r lt is = ⊎_elim older newest (order i (length rs))
  where
    older : i < length rs → NoneOf (RowFault true (take i (rs ++ (row ∷ []))) r)
    older p = subst (λ before. NoneOf (RowFault true before r)) (sym (take-append-le i rs (row ∷ []) (omega arith))) (h i r p (sym (get_or_append_left rs (row ∷ []) r i p) ∙ is))

    newest : length rs ≤ i → NoneOf (RowFault true (take i (rs ++ (row ∷ []))) r)
    newest p =
        let last : length rs ≡ i = omega (arith, length-append rs (row ∷ [])) in
        let same : row ≡ r = sym (get_or_push rs row r i last) ∙ is in
        let before : rs ≡ take i (rs ++ (row ∷ [])) = sym (take-append-le i rs (row ∷ []) (omega arith) ∙ take_all i rs (omega arith)) in
        subst (λ b. NoneOf (RowFault true b r)) before (subst (λ x. NoneOf (RowFault true rs x)) same here)

-- the counts of all sections add up to the rows
one_section : (r : Row) → cond (eqb (place (section r)) 0) 1 0 + cond (eqb (place (section r)) 1) 1 0 + cond (eqb (place (section r)) 2) 1 0 + cond (eqb (place (section r)) 3) 1 0 + cond (eqb (place (section r)) 4) 1 0 ≡ 1
one_section = search rules

all_sections : (rows : List Row) → count Types rows + count Variables rows + count Methods rows + count Globals rows + count Terms rows ≡ length rows
all_sections [] = refl
all_sections (r ∷ rs) = omega (arith, one_section r, all_sections rs)

total : (rows : List Row) (c : Counts) → CountsOf rows c → c.types + c.variables + c.methods + c.globals + c.terms ≡ length rows
total rows c h = omega (arith, h Types, h Variables, h Methods, h Globals, h Terms, all_sections rows)

-- what a line's row that is admitted after the first n rows is, with the tally of them all
abbrev pub Admits : ℕ → List Row → List ℕ → Admitted → Type 0
Admits n rows body p = Spells (body ++ (10 ∷ [])) p.row × NoneOf (RowFault (ltb n (length rows)) (take n rows) p.row) × Tallied (take n rows ++ (p.row ∷ [])) p.tally.counts p.tally.leaves

-- and what its least fault is
abbrev pub Refuses : ℕ → List Row → List ℕ → TextFault → Type 0
Refuses n rows body fault = Least (LineFault (ltb n (length rows)) (take n rows) (body ++ (10 ∷ []))) fault

-- what is said of a result holds of it with its error mapped
pub mapped_ok : {X E D : Type 0} (r : Result X E) {m : Result X D} (P : X → Type 0) (Q : E → Type 0) (R : E → D → Type 0) (x : X) → MatchResult r P Q → MatchResult r (λ y. m ≡ Ok y) (λ e. IsErrAnd m (R e)) → m ≡ Ok x → P x
mapped_ok = search rules

pub mapped_err : {X E D : Type 0} (r : Result X E) {m : Result X D} (P : X → Type 0) (Q : E → Type 0) (R : E → D → Type 0) (d : D) → MatchResult r P Q → MatchResult r (λ y. m ≡ Ok y) (λ e. IsErrAnd m (R e)) → m ≡ Err d → (e : E) × R e d × Q e
mapped_err = search rules

-- a row that is admitted has a place among the rows handed in
pub inside : (n : ℕ) (rows : List Row) (body : List ℕ) (p : Admitted) → Admits n rows body p → n < length rows
inside n rows body p admits = let full = admits.1 Limit in grind (arith, common_steps)

-- what is printed, and what is left as it was, after one row more
more_printed : (text rest body after : List ℕ) (rows : List Row) (row : Row) → text ≡ row_lines rows ++ rest → rest ≡ body ++ (10 ∷ after) → body ++ (10 ∷ []) ≡ row_line row → text ≡ row_lines (rows ++ (row ∷ [])) ++ after
more_printed = grind (arith, common_steps, lines_push)

others_kept : {X : Type 0} (rows old : List X) (count : ℕ) (row : X) → count < length rows → drop count rows ≡ drop count old → drop (count + 1) (set rows count row) ≡ drop (count + 1) old
others_kept = grind (arith, common_steps)

module _ (text : List ℕ) (old rows : List Row) (count : ℕ) (rest : List ℕ) (c : Counts) (table : List ℕ) (h : SoFar text old rows count rest c table) where
  -- one line more
  pub one_more : (body after : List ℕ) → rest ≡ body ++ (10 ∷ after) → (p : Admitted) → Admits count rows body p → SoFar text old (set rows count p.row) (count + 1) after p.tally.counts p.tally.leaves
  one_more body after parts p admits =
      let row = p.row in
      let lt = inside count rows body p admits in
      let same = take_more_set rows count row lt in
      let here : NoneOf (RowFault true (take count rows) row) = subst (λ b. NoneOf (RowFault b (take count rows) row)) (lt-ltb count (length rows) lt) admits.1 in
      record {
        long = length-set rows count row ∙ h.long;
        fits = omega (arith, length-set rows count row);
        few = omega (arith, h.few, ap length parts, length-append body (10 ∷ after));
        printing = rw same (more_printed text rest body after (take count rows) row h.printing parts admits.0.printing);
        faultless = rw same (faultless_push (take count rows) row h.faultless here);
        others = others_kept rows old count row lt h.others;
        tallied = rw same admits.2;
      }

  -- the rows that are filled, and the others
  pub all_rows : rows ≡ take count rows ++ drop (length (take count rows)) old
  all_rows = let fits = h.fits in let others = h.others in grind (arith, common_steps)

  pub refused : length text ≤ most_bytes → (line later : List ℕ) → FirstLine rest line later → (fault : TextFault) → Least (LineFault (ltb count (length rows)) (take count rows) line) fault → Reads (length old) text (Err (record { place = count + 1; fault = fault })) (take count rows)
  refused short line later first fault least =
      let n : length (take count rows) ≡ count = length-take-le count rows h.fits in
      inl (
        record {
          short = short;
          line = line;
          later = later;
          rest = rest;
          printing = h.printing;
          next_line = first;
          faultless = h.faultless;
          fits = omega (arith, h.fits, h.long);
          least = subst (λ b. Least (LineFault b (take count rows) line) fault) (ap (λ k. ltb k (length rows)) (sym n) ∙ ap (ltb (length (take count rows))) h.long) least;
        },
        ap (λ k. k + 1) (sym n),
      )

  pub granted : length text ≤ most_bytes → length rest ≡ 0 → Reads (length old) text (Ok c) (take count rows)
  granted short none =
      let n : length (take count rows) ≡ count = length-take-le count rows h.fits in (
        record { short = short; printing = h.printing ∙ ap (λ bs. row_lines (take count rows) ++ bs) (nil_from_length rest none) ∙ append-nil (row_lines (take count rows)); faultless = h.faultless; fits = omega (arith, h.fits, h.long) },
        h.tallied.counts,
        total (take count rows) c h.tallied.counts,
      )
