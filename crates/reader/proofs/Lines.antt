-- What the fields of a line tell of the line. Assumes nothing.
use Rattle.std.proofs.Common.{◌≡◌, ℕ, ◌^◌, ◌<◌, Bool, true, false, ◌⊎◌, List, [], ◌∷◌, ◌++◌, map, Some, None, sym, refl, ap, ◌∙◌, subst, inl, inr, ⊎_elim, arith, rules}
use lib.Signed.{mag}
use Rattle.std.specs.List.{AllByRecursion}
use Rattle.std.proofs.lemmas.List.{append_cancel_right}
use Rattle.std.proofs.str.Laws.{order}
use Rattle.std.proofs.lemmas.Bool.{both_ways}
use Rattle.faults.specs.declared.TextFault.{TextFault}
use Rattle.faults.specs.declared.TextFault.TheVariants.{Form, Number, Order, Reference, Limit, Repeat}
use Rattle.faults.specs.Numbers.{text_number}
use Rattle.text.specs.Slots.{Slot, literal, number, word, written, InRange, Lacks, Free, Fits, commas}
use Rattle.text.specs.Reading.{cut}
use Rattle.text.proofs.Laws.{commas_cut, cut_free}
use Rattle.text.proofs.Forms.{words_free, written_all_free, fits_free, written_fits, commas_lack, cut_fields}
use Rattle.rows.specs.declared.forms.Row.{Row}
use Rattle.rows.specs.Printing.{slots, row_line}
use Rattle.rows.specs.Faults.{NumbersInRange, RowFault, Least, NoneOf}
use Rattle.reader.specs.Fields.{row_of, has_form}
use Rattle.reader.specs.Text.{Formed, Spells, LineFault}
use Rattle.reader.proofs.Spelling.{row_written, row_exact}
use Rattle.reader.proofs.Forming.{row_fits, row_form}

-- the words of a row's line are free
slots_free : (row : Row) → words_free (slots row) ≡ true
slots_free = search rules

-- a row has fields
fields_some : (row : Row) → map written (slots row) ≡ [] → ⊥
fields_some = search rules

fits_some : (row : Row) (fs : List (List ℕ)) → Fits (slots row) fs → fs ≡ [] → ⊥
fits_some = search rules

-- no fault has a smaller number than that of a line without a form, and only that one has a smaller one than that of a number
none_below_form : (fault : TextFault) → text_number fault < 10 → ⊥
none_below_form = search (rules, arith)

form_below_number : (fault : TextFault) → text_number fault < 11 → fault ≡ Form
form_below_number = search (rules, arith)

-- the fields of a line that has no line feed but its last byte
module _ (body : List ℕ) (lacks : Lacks 10 body) where
  row_fields : (row : Row) → Spells (body ++ (10 ∷ [])) row → row_of (cut body) ≡ Some row
  row_fields row h =
      let same : body ≡ commas (map written (slots row)) = append_cancel_right body (commas (map written (slots row))) (10 ∷ []) h.printing in
      let free = written_all_free (slots row) (slots_free row) h.in_range in
      ap (λ b. row_of (cut b)) same ∙ ap row_of (cut_fields (map written (slots row)) free (fields_some row)) ∙ row_written row h.in_range

  pub spells_found : (row : Row) → row_of (cut body) ≡ Some row → Spells (body ++ (10 ∷ [])) row
  spells_found row e =
      let x = row_exact (cut body) row e in
      record { in_range = x.0; printing = ap (λ b. b ++ (10 ∷ [])) (sym (ap commas x.1 ∙ commas_cut body)) }

  pub spells_none : row_of (cut body) ≡ None → (row : Row) → Spells (body ++ (10 ∷ [])) row → ⊥
  spells_none e row h = let f = row_fields row h in cc

  pub spells_same : (row other : Row) → row_of (cut body) ≡ Some row → Spells (body ++ (10 ∷ [])) other → other ≡ row
  spells_same row other e h = let f = row_fields other h in cc

  pub form_holds : has_form (cut body) ≡ true → Formed (body ++ (10 ∷ []))
  form_holds e = let p = row_form (cut body) (cut_free body lacks) e in (p.0, cut body, p.1, ap (λ b. b ++ (10 ∷ [])) (sym (commas_cut body)))

  pub form_none : has_form (cut body) ≡ false → Formed (body ++ (10 ∷ [])) → ⊥
  form_none e f =
      let same : body ≡ commas f.1 = append_cancel_right body (commas f.1) (10 ∷ []) f.3 in
      let free = fits_free (slots f.0) f.1 (slots_free f.0) f.2 in
      let fields : cut body ≡ f.1 = ap cut same ∙ cut_fields f.1 free (fits_some f.0 f.1 f.2) in
      both_ways _ e (ap has_form fields ∙ row_fits f.0 f.1 f.2)

  -- the faults of a line that spells a row are those of the row
  module _ (room : Bool) (before : List Row) (formed : Formed (body ++ (10 ∷ []))) (row : Row) (found : row_of (cut body) ≡ Some row) where
    spelled : Spells (body ++ (10 ∷ [])) row
    spelled = spells_found row found

    of_row : (fault : TextFault) → LineFault room before (body ++ (10 ∷ [])) fault → RowFault room before row fault
    of_row Form f = f formed
    of_row Number f = absurd (f row spelled)
    of_row Order f = subst (λ r. RowFault room before r Order) (spells_same row f.0 found f.1) f.2
    of_row Reference f = subst (λ r. RowFault room before r Reference) (spells_same row f.0 found f.1) f.2
    of_row Limit f = ⊎_elim (λ g. ⊎_elim inl (λ e. cc) (subst (λ r. RowFault true before r Limit) (spells_same row g.0 found g.1) g.2)) inr f
    of_row Repeat f = subst (λ r. RowFault room before r Repeat) (spells_same row f.0 found f.1) f.2

    to_line : (fault : TextFault) → RowFault room before row fault → LineFault room before (body ++ (10 ∷ [])) fault
    to_line = search (rules, spelled)

    pub line_least : (fault : TextFault) → Least (RowFault room before row) fault → Least (LineFault room before (body ++ (10 ∷ []))) fault
    line_least fault l = record { here = to_line fault l.here; none_smaller = λ other lt f. l.none_smaller other lt (of_row other f) }

  pub form_least : (room : Bool) (before : List Row) → has_form (cut body) ≡ false → Least (LineFault room before (body ++ (10 ∷ []))) Form
  form_least room before e = record { here = form_none e; none_smaller = λ other lt f. none_below_form other lt }

  pub number_least : (room : Bool) (before : List Row) → has_form (cut body) ≡ true → row_of (cut body) ≡ None → Least (LineFault room before (body ++ (10 ∷ []))) Number
  number_least room before e n = record { here = spells_none n; none_smaller = λ other lt f. subst (LineFault room before (body ++ (10 ∷ []))) (form_below_number other lt) f (form_holds e) }

  pub spelled_least : (room : Bool) (before : List Row) (fault : TextFault) → ((fault ≡ Form) × (has_form (cut body) ≡ false)) ⊎ ((fault ≡ Number) × (has_form (cut body) ≡ true) × (row_of (cut body) ≡ None)) → Least (LineFault room before (body ++ (10 ∷ []))) fault
  spelled_least room before fault =
      ⊎_elim (λ h. subst (Least (LineFault room before (body ++ (10 ∷ [])))) (sym h.0) (form_least room before h.1))
      (λ h. subst (Least (LineFault room before (body ++ (10 ∷ [])))) (sym h.0) (number_least room before h.1 h.2))

-- a printed line ends in its only line feed, so bytes without one have no form
pub unended_least : (room : Bool) (before : List Row) (line : List ℕ) → Lacks 10 line → Least (LineFault room before line) Form
unended_least room before line lacks = record { here = λ f. no_feed (commas f.1) (subst (Lacks 10) f.3 lacks); none_smaller = λ other lt f. none_below_form other lt }
  where
    no_feed : (bs : List ℕ) → Lacks 10 (bs ++ (10 ∷ [])) → ⊥
    no_feed [] h = h.0 refl
    no_feed (b ∷ bs) h = no_feed bs h.1

-- whether numbers are in range can be told
in_range_told : (ss : List Slot) → ((AllByRecursion InRange ss → ⊥) → ⊥) → AllByRecursion InRange ss
in_range_told [] h = tt
in_range_told (literal w ∷ ss) h = (tt, in_range_told ss (λ k. h (λ a. k a.1)))
in_range_told (number n ∷ ss) h = (⊎_elim (λ lt. absurd (h (λ a. let small = a.0 in omega arith))) (λ le. le) (order 65535 n), in_range_told ss (λ k. h (λ a. k a.1)))
in_range_told (word z ∷ ss) h = (⊎_elim (λ lt. record { sfits = lt }) (λ le. absurd (h (λ a. let small = a.0.sfits in omega arith))) (order (mag z) (2 ^ 31)), in_range_told ss (λ k. h (λ a. k a.1)))

-- the line of a row without fault
module _ {before : List Row} (row : Row) (good : NoneOf (RowFault true before row)) where
  in_range : NumbersInRange row
  in_range = in_range_told (slots row) (good Number)

  fields_free : AllByRecursion Free (map written (slots row))
  fields_free = written_all_free (slots row) (slots_free row) in_range

  body_lacks : Lacks 10 (commas (map written (slots row)))
  body_lacks = commas_lack (map written (slots row)) fields_free

  pub line_body : (body : List ℕ) × (row_line row ≡ body ++ (10 ∷ [])) × Lacks 10 body
  line_body = (commas (map written (slots row)), refl, body_lacks)

  spells_itself : Spells (row_line row) row
  spells_itself = record { in_range = in_range; printing = refl }

  pub no_line_fault : (fault : TextFault) → LineFault true before (row_line row) fault → ⊥
  no_line_fault fault f =
      let body = commas (map written (slots row)) in
      let lacks = body_lacks in
      good fault (of_row body lacks true before (row, map written (slots row), written_fits (slots row) in_range, refl) row (row_fields body lacks row spells_itself) fault f)

pub spells_one : {before : List Row} (row other : Row) → NoneOf (RowFault true before row) → NoneOf (RowFault true before other) → row_line row ≡ row_line other → other ≡ row
spells_one row other good fine same =
    let body = commas (map written (slots row)) in
    let lacks = body_lacks row good in
    spells_same body lacks row other (row_fields body lacks row (spells_itself row good)) (record { in_range = in_range other fine; printing = same })
