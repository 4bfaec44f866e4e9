-- What one row more adds to what is known of the rows before it. Assumes nothing.
use Rattle.std.proofs.Common.{◌≡◌, ℕ, suc, ◌+◌, ◌<◌, ◌≤◌, true, cond, eqb, List, [], ◌∷◌, ◌++◌, length, get_or, take, Some, Ok, Err, sym, refl, ap, ◌∙◌, subst, add-one, arith, length-append}
use Rattle.std.specs.List.{slice_get}
use Rattle.std.proofs.lemmas.Option.{slice_get-get_or}
use Rattle.faults.specs.declared.TypingFault.{TypingFault}
use Rattle.faults.specs.declared.TypingFault.TheVariants.{Parts, Unlisted, Definition}
use Rattle.rows.specs.declared.forms.TypeForm.TheVariants.{Unit as UnitType}
use Rattle.rows.specs.declared.forms.TermForm.{TermForm}
use Rattle.rows.specs.declared.forms.Row.{Row}
use Rattle.rows.specs.declared.forms.Section.TheVariants.{Terms}
use Rattle.rows.specs.Faults.{Faultless}
use Rattle.library.specs.Listing.{section_rows, term_at}
use Rattle.library.specs.Typing.{TermIs}
use Rattle.std.proofs.lemmas.List.{length-map, map-append, length-take-le}
use Rattle.library.specs.declared.refusal.MountFault.{MountFault}
use Rattle.faults.specs.declared.TextFault.{TextFault}
use Rattle.faults.specs.declared.LibraryFault.TheVariants.{Text, Typing}
use Rattle.rows.specs.declared.forms.Row.TheVariants.{«Type» as TypeRow, Variable as VariableRow, Method as MethodRow, Global as GlobalRow, Term as TermRow}
use Rattle.rows.specs.Sections.{section, place}
use Rattle.rows.specs.Faults.{Least, RowFault}
use Rattle.library.specs.declared.refusal.MountFault.TheVariants.{Refused}
use Rattle.library.specs.Inference.{TypedBy, type_of}
use Rattle.library.specs.Scopes.{ScopedBy, free_in}
use Rattle.library.specs.Facts.{free_sets, type_numbers}
use Rattle.library.specs.declared.facts.TermFacts.{TermFacts}
use Rattle.library.specs.Mounting.{Mounts}
use Rattle.library.proofs.Sorted.{few_rows, running_row, running_now, section_more, section_grows, section_part}
use Rattle.library.proofs.Inferring.{Known, no_type, unlisted_type, no_definition}
use Rattle.library.proofs.Tables.{typed_more, scoped_more, known_all}
use Rattle.library.proofs.Trials.{text_first, parts_first, unlisted_first}

-- the row that a read past the end would give
abbrev pub blank : Row
blank = TypeRow 0 UnitType

pub place_few : (rows : List Row) (k : ℕ) → k ≤ length rows → Faultless (take k rows) → k < 65536
place_few rows k le h = omega (arith, few_rows (take k rows) h, length-take-le k rows le)

pub text_refused : (rows : List Row) (i : ℕ) (d : Row) → i < length rows → Faultless (take i rows) → (fault : TextFault) → Least (RowFault true (take i rows) (get_or rows i d)) fault → (answer : MountFault) → answer ≡ Refused (record { place = i + 1; fault = Text fault }) → Mounts rows (Err answer)
text_refused rows i d lt before fault least answer e = subst (λ a. Mounts rows (Err a)) (sym e) (i, refl, text_first rows i (get_or rows i d) (slice_get-get_or rows i d lt) before fault least)

module _ (rows : List Row) (fine : Faultless rows) (i : ℕ) where
  -- a row that is no term
  pub no_term : (row : Row) → slice_get rows i ≡ Some row → ((t : ℕ) (form : TermForm) → row ≡ TermRow t form → ⊥) → length (section_rows Terms (take i rows)) ≡ length (section_rows Terms (take (i + 1) rows))
  no_term row e other =
      let more = section_more Terms rows i row e in
      let next : suc i ≡ i + 1 = sym (add-one i) in
      let none : ◌≡◌ {A = ℕ} (cond (eqb (place (section row)) 4) 1 0) 0 = not_term row other in
      sym (ap (λ k. length (section_rows Terms (take k rows))) (sym next) ∙ more ∙ ap (λ n. length (section_rows Terms (take i rows)) + n) none ∙ omega arith)
    where
      not_term : (r : Row) → ((t : ℕ) (form : TermForm) → r ≡ TermRow t form → ⊥) → ◌≡◌ {A = ℕ} (cond (eqb (place (section r)) 4) 1 0) 0
      not_term (TypeRow n f) h = refl
      not_term (VariableRow n t) h = refl
      not_term (MethodRow n f) h = refl
      not_term (GlobalRow n t u) h = refl
      not_term (TermRow n f) h = absurd (h n f refl)

  module _ (t : ℕ) (form : TermForm) (at : slice_get rows i ≡ Some (TermRow t form)) where
    one_term : length (section_rows Terms (take (i + 1) rows)) ≡ length (section_rows Terms (take i rows)) + 1
    one_term = let next : suc i ≡ i + 1 = sym (add-one i) in ap (λ k. length (section_rows Terms (take k rows))) (sym next) ∙ section_more Terms rows i (TermRow t form) at

    pub term_here : (n : ℕ) → n ≡ length (section_rows Terms (take i rows)) → term_at rows n ≡ Some form
    term_here n e =
        let same : n ≡ t = e ∙ sym (running_now rows fine i (TermRow t form) at) in
        ap (term_at rows) same ∙ ap Rattle.library.specs.Listing.term_of (running_row rows fine i (TermRow t form) at)

    pub typed_next : (known : List ℕ) (n : ℕ) → TypedBy rows known → length known ≡ length (section_rows Terms (take i rows)) → type_of rows known form ≡ Ok n → TypedBy rows (known ++ (n ∷ [])) × (length (known ++ (n ∷ [])) ≡ length (section_rows Terms (take (i + 1) rows)))
    typed_next known n typed long e = (typed_more rows known form n typed (term_here (length known) long) e, omega (arith, length-append known (n ∷ []), one_term, long))

    pub scoped_next : (known : List ℕ) (set : ℕ) → ScopedBy rows known → length known ≡ length (section_rows Terms (take i rows)) → set ≡ free_in known form → ScopedBy rows (known ++ (set ∷ [])) × (length (known ++ (set ∷ [])) ≡ length (section_rows Terms (take (i + 1) rows)))
    scoped_next known set scoped long e = (scoped_more rows known form set scoped (term_here (length known) long) e, omega (arith, length-append known (set ∷ []), one_term, long))

    pub typing_refused : (known : List ℕ) → TypedBy rows known → length known ≡ length (section_rows Terms (take i rows)) → (fault : TypingFault) → type_of rows known form ≡ Err fault → (told : MountFault) → told ≡ Refused (record { place = i + 1; fault = Typing fault }) → Mounts rows (Err told)
    typing_refused known typed long fault e told q = subst (λ a. Mounts rows (Err a)) (sym q) (answer fault e)
      where
        number : length known ≡ t
        number = long ∙ sym (running_now rows fine i (TermRow t form) at)

        is : TermIs rows t form
        is = term_here t (sym number ∙ long)

        each : Known rows fine known
        each = known_all rows fine known typed (let p = section_part Terms rows i in omega (arith, p, long))

        few : (j : ℕ) (row : Row) → j < i → slice_get rows j ≡ Some row → (u : ℕ) (f : TermForm) → row ≡ TermRow u f → u < length known
        few j row lt e u f same =
            let here : slice_get rows j ≡ Some (TermRow u f) = e ∙ ap Some same in
            omega (arith, running_now rows fine j (TermRow u f) here, section_more Terms rows j (TermRow u f) here, section_grows Terms rows (suc j) i (omega arith), long)

        answer : (f : TypingFault) → type_of rows known form ≡ Err f → Mounts rows (Err (Refused (record { place = i + 1; fault = Typing f })))
        answer Parts h = (i, refl, parts_first rows fine i t form at known each few (no_type rows fine known each t form is number h))
        answer Unlisted h = (i, refl, unlisted_first rows fine i t form at known each few (unlisted_type rows fine known each t form is h))
        answer Definition h = absurd (no_definition rows fine known each t form is h)

-- what is found of the terms among the first i rows
pub record FoundSoFar (rows : List Row) (i : ℕ) (known : List TermFacts) : Type 0 where
  pub typed : TypedBy rows (type_numbers known)
  pub scoped : ScopedBy rows (free_sets known)
  pub long : length known ≡ length (section_rows Terms (take i rows))

module _ (rows : List Row) (fine : Faultless rows) (i : ℕ) (known : List TermFacts) (sofar : FoundSoFar rows i known) where
  numbers_long : length (type_numbers known) ≡ length (section_rows Terms (take i rows))
  numbers_long = length-map known _ ∙ sofar.long

  -- with a row that is no term, and with a term
  pub found_without : (row : Row) → slice_get rows i ≡ Some row → ((t : ℕ) (form : TermForm) → row ≡ TermRow t form → ⊥) → FoundSoFar rows (i + 1) known
  found_without row at other = record { typed = sofar.typed; scoped = sofar.scoped; long = sofar.long ∙ no_term rows fine i row at other }

  module _ (t : ℕ) (form : TermForm) (at : slice_get rows i ≡ Some (TermRow t form)) where
    pub found_with : (facts : TermFacts) → type_of rows (type_numbers known) form ≡ Ok facts.type_number → facts.free.bits ≡ free_in (free_sets known) form → FoundSoFar rows (i + 1) (known ++ (facts ∷ []))
    found_with facts type set =
        let numbers = map-append (λ (f : TermFacts). f.type_number) known (facts ∷ []) in
        let sets = map-append (λ (f : TermFacts). f.free.bits) known (facts ∷ []) in
        let many = length-map known (λ (f : TermFacts). f.free.bits) in
        record {
          typed = subst (TypedBy rows) (sym numbers) (typed_next rows fine i t form at (type_numbers known) facts.type_number sofar.typed numbers_long type).0;
          scoped = subst (ScopedBy rows) (sym sets) (scoped_next rows fine i t form at (free_sets known) facts.free.bits sofar.scoped (many ∙ sofar.long) set).0;
          long = omega (arith, length-append known (facts ∷ []), one_term rows fine i t form at, sofar.long);
        }

    pub found_refused : (fault : TypingFault) → type_of rows (type_numbers known) form ≡ Err fault → (told : MountFault) → told ≡ Refused (record { place = i + 1; fault = Typing fault }) → Mounts rows (Err told)
    found_refused fault e told q = typing_refused rows fine i t form at (type_numbers known) sofar.typed numbers_long fault e told q
