-- Tables of types and of free variables, one term more at a time. Assumes nothing.
use Rattle.std.proofs.lemmas.Option.{same_Some}
use Rattle.std.proofs.Common.{◌≡◌, ℕ, zero, suc, ◌<◌, ◌≤◌, true, List, [], ◌∷◌, ◌++◌, length, take, Some, None, Ok, Err, Option, Result, sym, refl, ap, ◌∙◌, subst, ⊎_elim, arith, length-append, eq-eqb, true-eqb}
use Rattle.std.specs.List.{slice_get}
use Rattle.faults.specs.declared.TypingFault.{TypingFault}
use Rattle.rows.specs.declared.forms.TermForm.{TermForm}
use Rattle.rows.specs.declared.forms.Row.{Row}
use Rattle.rows.specs.declared.forms.Section.TheVariants.{Terms}
use Rattle.rows.specs.Types.{Tree, types}
use Rattle.rows.specs.Faults.{Faultless}
use Rattle.library.specs.Listing.{section_rows, term_at}
use Rattle.library.specs.Typing.{HasType}
use Rattle.library.proofs.Lists.{nth_inside}
use Rattle.std.proofs.lemmas.List.{length-take, take-append-le}
use Rattle.std.proofs.lemmas.Bool.{cases_lt}
use Rattle.library.specs.Inference.{TypedBy, gives, type_of, types_term}
use Rattle.library.specs.Scopes.{ScopedBy, free_in}
use Rattle.library.proofs.Lists.{nth_left, nth_end, nth_take, take_all}
use Rattle.library.proofs.Sorted.{term_there}
use Rattle.library.proofs.Inferring.{Known, found}

-- what holds of each entry from those before it, holds with one entry more
module _ (rows : List Row) (Right : List ℕ → TermForm → ℕ → Type 0) where
  abbrev Each : List ℕ → Type 0
  Each table = (t n : ℕ) (form : TermForm) → slice_get table t ≡ Some n → term_at rows t ≡ Some form → Right (take t table) form n

  each_more : (table : List ℕ) (form : TermForm) (n : ℕ) → Each table → term_at rows (length table) ≡ Some form → Right table form n → Each (table ++ (n ∷ []))
  each_more table form n each is right t m f e h = ⊎_elim older newest (cases_lt t (length table))
    where
      older : t < length table → Right (take t (table ++ (n ∷ []))) f m
      older lt = subst (λ ts. Right ts f m) (sym (take-append-le t table (n ∷ []) (omega arith))) (each t m f (sym (nth_left table (n ∷ []) t lt) ∙ e) h)

      newest : length table ≤ t → Right (take t (table ++ (n ∷ []))) f m
      newest le =
          let last : t ≡ length table = omega (arith, nth_inside (table ++ (n ∷ [])) t m e, length-append table (n ∷ [])) in
          let same : n ≡ m = same_Some _ _ (sym (nth_end table n []) ∙ ap (slice_get (table ++ (n ∷ []))) (sym last) ∙ e) in
          let alike : form ≡ f = same_Some _ _ (sym is ∙ ap (term_at rows) (sym last) ∙ h) in
          let all : table ≡ take t (table ++ (n ∷ [])) = sym (ap (λ k. take k (table ++ (n ∷ []))) last ∙ take-append-le (length table) table (n ∷ []) (omega arith) ∙ take_all table) in
          subst (λ ts. Right ts f m) all (subst (λ g. Right table g m) alike (subst (Right table form) same right))

given_number : (r : Result ℕ TypingFault) (n : ℕ) → gives r n ≡ true → r ≡ Ok n
given_number (Ok m) n e = ap Ok (true-eqb m n (sym e))
given_number (Err f) n e = cc

types_each : (rows : List Row) (ts : List ℕ) (o : Option ℕ) (p : Option TermForm) → ((n : ℕ) (form : TermForm) → o ≡ Some n → p ≡ Some form → gives (type_of rows ts form) n ≡ true) → types_term rows ts o p ≡ true
types_each rows ts None p h = refl
types_each rows ts (Some n) None h = refl
types_each rows ts (Some n) (Some form) h = h n form refl refl

typed_at : (rows : List Row) (known : List ℕ) → TypedBy rows known → (t n : ℕ) (form : TermForm) → slice_get known t ≡ Some n → term_at rows t ≡ Some form → gives (type_of rows (take t known) form) n ≡ true
typed_at rows known typed t n form e h = ap (types_term rows (take t known) (Some n)) (sym h) ∙ ap (λ o. types_term rows (take t known) o (term_at rows t)) (sym e) ∙ typed t

pub typed_more : (rows : List Row) (known : List ℕ) (form : TermForm) (n : ℕ) → TypedBy rows known → term_at rows (length known) ≡ Some form → type_of rows known form ≡ Ok n → TypedBy rows (known ++ (n ∷ []))
typed_more rows known form n typed is e t =
    types_each rows (take t (known ++ (n ∷ []))) _ _ (λ m f. each_more rows (λ ts f m. gives (type_of rows ts f) m ≡ true) known form n (λ t m f. typed_at rows known typed t m f) is (ap (λ r. gives r n) e ∙ eq-eqb n n refl) t m f)

pub scoped_more : (rows : List Row) (known : List ℕ) (form : TermForm) (set : ℕ) → ScopedBy rows known → term_at rows (length known) ≡ Some form → set ≡ free_in known form → ScopedBy rows (known ++ (set ∷ []))
scoped_more rows = each_more rows (λ ts form set. set ≡ free_in ts form)

-- the numbers found are those of the types that terms have
module _ (rows : List Row) (fine : Faultless rows) (known : List ℕ) (typed : TypedBy rows known) (few : length known ≤ length (section_rows Terms rows)) where
  known_below : (fuel j k : ℕ) → j < fuel → slice_get known j ≡ Some k → (A : Tree) × (slice_get (types rows) k ≡ Some A) × HasType rows j A
  known_below zero j k lt e = absurd (omega arith)
  known_below (suc fuel) j k lt e =
      let inside = nth_inside known j k e in
      let f = term_there rows fine j (omega (arith, inside)) in
      found rows fine (take j known) (λ i n h. known_below fuel i n (short i n h) (sym (nth_take known i j (shorter i n h)) ∙ h)) j f.0 f.1 k (given_number (type_of rows (take j known) f.0) k (typed_at rows known typed j k f.0 e f.1))
    where
      shorter : (i n : ℕ) → slice_get (take j known) i ≡ Some n → i < j
      shorter i n h = let p = nth_inside (take j known) i n h in omega (arith, length-take j known)

      short : (i n : ℕ) → slice_get (take j known) i ≡ Some n → i < fuel
      short i n h = let p = shorter i n h in omega arith

  pub known_all : Known rows fine known
  known_all j k e = known_below (suc j) j k (omega arith) e
