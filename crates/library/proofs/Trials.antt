-- Which fault of rows is the first. Assumes nothing.
use Rattle.std.proofs.lemmas.Option.{same_Some}
use Rattle.std.proofs.Common.{◌≡◌, ℕ, ◌<◌, true, cond, eqb, ◌⊎◌, List, length, take, Some, Ok, Err, Result, MatchResult, sym, refl, ap, ◌∙◌, subst, inl, inr, ⊎_elim, arith}
use Rattle.std.specs.List.{slice_get}
use Rattle.std.specs.Result.{IsErrAnd}
use Rattle.std.proofs.lemmas.Result.{err_from_is_err_and}
use Rattle.faults.specs.declared.TypingFault.TheVariants.{Parts, Unlisted, Definition}
use Rattle.rows.specs.declared.forms.TermForm.{TermForm}
use Rattle.rows.specs.declared.forms.Row.{Row}
use Rattle.rows.specs.declared.forms.Section.TheVariants.{Terms}
use Rattle.rows.specs.Types.{Tree}
use Rattle.rows.specs.Faults.{Faultless}
use Rattle.library.specs.Listing.{section_rows}
use Rattle.library.specs.Typing.{HasType}
use Rattle.library.proofs.Lists.{nth_inside, nth_there}
use Rattle.std.proofs.lemmas.Bool.{cases_lt}
use Rattle.faults.specs.declared.TextFault.{TextFault}
use Rattle.faults.specs.declared.TextFault.TheVariants.{Form as FormFault, Number as NumberFault, Order, Reference, Limit, Repeat}
use Rattle.faults.specs.declared.LibraryFault.{LibraryFault}
use Rattle.faults.specs.declared.LibraryFault.TheVariants.{Text, Typing}
use Rattle.faults.specs.declared.Placed.{Placed}
use Rattle.faults.specs.Numbers.{library_number, text_number}
use Rattle.rows.specs.declared.forms.Row.TheVariants.{«Type» as TypeRow, Variable as VariableRow, Method as MethodRow, Global as GlobalRow, Term as TermRow}
use Rattle.rows.specs.Faults.{Least, RowFault}
use Rattle.library.specs.declared.refusal.MountFault.{MountFault}
use Rattle.library.specs.declared.refusal.MountFault.TheVariants.{Refused, Memory}
use Rattle.library.specs.Mounting.{Answered, Before, FaultAt, FirstFault, Mounts, TypeUnlisted, HasTypingFault, WellTyped, round}
use Rattle.library.proofs.Lists.{nth_take, take_take}
use Rattle.library.proofs.Sorted.{good_at, running_row}
use Rattle.library.proofs.Unique.{one_type}
use Rattle.library.proofs.Inferring.{Known}

-- the first fault of a text
module _ (rows : List Row) (i : ℕ) (row : Row) (at : slice_get rows i ≡ Some row) (before : Faultless (take i rows)) (fault : TextFault) (least : Least (RowFault true (take i rows) row) fault) where
  pub text_first : FirstFault rows i (Text fault)
  text_first = record { holds = (row, at, least.here); none_before = earlier }
    where
      sooner : (j : ℕ) (g : TextFault) → j < i → FaultAt rows j (Text g) → ⊥
      sooner j g lt f =
          let here : slice_get (take i rows) j ≡ Some f.0 = nth_take rows j i lt ∙ f.1 in
          let part : take j (take i rows) ≡ take j rows = take_take j i rows (omega arith) in
          good_at (take i rows) before j f.0 here g (subst (λ rs. RowFault true rs f.0 g) (sym part) f.2)

      smaller : (j : ℕ) (g : TextFault) → j ≡ i → text_number g < text_number fault → FaultAt rows j (Text g) → ⊥
      smaller j g same lt f =
          let alike : f.0 ≡ row = same_Some _ _ (sym f.1 ∙ ap (slice_get rows) same ∙ at) in
          least.none_smaller g lt (subst (λ r. RowFault true (take i rows) r g) alike (subst (λ k. RowFault true (take k rows) f.0 g) same f.2))

      earlier : (j : ℕ) (other : LibraryFault) → Before j other i (Text fault) → FaultAt rows j other → ⊥
      earlier j (Text g) b f = ⊎_elim (λ lt. omega arith) (λ p. ⊎_elim (λ lt. sooner j g lt f) (λ q. smaller j g q.0 q.1 f) p.1) b
      earlier j (Typing Parts) b f = ⊎_elim (λ lt. omega arith) (λ p. omega (arith, p.0)) b
      earlier j (Typing Unlisted) b f = ⊎_elim (λ lt. omega arith) (λ p. omega (arith, p.0)) b
      earlier j (Typing Definition) b f = ⊎_elim (λ lt. omega arith) (λ p. omega (arith, p.0)) b

module _ (rows : List Row) (fine : Faultless rows) where
  no_text : (j : ℕ) (g : TextFault) → FaultAt rows j (Text g) → ⊥
  no_text j g f = good_at rows fine j f.0 f.1 g f.2

  -- a typed term has no fault of typing
  module _ (known : List ℕ) (each : Known rows fine known) where
    parts_fine : (row : Row) (j : ℕ) → slice_get rows j ≡ Some row → ((t : ℕ) (form : TermForm) → row ≡ TermRow t form → t < length known) → HasTypingFault rows row Parts → ⊥
    parts_fine (TypeRow n f) j e few h = h
    parts_fine (VariableRow n t) j e few h = h
    parts_fine (MethodRow n f) j e few h = h
    parts_fine (GlobalRow n t u) j e few h = h
    parts_fine (TermRow t f) j e few h =
        let k = nth_there known t (few t f refl) in
        let p = each t k.0 k.1 in
        h p.0 p.2

    unlisted_fine : (row : Row) (j : ℕ) → slice_get rows j ≡ Some row → ((t : ℕ) (form : TermForm) → row ≡ TermRow t form → t < length known) → HasTypingFault rows row Unlisted → ⊥
    unlisted_fine (TypeRow n f) j e few h = h
    unlisted_fine (VariableRow n t) j e few h = h
    unlisted_fine (MethodRow n f) j e few h = h
    unlisted_fine (GlobalRow n t u) j e few h = h
    unlisted_fine (TermRow t f) j e few h =
        let k = nth_there known t (few t f refl) in
        let p = each t k.0 k.1 in
        h.unlisted k.0 (p.1 ∙ ap Some (one_type rows t p.0 h.type p.2 h.typed))

  -- the first fault of a term's typing
  module _ (i t : ℕ) (form : TermForm) (at : slice_get rows i ≡ Some (TermRow t form)) (known : List ℕ) (each : Known rows fine known) (few : (j : ℕ) (row : Row) → j < i → slice_get rows j ≡ Some row → (u : ℕ) (f : TermForm) → row ≡ TermRow u f → u < length known) where
    sooner_parts : (j : ℕ) → j < i → FaultAt rows j (Typing Parts) → ⊥
    sooner_parts j lt f = parts_fine known each f.0 j f.1 (few j f.0 lt f.1) f.2

    sooner_unlisted : (j : ℕ) → j < i → FaultAt rows j (Typing Unlisted) → ⊥
    sooner_unlisted j lt f = unlisted_fine known each f.0 j f.1 (few j f.0 lt f.1) f.2

    pub parts_first : ((A : Tree) → HasType rows t A → ⊥) → FirstFault rows i (Typing Parts)
    parts_first none = record { holds = (TermRow t form, at, none); none_before = earlier }
      where
        earlier : (j : ℕ) (other : LibraryFault) → Before j other i (Typing Parts) → FaultAt rows j other → ⊥
        earlier j (Text g) b f = no_text j g f
        earlier j (Typing Parts) b f = ⊎_elim (λ lt. omega arith) (λ p. ⊎_elim (λ lt. sooner_parts j lt f) (λ q. omega (arith, q.1)) p.1) b
        earlier j (Typing Unlisted) b f = ⊎_elim (λ lt. omega arith) (λ p. ⊎_elim (λ lt. sooner_unlisted j lt f) (λ q. omega (arith, q.1)) p.1) b
        earlier j (Typing Definition) b f = ⊎_elim (λ lt. omega arith) (λ p. omega (arith, p.0)) b

    pub unlisted_first : TypeUnlisted rows t → FirstFault rows i (Typing Unlisted)
    unlisted_first here = record { holds = (TermRow t form, at, here); none_before = earlier }
      where
        same_place : (j : ℕ) → j ≡ i → FaultAt rows j (Typing Parts) → ⊥
        same_place j same f =
            let alike : f.0 ≡ TermRow t form = same_Some _ _ (sym f.1 ∙ ap (slice_get rows) same ∙ at) in
            subst (λ r. HasTypingFault rows r Parts) alike f.2 here.type here.typed

        earlier : (j : ℕ) (other : LibraryFault) → Before j other i (Typing Unlisted) → FaultAt rows j other → ⊥
        earlier j (Text g) b f = no_text j g f
        earlier j (Typing Parts) b f = ⊎_elim (λ lt. omega arith) (λ p. ⊎_elim (λ lt. sooner_parts j lt f) (λ q. same_place j q.0 f) p.1) b
        earlier j (Typing Unlisted) b f = ⊎_elim (λ lt. omega arith) (λ p. ⊎_elim (λ lt. sooner_unlisted j lt f) (λ q. omega (arith, q.1)) p.1) b
        earlier j (Typing Definition) b f = ⊎_elim (λ lt. omega arith) (λ p. omega (arith, p.0)) b

  -- where all terms are typed
  module _ (known : List ℕ) (each : Known rows fine known) (all : length known ≡ length (section_rows Terms rows)) where
    all_few : (j : ℕ) (row : Row) → slice_get rows j ≡ Some row → (t : ℕ) (form : TermForm) → row ≡ TermRow t form → t < length known
    all_few j row e t form same =
        let here = running_row rows fine j (TermRow t form) (e ∙ ap Some same) in
        let inside = nth_inside (section_rows Terms rows) t (TermRow t form) here in
        omega (arith, inside, all)

    no_parts : (j : ℕ) → FaultAt rows j (Typing Parts) → ⊥
    no_parts j f = parts_fine known each f.0 j f.1 (all_few j f.0 f.1) f.2

    no_unlisted : (j : ℕ) → FaultAt rows j (Typing Unlisted) → ⊥
    no_unlisted j f = unlisted_fine known each f.0 j f.1 (all_few j f.0 f.1) f.2

    pub definition_first : (i : ℕ) (row : Row) → slice_get rows i ≡ Some row → HasTypingFault rows row Definition → ((j : ℕ) (r : Row) → j < i → slice_get rows j ≡ Some r → HasTypingFault rows r Definition → ⊥) → FirstFault rows i (Typing Definition)
    definition_first i row at here before = record { holds = (row, at, here); none_before = earlier }
      where
        earlier : (j : ℕ) (other : LibraryFault) → Before j other i (Typing Definition) → FaultAt rows j other → ⊥
        earlier j (Text g) b f = no_text j g f
        earlier j (Typing Parts) b f = no_parts j f
        earlier j (Typing Unlisted) b f = no_unlisted j f
        earlier j (Typing Definition) b f = ⊎_elim (λ lt. omega arith) (λ p. ⊎_elim (λ lt. before j f.0 lt f.1 f.2) (λ q. omega (arith, q.1)) p.1) b

    pub all_fine : ((j : ℕ) (r : Row) → slice_get rows j ≡ Some r → HasTypingFault rows r Definition → ⊥) → WellTyped rows
    all_fine stand j (Text g) f = no_text j g f
    all_fine stand j (Typing Parts) f = no_parts j f
    all_fine stand j (Typing Unlisted) f = no_unlisted j f
    all_fine stand j (Typing Definition) f = stand j f.0 f.1 f.2

-- rows have one first fault
fault_of_number : ℕ → LibraryFault
fault_of_number n = cond (eqb n 10) (Text FormFault) (cond (eqb n 11) (Text NumberFault) (cond (eqb n 12) (Text Order) (cond (eqb n 13) (Text Reference) (cond (eqb n 14) (Text Limit) (cond (eqb n 15) (Text Repeat) (cond (eqb n 16) (Typing Parts) (cond (eqb n 17) (Typing Unlisted) (Typing Definition))))))))

by_own_number : (f : LibraryFault) → fault_of_number (library_number f) ≡ f
unfolding fault_of_number
by_own_number (Text FormFault) = refl
by_own_number (Text NumberFault) = refl
by_own_number (Text Order) = refl
by_own_number (Text Reference) = refl
by_own_number (Text Limit) = refl
by_own_number (Text Repeat) = refl
by_own_number (Typing Parts) = refl
by_own_number (Typing Unlisted) = refl
by_own_number (Typing Definition) = refl

compared : (a b : ℕ) → ((a < b) ⊎ (b < a)) ⊎ (a ≡ b)
compared a b = ⊎_elim (λ lt. inl (inl lt)) (λ le. ⊎_elim (λ lt. inl (inr lt)) (λ ge. inr (omega arith)) (cases_lt b a)) (cases_lt a b)

pub one_first : (rows : List Row) (i j : ℕ) (f g : LibraryFault) → FirstFault rows i f → FirstFault rows j g → (i ≡ j) × (f ≡ g)
one_first rows i j f g a b =
    ⊎_elim (λ r. ⊎_elim (λ lt. absurd (b.none_before i f (inl lt) a.holds)) (λ lt. absurd (a.none_before j g (inl lt) b.holds)) r)
    (λ r. ⊎_elim (λ p. ⊎_elim (λ lt. absurd (b.none_before i f (inr (r, inl lt)) a.holds)) (λ lt. absurd (a.none_before j g (inr (sym r, inl lt)) b.holds)) p)
    (λ p. ⊎_elim (λ q. ⊎_elim (λ lt. absurd (b.none_before i f (inr (r, inr (p, lt))) a.holds)) (λ lt. absurd (a.none_before j g (inr (sym r, inr (sym p, lt))) b.holds)) q)
    (λ q. (p, sym (by_own_number f) ∙ ap fault_of_number q ∙ by_own_number g))
    (compared (library_number f) (library_number g))) (compared i j)) (compared (round f) (round g))

-- rows have one answer, but for memory
one_answer : (rows : List Row) (answer other : Result (Unit {0}) MountFault) → Mounts rows answer → Mounts rows other → (answer ≡ Err Memory → ⊥) → (other ≡ Err Memory → ⊥) → answer ≡ other
one_answer rows (Ok u) (Ok v) a b p q = refl
one_answer rows (Ok u) (Err (Refused x)) a b p q = absurd (a b.0 x.fault b.2.holds)
one_answer rows (Ok u) (Err Memory) a b p q = absurd (q refl)
one_answer rows (Err (Refused x)) (Ok v) a b p q = absurd (b a.0 x.fault a.2.holds)
one_answer rows (Err (Refused x)) (Err (Refused y)) a b p q =
    let s = one_first rows a.0 b.0 x.fault y.fault a.2 b.2 in
    let line : x.place ≡ y.place = omega (arith, a.1, b.1, s.0) in
    same_placed x y line s.1
  where
    same_placed : (x y : Placed LibraryFault) → x.place ≡ y.place → x.fault ≡ y.fault → ◌≡◌ {A = Result (Unit {0}) MountFault} (Err (Refused x)) (Err (Refused y))
    same_placed x y e f = λ i. Err (Refused (record { place = e i; fault = f i }))
one_answer rows (Err (Refused x)) (Err Memory) a b p q = absurd (q refl)
one_answer rows (Err Memory) other a b p q = absurd (p refl)

pub answered : (rows : List Row) (answer : Result (Unit {0}) MountFault) → Mounts rows answer → Answered rows answer
answered rows answer m = record { mounts = m; no_other = λ other n p q. one_answer rows other answer n m p q }

-- the same for a fault that a `?` hands on
pub answered_exit : {T : Type 0} (rows : List Row) (P : T → Type 0) (result : Result T MountFault) (fault : MountFault) → IsErrAnd result (λ told. told ≡ fault) → Mounts rows (Err fault) → MatchResult result P (λ told. Answered rows (Err told))
answered_exit rows P result fault exit mounts =
    let p = err_from_is_err_and result exit in
    rw (p.1, p.2) (answered rows (Err fault) mounts)
