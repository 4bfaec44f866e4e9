-- Rows that mount are mounted as the rules of play ask.
use Rattle.std.proofs.Common.{◌≡◌, ℕ, zero, suc, ◌+◌, ◌≤◌, List, [], ◌∷◌, ◌++◌, length, take, Some, Ok, Err, Result, sym, refl, ap, ◌∙◌, subst, add-one, arith}
use mathlib.Core.List.{Memᴰ}
use Rattle.std.specs.List.{slice_get}
use Rattle.faults.specs.declared.LibraryFault.TheVariants.{Typing}
use Rattle.faults.specs.declared.TypingFault.{TypingFault}
use Rattle.rows.specs.declared.forms.TermForm.{TermForm}
use Rattle.rows.specs.declared.forms.Row.{Row}
use Rattle.rows.specs.declared.forms.Row.TheVariants.{«Type» as TypeRow, Variable as VariableRow, Method as MethodRow, Global as GlobalRow, Term as TermRow}
use Rattle.rows.specs.declared.forms.Section.TheVariants.{Terms}
use Rattle.rows.specs.Faults.{Faultless}
use Rattle.library.specs.Definitions.{SoundDefinitions}
use Rattle.library.specs.Inference.{TypedBy, type_of}
use Rattle.library.specs.Listing.{section_rows, method_of, global_type_of, global_term_of}
use Rattle.library.specs.Mounting.{WellTyped}
use Rattle.library.proofs.Held.{faultless_of, sound_definitions}
use Rattle.library.proofs.Lists.{nth_there, take_all}
use Rattle.library.proofs.Sorted.{running_row}
use Rattle.library.proofs.Steps.{no_term, typed_next, typing_refused}
use Rattle.rules.specs.Mounted.{Mounted}
use Rattle.rules.specs.Mounting.{MountingIsPlayable}

-- the place of a row
place_of : (rows : List Row) (row : Row) → Memᴰ row rows → (i : ℕ) × (slice_get rows i ≡ Some row)
place_of [] row i = elim i [ ]
place_of (r ∷ rows) row (Memᴰ.head e) = (0, ap Some (sym e))
place_of (r ∷ rows) row (Memᴰ.tail i) = let w = place_of rows row i in (suc w.0, w.1)

module _ (rows : List Row) (fine : WellTyped rows) where
  -- no row has a fault after the rows before it
  faultless : Faultless rows
  faultless = faultless_of rows fine

  -- the numbers of the types of the terms among the first rows
  abbrev TypedUpTo : ℕ → Type 0
  TypedUpTo i = (known : List ℕ) × TypedBy rows known × (length known ≡ length (section_rows Terms (take i rows)))

  -- a row that is no term changes nothing
  no_more : (i : ℕ) (row : Row) → slice_get rows i ≡ Some row → ((t : ℕ) (form : TermForm) → row ≡ TermRow t form → ⊥) → TypedUpTo i → TypedUpTo (i + 1)
  no_more i row e other k = (k.0, k.1, k.2 ∙ no_term rows faultless i row e other)

  -- each row is typed after the rows before it
  one_more : (i : ℕ) (row : Row) → slice_get rows i ≡ Some row → TypedUpTo i → TypedUpTo (i + 1)
  one_more i (TypeRow n f) e k = no_more i (TypeRow n f) e (λ t form d. cc) k
  one_more i (VariableRow n t) e k = no_more i (VariableRow n t) e (λ u form d. cc) k
  one_more i (MethodRow n f) e k = no_more i (MethodRow n f) e (λ t form d. cc) k
  one_more i (GlobalRow n t u) e k = no_more i (GlobalRow n t u) e (λ x form d. cc) k
  one_more i (TermRow t form) e k = step (type_of rows k.0 form) refl
    where
      step : (r : Result ℕ TypingFault) → type_of rows k.0 form ≡ r → TypedUpTo (i + 1)
      step (Ok n) q = let w = typed_next rows faultless i t form e k.0 n k.1 k.2 q in (k.0 ++ (n ∷ []), w.0, w.1)
      step (Err fault) q = let m = typing_refused rows faultless i t form e k.0 k.1 k.2 fault q _ refl in absurd (fine m.0 (Typing fault) m.2.holds)

  -- so the terms among the first rows are typed
  typed_up_to : (i : ℕ) → i ≤ length rows → TypedUpTo i
  typed_up_to zero le = ([], (λ t. refl), refl)
  typed_up_to (suc i) le =
      let here = nth_there rows i (omega arith) in
      subst TypedUpTo (add-one i) (one_more i here.0 here.1 (typed_up_to i (omega arith)))

  -- each method and each global keeps its rule
  sound : SoundDefinitions rows
  sound =
      let k = typed_up_to (length rows) (omega arith) in
      sound_definitions rows fine k.0 k.1 (k.2 ∙ ap (λ rs. length (section_rows Terms rs)) (take_all rows))

  -- so the rows are mounted
  mounted : Mounted rows
  mounted = record {
    faultless = faultless;
    methods = λ n form i.
        let w = place_of rows (MethodRow n form) i in
        sound.methods n form (ap method_of (running_row rows faultless w.0 (MethodRow n form) w.1));
    globals = λ n type term i.
        let w = place_of rows (GlobalRow n type term) i in
        let here = running_row rows faultless w.0 (GlobalRow n type term) w.1 in
        sound.globals n type term (ap global_type_of here) (ap global_term_of here);
  }

pub mounting_is_playable : MountingIsPlayable
mounting_is_playable G mounts lawful closed = record { mounted = mounted G.rows mounts; lawful = lawful; closed = closed }
