-- What follows where all terms are typed. Assumes nothing.
use Rattle.std.proofs.lemmas.Option.{same_Some}
use Rattle.std.proofs.Common.{◌≡◌, ℕ, zero, suc, ◌+◌, ◌^◌, ◌<◌, [], ◌∷◌, true, false, List, length, not, Some, None, Err, sym, refl, ◌∙◌, subst, arith}
use Rattle.std.specs.List.{position, slice_get}
use Rattle.faults.specs.declared.TypingFault.TheVariants.{Definition}
use Rattle.rows.specs.declared.forms.Row.{Row}
use Rattle.rows.specs.declared.forms.Section.TheVariants.{Terms}
use Rattle.rows.specs.Faults.{Faultless}
use Rattle.library.specs.Listing.{section_rows}
use Rattle.library.proofs.Lists.{all_pass, first_fails}
use Rattle.faults.specs.declared.LibraryFault.TheVariants.{Typing}
use Rattle.library.specs.declared.refusal.MountFault.{MountFault}
use Rattle.library.specs.declared.refusal.MountFault.TheVariants.{Refused}
use Rattle.library.specs.Definitions.{SoundDefinitions}
use Rattle.library.specs.declared.facts.TermFacts.{TermFacts}
use Rattle.library.specs.Facts.{free_sets, type_numbers}
use Rattle.std.proofs.lemmas.List.{length-map}
use Rattle.library.specs.Inference.{TypedBy}
use Rattle.library.specs.Judging.{stands}
use Rattle.library.specs.Mounting.{Mounts, WellTyped}
use Rattle.library.specs.Scopes.{ScopedBy, Words}
use Rattle.library.proofs.Held.{sound_definitions}
use Rattle.library.proofs.Inferring.{Known}
use Rattle.library.proofs.Tables.{known_all}
use Rattle.library.proofs.Judged.{stands_not, stands_right}
use Rattle.library.proofs.Trials.{all_fine, definition_first}

module _ (rows : List Row) (fine : Faultless rows) (known sets : List ℕ) (typed : TypedBy rows known) (long : length known ≡ length (section_rows Terms rows)) (scoped : ScopedBy rows sets) (all : length sets ≡ length (section_rows Terms rows)) (small : Words sets) where
  each : Known rows fine known
  each = known_all rows fine known typed (omega (arith, long))

  -- the first row that breaks its rule
  pub definition_refused : (i : ℕ) → ((j : ℕ) (row : Row) → j < i → slice_get rows j ≡ Some row → stands rows known sets row ≡ true) → (row : Row) → slice_get rows i ≡ Some row → stands rows known sets row ≡ false → (told : MountFault) → told ≡ Refused (record { place = i + 1; fault = Typing Definition }) → Mounts rows (Err told)
  definition_refused i before row at broken told e =
      subst (λ a. Mounts rows (Err a)) (sym e)
      (i, refl, definition_first rows fine known each long i row at (stands_not rows fine known sets each scoped long all small row broken) (λ j r lt h. stands_right rows fine known sets each scoped long all small r (before j r lt h)))

  module _ (kept : (j : ℕ) (row : Row) → slice_get rows j ≡ Some row → stands rows known sets row ≡ true) where
    pub well_typed : WellTyped rows
    well_typed = all_fine rows fine known each long (λ j r h. stands_right rows fine known sets each scoped long all small r (kept j r h))

-- the same where what is known is read through a slice
pub record Found (rows : List Row) (known sets : List ℕ) : Type 0 where
  pub typed : TypedBy rows known
  pub long : length known ≡ length (section_rows Terms rows)
  pub scoped : ScopedBy rows sets
  pub all : length sets ≡ length (section_rows Terms rows)
  pub small : Words sets

-- each set of variables fits a word
words : (known : List TermFacts) → Words (free_sets known)
words [] t set e = cc
words (facts ∷ known) zero set e = subst (λ n. n < 2 ^ 64) (same_Some _ _ e) facts.free.word
words (facts ∷ known) (suc t) set e = words known t set e

pub found_through : (rows : List Row) (known seen : List TermFacts) → seen ≡ known → TypedBy rows (type_numbers known) × ScopedBy rows (free_sets known) × (length known ≡ length (section_rows Terms rows)) → Found rows (type_numbers seen) (free_sets seen)
found_through rows known seen same found =
    subst (λ facts. Found rows (type_numbers facts) (free_sets facts)) (sym same) (record { typed = found.0; long = length-map known _ ∙ found.2; scoped = found.1; all = length-map known _ ∙ found.2; small = words known })

module _ (rows : List Row) (fine : Faultless rows) (known sets : List ℕ) (h : Found rows known sets) where
  pub refused_by : (i : ℕ) → position (λ row. not (stands rows known sets row)) rows ≡ Some i → (told : MountFault) → told ≡ Refused (record { place = i + 1; fault = Typing Definition }) → Mounts rows (Err told)
  refused_by i found told e =
      let b = first_fails (stands rows known sets) rows i found in
      definition_refused rows fine known sets h.typed h.long h.scoped h.all h.small i b.0 b.1.0 b.1.1 b.1.2 told e

  pub granted_rows : ((j : ℕ) (row : Row) → slice_get rows j ≡ Some row → stands rows known sets row ≡ true) → WellTyped rows
  granted_rows kept = well_typed rows fine known sets h.typed h.long h.scoped h.all h.small kept

  module _ (none : position (λ row. not (stands rows known sets row)) rows ≡ None) where
    pub granted_all : WellTyped rows
    granted_all = granted_rows (all_pass (stands rows known sets) rows none)

    pub granted_definitions : SoundDefinitions rows
    granted_definitions = sound_definitions rows granted_all known h.typed h.long
