-- What the fields of a line tell of the line, for any thing that a line may name. Assumes nothing.
use Rattle.std.proofs.Common.{◌≡◌, ℕ, Bool, true, cond, List, [], ◌∷◌, ◌++◌, map, length, Some, None, Option, sym, refl, ap, ◌∙◌, subst, arith}
use Rattle.std.specs.List.{AllByRecursion}
use Rattle.std.specs.Str.{bytes_eq}
use Rattle.std.proofs.lemmas.Slice.Eq.{bytes_eq-Decides}
use Rattle.std.proofs.lemmas.List.{same_from_push}
use Rattle.faults.specs.declared.TextFault.{TextFault}
use Rattle.faults.specs.declared.TextFault.TheVariants.{Form, Number, Order, Reference, Limit, Repeat}
use Rattle.text.specs.Slots.{Slot, literal, number, word, written, InRange, Lacks, Free, Fits, commas}
use Rattle.text.specs.Reading.{cut}
use Rattle.text.proofs.Laws.{cut_free, commas_cut}
use Rattle.text.proofs.Forms.{word_first, words_free, fits_free, written_fits, commas_lack, cut_fields}
use Rattle.heads.specs.Fields.{after_word}
use Rattle.heads.specs.Heads.{FieldsFormed}
use Rattle.heads.specs.Lines.{HasTextFault}
use Rattle.text.specs.Lines.{Spells, Formed}

-- a number stands in the slot
abbrev pub Blank : Slot → Type 0
Blank (literal w) = ⊥
Blank (number n) = Unit {0}
Blank (word z) = Unit {0}

-- as many free fields as slots of numbers fit them
pub free_fits : (ss : List Slot) (gs : List (List ℕ)) → AllByRecursion Blank ss → AllByRecursion Free gs → length gs ≡ length ss → Fits ss gs
free_fits [] [] blank free e = tt
free_fits [] (g ∷ gs) blank free e = omega arith
free_fits (s ∷ ss) [] blank free e = omega arith
free_fits (literal w ∷ ss) (g ∷ gs) blank free e = absurd blank.0
free_fits (number n ∷ ss) (g ∷ gs) blank free e = (free.0, free_fits ss gs blank.1 free.1 (omega arith))
free_fits (word z ∷ ss) (g ∷ gs) blank free e = (free.0, free_fits ss gs blank.1 free.1 (omega arith))

-- the fields after a first word
taken_says : {Y : Type 0} (t : Bool) (x y : Y) → cond t (Some x) None ≡ Some y → (t ≡ true) × (x ≡ y)
taken_says t x y e = grind arith

pub after_found : (w : List ℕ) (gs hs : List (List ℕ)) → after_word w gs ≡ Some hs → gs ≡ w ∷ hs
after_found w [] hs e = cc
after_found w (g ∷ gs) hs e =
    let p = taken_says (bytes_eq w g) gs hs e in
    let same = (bytes_eq-Decides w g).0 p.0 in
    cc

-- a test of forms and a reading of fields that go with the slots of what a line may name
pub record Reading {X : Type 0} (slots : X → List Slot) (formed : List (List ℕ) → Bool) (read : List (List ℕ) → Option X) : Type 0 where
  -- the slots begin with a word, and their words are free
  pub first_word : List ℕ
  pub others : X → List Slot
  pub begins : (x : X) → slots x ≡ literal first_word ∷ others x
  pub free : (x : X) → words_free (slots x) ≡ true
  -- fields that fit have the form, and free fields of that form fit
  pub fits : (x : X) (gs : List (List ℕ)) → Fits (slots x) gs → formed gs ≡ true
  pub form : (gs : List (List ℕ)) → AllByRecursion Free gs → formed gs ≡ true → (x : X) × Fits (slots x) gs
  -- what is printed is read back, and what is read was printed
  pub printed_read : (x : X) → AllByRecursion InRange (slots x) → read (map written (slots x)) ≡ Some x
  pub read_printed : (gs : List (List ℕ)) (x : X) → read gs ≡ Some x → AllByRecursion InRange (slots x) × (map written (slots x) ≡ gs)

module _ {X : Type 0} (slots : X → List Slot) (formed : List (List ℕ) → Bool) (read : List (List ℕ) → Option X) (laws : Reading slots formed read) (body : List ℕ) where
  abbrev line : List ℕ
  line = body ++ (10 ∷ [])

  -- the fields that a formed line was made of
  fields_back : (x : X) (gs : List (List ℕ)) → Fits (slots x) gs → line ≡ commas gs ++ (10 ∷ []) → (cut body ≡ gs) × Lacks 10 body
  fields_back x gs h same =
      let free = fits_free (slots x) gs (laws.free x) h in
      let first = word_first laws.first_word (laws.others x) gs (subst (λ ss. Fits ss gs) (laws.begins x) h) in
      let some : gs ≡ [] → ⊥ = λ e. let z : ◌≡◌ {A = List (List ℕ)} [] (laws.first_word ∷ first.0) = sym e ∙ first.1 in cc in
      let whole = (same_from_push body (commas gs) 10 10 same).0 in
      (ap cut whole ∙ cut_fields gs free some, subst (Lacks 10) (sym whole) (commas_lack gs free))

  -- a line has a form just where its fields have one and no line feed stands in it
  pub formed_line : FieldsFormed formed body → Formed slots line
  formed_line h =
      let p = laws.form (cut body) (cut_free body h.0) h.1 in
      (p.0, cut body, p.1, ap (λ b. b ++ (10 ∷ [])) (sym (commas_cut body)))

  pub formed_fields : Formed slots line → FieldsFormed formed body
  formed_fields h =
      let back = fields_back h.0 h.1 h.2 h.3 in
      (back.1, ap formed back.0 ∙ laws.fits h.0 h.1 h.2)

  -- a line spells just what its fields are read as
  pub spells_read : (x : X) → read (cut body) ≡ Some x → Spells slots line x
  spells_read x e =
      let p = laws.read_printed (cut body) x e in
      record { in_range = p.0; printing = ap (λ b. b ++ (10 ∷ [])) (sym (ap commas p.1 ∙ commas_cut body)) }

  pub read_spells : (x : X) → Spells slots line x → read (cut body) ≡ Some x
  read_spells x h =
      let back = fields_back x (map written (slots x)) (written_fits (slots x) h.in_range) h.printing in
      ap read back.0 ∙ laws.printed_read x h.in_range

  -- what a line spells has a form
  pub spells_formed : (x : X) → Spells slots line x → Formed slots line
  spells_formed x h = (x, map written (slots x), written_fits (slots x) h.in_range, h.printing)

  -- a line spells one thing at most
  pub spells_once : (x y : X) → Spells slots line x → Spells slots line y → x ≡ y
  spells_once x y h k = let e : ◌≡◌ {A = Option X} (Some x) (Some y) = sym (read_spells x h) ∙ read_spells y k in cc

  -- no fault of the text holds of a line that spells something
  pub text_faultless : (x : X) → Spells slots line x → (fault : TextFault) → HasTextFault slots line fault → ⊥
  text_faultless x h Form k = k (spells_formed x h)
  text_faultless x h Number k = k x h
  text_faultless x h Order k = k
  text_faultless x h Reference k = k
  text_faultless x h Limit k = k
  text_faultless x h Repeat k = k

  -- nothing is spelled where nothing is read
  pub spells_none : read (cut body) ≡ None → (x : X) → Spells slots line x → ⊥
  spells_none e x h = let read = read_spells x h in cc

-- values that are made of the same data under facts that have one proof at most are the same
pub same_made : {V Y : Type 0} (P : V → Type 0) → ((v : V) → IsProp (P v)) → (make : (v : V) → P v → Y) (v w : V) (p : P v) (q : P w) → v ≡ w → make v p ≡ make w q
same_made P prop make v w p q e = subst (λ u. (r : P u) → make v p ≡ make u r) e (λ r. ap (make v) (prop v p r)) q

-- a line feed that stands between bytes is not lacked
after_feed : (before after : List ℕ) → Lacks 10 (before ++ (10 ∷ after)) → ⊥
after_feed [] after h = h.0 refl
after_feed (b ∷ before) after h = after_feed before after h.1

pub has_feed : (bytes before after : List ℕ) → bytes ≡ before ++ (10 ∷ after) → Lacks 10 bytes → ⊥
has_feed bytes before after e h = after_feed before after (subst (Lacks 10) e h)
