-- What the fields of a first line tell of the line, and the one answer to it. Assumes nothing.
use Rattle.std.proofs.Common.{◌≡◌, ℕ, ◌≤◌, true, List, [], ◌∷◌, ◌++◌, map, length, ℤ, pos, decimal, Some, None, Ok, Err, Option, Result, sym, refl, ap, ◌∙◌, subst, arith, inl, inr, ◌⊎◌, w32, SFits, eq-eqb, true-eqb}
use denote.Struct.Props.{props}
use Rattle.std.specs.Fmt.{signed_decimal}
use Rattle.std.specs.List.{AllByRecursion}
use Rattle.faults.specs.declared.TextFault.{TextFault}
use Rattle.faults.specs.declared.PlayFault.{PlayFault}
use Rattle.faults.specs.declared.PlayFault.TheVariants.{Text, Typing, Bounds, Settings as SettingsFault}
use Rattle.arithmetic.specs.declared.range.HostRange.{HostRange}
use Rattle.arithmetic.specs.declared.kinds.Word.{Word as WordArithmetic}
use Rattle.arithmetic.specs.declared.kinds.Counter.{Counter as CounterArithmetic}
use Rattle.arithmetic.specs.Settings.{host_range, word_settings, counter_settings}
use Rattle.text.specs.Slots.{Slot, literal, number, word, written, InRange, Free, Fits}
use Rattle.text.specs.Reading.{keyword_of, number_of, word_of, all_three}
use Rattle.text.proofs.Laws.{both_says, number_written, number_exact, word_written, word_exact, keyword_found}
use Rattle.heads.specs.declared.keywords.KindWord.{KindWord}
use Rattle.heads.specs.declared.keywords.KindWord.TheVariants.{Word as WordKind, Counter as CounterKind}
use Rattle.heads.specs.declared.settings.Kind.{Kind}
use Rattle.heads.specs.declared.settings.Kind.TheVariants.{Word, Counter}
use Rattle.heads.specs.declared.settings.Settings.{Settings}
use Rattle.heads.specs.declared.settings.Settings.TheVariants.{Word as WordNumbers, Counter as CounterNumbers}
use Rattle.heads.specs.Words.{arithmetic_word, kind_word, kind_table}
use Rattle.heads.specs.Fields.{after_word, two_words, number_and_two_words, word_of_range, counter_of_range, settings_by, settings_after, settings_in, settings_formed_by, settings_formed_after, settings_formed}
use Rattle.heads.specs.Lines.{SpellsOutside, Only}
use Rattle.heads.specs.Arithmetics.{settings_slots, SettingsWithinLimits, settings_of, Made, ArithmeticLineFault, ArithmeticAnswer}
use Rattle.heads.proofs.Lines.{Reading, free_fits, after_found, same_made}
use Rattle.text.proofs.Forms.{words_free, fits_length, word_first}
use Rattle.heads.specs.Heads.{ByFields}
use Rattle.heads.proofs.Heads.{Faults, MadeWithin, fields_allowed, only_allowed}

-- the fields of settings spell them
settings_written : (s : Settings) → AllByRecursion InRange (settings_slots s) → settings_in (map written (settings_slots s)) ≡ Some s
settings_written (WordNumbers lo hi) h = rw (word_written lo h.1.1.0, word_written hi h.1.1.1.0)
settings_written (CounterNumbers top lo hi) h = rw (number_written top h.1.1.0, word_written lo h.1.1.1.0, word_written hi h.1.1.1.1.0)

-- values that are all read are each read
all_say : {A B C : Type 0} (x : Option A) (y : Option B) (z : Option C) (p : A × B × C) → all_three x y z ≡ Some p → (x ≡ Some p.0) × (y ≡ Some p.1) × (z ≡ Some p.2)
all_say x y z p e = grind arith

-- the two words that are read have 32 bits, and are written by the two fields
words_exact : (fs : List (List ℕ)) (p : ℤ × ℤ) → two_words fs ≡ Some p → (fs ≡ signed_decimal p.0 ∷ signed_decimal p.1 ∷ []) × SFits w32 p.0 × SFits w32 p.1
words_exact [] p e = cc
words_exact (f ∷ []) p e = cc
words_exact (f ∷ g ∷ []) p e =
    let q = both_says (word_of f) (word_of g) p.0 p.1 e in
    let x = word_exact f p.0 q.0 in
    let y = word_exact g p.1 q.1 in
    (rw (x.1, y.1) refl, x.0, y.0)
words_exact (f ∷ g ∷ h ∷ fs) p e = cc

-- a number before them is in its range, and is written by the field before theirs
number_words_exact : (fs : List (List ℕ)) (p : ℕ × ℤ × ℤ) → number_and_two_words fs ≡ Some p → (fs ≡ decimal p.0 ∷ signed_decimal p.1 ∷ signed_decimal p.2 ∷ []) × (p.0 ≤ 65535) × SFits w32 p.1 × SFits w32 p.2
number_words_exact [] p e = cc
number_words_exact (f ∷ []) p e = cc
number_words_exact (f ∷ g ∷ []) p e = cc
number_words_exact (f ∷ g ∷ h ∷ []) p e =
    let q = all_say (number_of f) (word_of g) (word_of h) p e in
    let x = number_exact f p.0 q.0 in
    let y = word_exact g p.1 q.1 in
    let z = word_exact h p.2 q.2 in
    (rw (x.1, y.1, z.1) refl, x.0, y.0, z.0)
number_words_exact (f ∷ g ∷ h ∷ i ∷ fs) p e = cc

-- slots whose numbers are in range, and that the fields are written by
abbrev WrittenBy : Settings → List (List ℕ) → Type 0
WrittenBy s gs = AllByRecursion InRange (settings_slots s) × (map written (settings_slots s) ≡ gs)

kind_exact : (k : KindWord) (fs : List (List ℕ)) (s : Settings) → settings_by (Some k) fs ≡ Some s → WrittenBy s (arithmetic_word ∷ kind_word k ∷ fs)
kind_exact WordKind fs s e = read (two_words fs) refl e
  where
    read : (o : Option (ℤ × ℤ)) → two_words fs ≡ o → word_of_range o ≡ Some s → WrittenBy s (arithmetic_word ∷ kind_word WordKind ∷ fs)
    read None is h = cc
    read (Some p) is h =
        let x = words_exact fs p is in
        let same : WordNumbers p.0 p.1 ≡ s = cc in
        subst (λ t. WrittenBy t (arithmetic_word ∷ kind_word WordKind ∷ fs)) same
        ((tt, (tt, (x.1, (x.2, tt)))), ap (λ hs. arithmetic_word ∷ kind_word WordKind ∷ hs) (sym x.0))
kind_exact CounterKind fs s e = read (number_and_two_words fs) refl e
  where
    read : (o : Option (ℕ × ℤ × ℤ)) → number_and_two_words fs ≡ o → counter_of_range o ≡ Some s → WrittenBy s (arithmetic_word ∷ kind_word CounterKind ∷ fs)
    read None is h = cc
    read (Some p) is h =
        let x = number_words_exact fs p is in
        let same : CounterNumbers p.0 p.1 p.2 ≡ s = cc in
        subst (λ t. WrittenBy t (arithmetic_word ∷ kind_word CounterKind ∷ fs)) same
        ((tt, (tt, (x.1, (x.2, (x.3, tt))))), ap (λ hs. arithmetic_word ∷ kind_word CounterKind ∷ hs) (sym x.0))

-- the settings that fields spell are written by them
settings_exact : (gs : List (List ℕ)) (s : Settings) → settings_in gs ≡ Some s → WrittenBy s gs
settings_exact gs s e = after (after_word arithmetic_word gs) refl e
  where
    named : (f : List ℕ) (fs : List (List ℕ)) (k : Option KindWord) → keyword_of kind_word kind_table f ≡ k → settings_by k fs ≡ Some s → WrittenBy s (arithmetic_word ∷ f ∷ fs)
    named f fs None found h = cc
    named f fs (Some k) found h = subst (λ v. WrittenBy s (arithmetic_word ∷ v ∷ fs)) (keyword_found kind_word kind_table f k found) (kind_exact k fs s h)

    after : (o : Option (List (List ℕ))) → after_word arithmetic_word gs ≡ o → settings_after o ≡ Some s → WrittenBy s gs
    after None is h = cc
    after (Some []) is h = cc
    after (Some (f ∷ fs)) is h =
        subst (WrittenBy s) (sym (after_found arithmetic_word gs (f ∷ fs) is)) (named f fs (keyword_of kind_word kind_table f) refl h)

-- fields that fit the slots of settings have the form of a first line
two_first : (w v : List ℕ) (ss : List Slot) (gs : List (List ℕ)) → Fits (literal w ∷ literal v ∷ ss) gs → (hs : List (List ℕ)) × (gs ≡ w ∷ v ∷ hs) × (length hs ≡ length ss)
two_first w v ss gs h =
    let p = word_first w (literal v ∷ ss) gs h in
    let q = word_first v ss p.0 p.2 in
    (q.0, p.1 ∙ ap (λ hs. w ∷ hs) q.1, fits_length ss q.0 q.2)

settings_fit : (s : Settings) (gs : List (List ℕ)) → Fits (settings_slots s) gs → settings_formed gs ≡ true
settings_fit (WordNumbers lo hi) gs h =
    let p = two_first arithmetic_word (kind_word WordKind) (word lo ∷ word hi ∷ []) gs h in
    ap settings_formed p.1 ∙ eq-eqb (length p.0) 2 p.2
settings_fit (CounterNumbers top lo hi) gs h =
    let p = two_first arithmetic_word (kind_word CounterKind) (number top ∷ word lo ∷ word hi ∷ []) gs h in
    ap settings_formed p.1 ∙ eq-eqb (length p.0) 3 p.2

kind_form : (k : KindWord) (fs : List (List ℕ)) → AllByRecursion Free fs → settings_formed_by (Some k) fs ≡ true → (s : Settings) × Fits (settings_slots s) (arithmetic_word ∷ kind_word k ∷ fs)
kind_form WordKind fs free e =
    (WordNumbers (pos 0) (pos 0), (refl, (refl, free_fits (word (pos 0) ∷ word (pos 0) ∷ []) fs (tt, (tt, tt)) free (true-eqb (length fs) 2 (sym e)))))
kind_form CounterKind fs free e =
    (CounterNumbers 0 (pos 0) (pos 0), (refl, (refl, free_fits (number 0 ∷ word (pos 0) ∷ word (pos 0) ∷ []) fs (tt, (tt, (tt, tt))) free (true-eqb (length fs) 3 (sym e)))))

settings_form : (gs : List (List ℕ)) → AllByRecursion Free gs → settings_formed gs ≡ true → (s : Settings) × Fits (settings_slots s) gs
settings_form gs free e = after (after_word arithmetic_word gs) refl e
  where
    named : (f : List ℕ) (fs : List (List ℕ)) → AllByRecursion Free fs → (k : Option KindWord) → keyword_of kind_word kind_table f ≡ k → settings_formed_by k fs ≡ true → (s : Settings) × Fits (settings_slots s) (arithmetic_word ∷ f ∷ fs)
    named f fs here None found h = cc
    named f fs here (Some k) found h =
        subst (λ v. (s : Settings) × Fits (settings_slots s) (arithmetic_word ∷ v ∷ fs)) (keyword_found kind_word kind_table f k found) (kind_form k fs here h)

    after : (o : Option (List (List ℕ))) → after_word arithmetic_word gs ≡ o → settings_formed_after o ≡ true → (s : Settings) × Fits (settings_slots s) gs
    after None is h = cc
    after (Some []) is h = cc
    after (Some (f ∷ fs)) is h =
        let whole = after_found arithmetic_word gs (f ∷ fs) is in
        let here : AllByRecursion Free (arithmetic_word ∷ f ∷ fs) = subst (AllByRecursion Free) whole free in
        subst (λ hs. (s : Settings) × Fits (settings_slots s) hs) (sym whole) (named f fs here.1.1 (keyword_of kind_word kind_table f) refl h)

abbrev after_first : Settings → List Slot
after_first (WordNumbers lo hi) = literal (kind_word WordKind) ∷ word lo ∷ word hi ∷ []
after_first (CounterNumbers top lo hi) = literal (kind_word CounterKind) ∷ number top ∷ word lo ∷ word hi ∷ []

begins_so : (s : Settings) → settings_slots s ≡ literal arithmetic_word ∷ after_first s
begins_so (WordNumbers lo hi) = refl
begins_so (CounterNumbers top lo hi) = refl

pub settings_reading : Reading settings_slots settings_formed settings_in
settings_reading = record {
  first_word = arithmetic_word;
  others = after_first;
  begins = begins_so;
  free = λ s. elim s as (λ t. words_free (settings_slots t) ≡ true) [ WordNumbers lo hi ↦ refl | CounterNumbers top lo hi ↦ refl ];
  fits = settings_fit;
  form = settings_form;
  printed_read = settings_written;
  read_printed = settings_exact;
}

-- two arithmetics of the same settings are the same
same_range : (v w : HostRange) → v.lo ≡ w.lo → v.hi ≡ w.hi → v ≡ w
same_range v w lo hi =
    same_made (λ (r : ℤ × ℤ). host_range r.0 r.1) (λ r. hlevel props) (λ r h. record { lo = r.0; hi = r.1; limits = h })
    (v.lo, v.hi) (w.lo, w.hi) v.limits w.limits (cc)

same_word : (v w : WordArithmetic) → v.host ≡ w.host → v ≡ w
same_word v w host =
    same_made (λ (r : HostRange). word_settings r.lo r.hi) (λ r. hlevel props) (λ r h. record { host = r; limits = h })
    v.host w.host v.limits w.limits host

same_counter : (v w : CounterArithmetic) → v.top ≡ w.top → v.host ≡ w.host → v ≡ w
same_counter v w top host =
    same_made (λ (r : ℕ × HostRange). counter_settings r.0 r.1.lo r.1.hi) (λ r. hlevel props) (λ r h. record { top = r.0; host = r.1; limits = h })
    (v.top, v.host) (w.top, w.host) v.limits w.limits (cc)

same_kind : (a b : Kind) → settings_of a ≡ settings_of b → a ≡ b
same_kind (Word v) (Word w) e = ap Word (same_word v w (same_range v.host w.host (cc) (cc)))
same_kind (Word v) (Counter w) e = cc
same_kind (Counter v) (Word w) e = cc
same_kind (Counter v) (Counter w) e = ap Counter (same_counter v w (cc) (same_range v.host w.host (cc) (cc)))

settings_faults : Faults settings_slots SettingsWithinLimits SettingsFault ArithmeticLineFault
settings_faults = record { of_text = λ line fault h. h; text_of = λ line fault h. h; of_outside = λ line h. h; kinds = kinds }
  where
    kinds : (line : List ℕ) (fault : PlayFault) → ArithmeticLineFault line fault → ((f : TextFault) × (fault ≡ Text f)) ⊎ ((fault ≡ SettingsFault) × SpellsOutside settings_slots SettingsWithinLimits line)
    kinds line (Text fault) h = inl (fault, refl)
    kinds line (Typing fault) h = absurd h
    kinds line Bounds h = absurd h
    kinds line SettingsFault h = inr (refl, h)

-- every allowed answer is this one
pub only_arithmetic : (body : List ℕ) (r : Result Kind PlayFault) → ArithmeticAnswer (body ++ (10 ∷ [])) r → Only (ArithmeticAnswer (body ++ (10 ∷ []))) r
only_arithmetic = only_allowed settings_reading settings_faults settings_of same_kind

-- the answer by the fields of a first line is allowed
pub arithmetic_allowed : (body : List ℕ) (r : Result Kind PlayFault) → ByFields settings_formed settings_in Made body r → ArithmeticAnswer (body ++ (10 ∷ [])) r
arithmetic_allowed = fields_allowed settings_reading settings_faults settings_of same_kind Made makes
  where
    makes : (s : Settings) (r : Result Kind PlayFault) → Made s r → MadeWithin SettingsWithinLimits SettingsFault settings_of s r
    makes s (Ok kind) h = h
    makes s (Err fault) h = h
