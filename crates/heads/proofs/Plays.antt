-- What the fields of a second line tell of the line, and the one answer to it. Assumes nothing.
use Rattle.std.proofs.Common.{◌≡◌, ℕ, true, List, [], ◌∷◌, ◌++◌, map, length, Some, None, Ok, Err, Option, Result, sym, refl, ap, ◌∙◌, subst, inl, inr, ◌⊎◌, eq-eqb, true-eqb}
use denote.Struct.Props.{props}
use Rattle.std.specs.List.{AllByRecursion}
use Rattle.faults.specs.declared.TextFault.{TextFault}
use Rattle.faults.specs.declared.PlayFault.{PlayFault}
use Rattle.faults.specs.declared.PlayFault.TheVariants.{Text, Typing, Bounds as BoundsFault, Settings}
use Rattle.bounds.specs.declared.limits.Bounds.{Bounds}
use Rattle.bounds.specs.Limits.{DepthLimit, InsistenceLimit, StepsLimit}
use Rattle.bounds.specs.Made.{BoundsMade}
use Rattle.text.specs.Slots.{number, written, InRange, Free, Fits}
use Rattle.text.specs.Reading.{three_numbers}
use Rattle.text.proofs.Laws.{three_written, three_exact}
use Rattle.heads.specs.declared.settings.PlayNumbers.{PlayNumbers}
use Rattle.heads.specs.Words.{play_word}
use Rattle.heads.specs.Fields.{after_word, play_of, play_after, play_in, play_formed_after, play_formed}
use Rattle.heads.specs.Lines.{SpellsOutside, Only}
use Rattle.heads.specs.Plays.{play_slots, NumbersWithinLimits, numbers_of, PlayLineFault, PlayAnswer}
use Rattle.heads.proofs.Lines.{Reading, free_fits, after_found, same_made}
use Rattle.text.proofs.Forms.{fits_length, word_first}
use Rattle.heads.specs.Heads.{ByFields}
use Rattle.heads.proofs.Heads.{Faults, MadeWithin, fields_allowed, only_allowed}

-- the fields of numbers spell them
play_written : (n : PlayNumbers) → AllByRecursion InRange (play_slots n) → play_in (map written (play_slots n)) ≡ Some n
play_written n h = ap play_of (three_written n.depth n.insistence n.steps h.1.0 h.1.1.0 h.1.1.1.0)

-- slots whose numbers are in range, and that the fields are written by
abbrev WrittenBy : PlayNumbers → List (List ℕ) → Type 0
WrittenBy n gs = AllByRecursion InRange (play_slots n) × (map written (play_slots n) ≡ gs)

-- the numbers that fields spell are written by them
play_exact : (gs : List (List ℕ)) (n : PlayNumbers) → play_in gs ≡ Some n → WrittenBy n gs
play_exact gs n e = after (after_word play_word gs) refl e
  where
    three : (fs : List (List ℕ)) (o : Option (ℕ × ℕ × ℕ)) → three_numbers fs ≡ o → play_of o ≡ Some n → WrittenBy n (play_word ∷ fs)
    three fs None are h = cc
    three fs (Some p) are h =
        let x = three_exact fs p.0 p.1 p.2 are in
        let same : record { depth = p.0; insistence = p.1; steps = p.2 } ≡ n = cc in
        subst (λ m. WrittenBy m (play_word ∷ fs)) same ((tt, (x.1, (x.2, (x.3, tt)))), ap (λ hs. play_word ∷ hs) (sym x.0))

    after : (o : Option (List (List ℕ))) → after_word play_word gs ≡ o → play_after o ≡ Some n → WrittenBy n gs
    after None is h = cc
    after (Some fs) is h = subst (WrittenBy n) (sym (after_found play_word gs fs is)) (three fs (three_numbers fs) refl h)

-- fields that fit the slots of numbers have the form of a second line
play_fit : (n : PlayNumbers) (gs : List (List ℕ)) → Fits (play_slots n) gs → play_formed gs ≡ true
play_fit n gs h =
    let numbers = number n.depth ∷ number n.insistence ∷ number n.steps ∷ [] in
    let p = word_first play_word numbers gs h in
    ap play_formed p.1 ∙ eq-eqb (length p.0) 3 (fits_length numbers p.0 p.2)

play_form : (gs : List (List ℕ)) → AllByRecursion Free gs → play_formed gs ≡ true → (n : PlayNumbers) × Fits (play_slots n) gs
play_form gs free e = after (after_word play_word gs) refl e
  where
    after : (o : Option (List (List ℕ))) → after_word play_word gs ≡ o → play_formed_after o ≡ true → (n : PlayNumbers) × Fits (play_slots n) gs
    after None is h = cc
    after (Some fs) is h =
        let whole = after_found play_word gs fs is in
        let here : AllByRecursion Free (play_word ∷ fs) = subst (AllByRecursion Free) whole free in
        let fit = free_fits (number 0 ∷ number 0 ∷ number 0 ∷ []) fs (tt, (tt, (tt, tt))) here.1 (true-eqb (length fs) 3 (sym h)) in
        (record { depth = 0; insistence = 0; steps = 0 }, subst (Fits (play_slots (record { depth = 0; insistence = 0; steps = 0 }))) (sym whole) (refl, fit))

pub play_reading : Reading play_slots play_formed play_in
play_reading = record {
  first_word = play_word;
  others = λ n. number n.depth ∷ number n.insistence ∷ number n.steps ∷ [];
  begins = λ n. refl;
  free = λ n. refl;
  fits = play_fit;
  form = play_form;
  printed_read = play_written;
  read_printed = play_exact;
}

-- two bounds of the same numbers are the same
same_bounds : (a b : Bounds) → numbers_of a ≡ numbers_of b → a ≡ b
same_bounds a b e =
    same_made (λ (n : PlayNumbers). DepthLimit n.depth × InsistenceLimit n.insistence × StepsLimit n.steps) (λ n. hlevel props)
    (λ n h. record { depth = n.depth; insistence = n.insistence; steps = n.steps; depth_limit = h.0; insistence_limit = h.1; steps_limit = h.2 })
    (numbers_of a) (numbers_of b) (a.depth_limit, a.insistence_limit, a.steps_limit) (b.depth_limit, b.insistence_limit, b.steps_limit) e

play_faults : Faults play_slots NumbersWithinLimits BoundsFault PlayLineFault
play_faults = record { of_text = λ line fault h. h; text_of = λ line fault h. h; of_outside = λ line h. h; kinds = kinds }
  where
    kinds : (line : List ℕ) (fault : PlayFault) → PlayLineFault line fault → ((f : TextFault) × (fault ≡ Text f)) ⊎ ((fault ≡ BoundsFault) × SpellsOutside play_slots NumbersWithinLimits line)
    kinds line (Text fault) h = inl (fault, refl)
    kinds line (Typing fault) h = absurd h
    kinds line BoundsFault h = inr (refl, h)
    kinds line Settings h = absurd h

-- what is made of the numbers of a second line
abbrev pub PlayMade : PlayNumbers → Result Bounds PlayFault → Type 0
PlayMade numbers r = BoundsMade numbers.depth numbers.insistence numbers.steps r

-- every allowed answer is this one
pub only_play : (body : List ℕ) (r : Result Bounds PlayFault) → PlayAnswer (body ++ (10 ∷ [])) r → Only (PlayAnswer (body ++ (10 ∷ []))) r
only_play = only_allowed play_reading play_faults numbers_of same_bounds

-- the answer by the fields of a second line is allowed
pub play_allowed : (body : List ℕ) (r : Result Bounds PlayFault) → ByFields play_formed play_in PlayMade body r → PlayAnswer (body ++ (10 ∷ [])) r
play_allowed = fields_allowed play_reading play_faults numbers_of same_bounds PlayMade makes
  where
    makes : (n : PlayNumbers) (r : Result Bounds PlayFault) → PlayMade n r → MadeWithin NumbersWithinLimits BoundsFault numbers_of n r
    makes n (Ok bounds) h = (h.0, λ i. record { depth = h.1.same_depth i; insistence = h.1.same_insistence i; steps = h.1.same_steps i })
    makes n (Err fault) h = h
