-- Fields that fit slots, and the lines that slots are printed as. Assumes nothing.
use Rattle.std.proofs.Common.{◌≡◌, ℕ, suc, Bool, true, false, not, ◌&&◌, eqb, List, [], ◌∷◌, map, length, sym, refl, ap, subst, arith, eq-eqb}
use Rattle.std.specs.List.{AllByRecursion}
use Rattle.std.proofs.ByRecursion.{All-append}
use Rattle.std.proofs.lemmas.Bool.{and_parts, both_ways}
use Rattle.text.specs.Slots.{Slot, literal, number, word, written, InRange, Lacks, Free, Fits, commas}
use Rattle.text.specs.Reading.{cut}
use Rattle.text.proofs.Laws.{written_free, cut_commas}

-- as many fields as slots
pub fits_length : (ss : List Slot) (fs : List (List ℕ)) → Fits ss fs → length fs ≡ length ss
fits_length [] [] h = refl
fits_length [] (f ∷ fs) h = absurd h
fits_length (s ∷ ss) [] h = absurd h
fits_length (s ∷ ss) (f ∷ fs) h = ap suc (fits_length ss fs h.1)

-- the first field of slots that begin with a word, and the fields after it
pub word_first : (w : List ℕ) (ss : List Slot) (gs : List (List ℕ)) → Fits (literal w ∷ ss) gs → (hs : List (List ℕ)) × (gs ≡ w ∷ hs) × Fits ss hs
word_first w ss [] h = absurd h
word_first w ss (g ∷ gs) h = (gs, ap (λ v. v ∷ gs) h.0, h.1)

-- whether the bytes are free of commas and line feeds
abbrev free_test : List ℕ → Bool
free_test [] = true
free_test (b ∷ bs) = not (eqb b 44) && (not (eqb b 10) && free_test bs)

not_equal : (a b : ℕ) → not (eqb a b) ≡ true → a ≡ b → ⊥
not_equal a b e same = let z : not (eqb a b) ≡ false = rw (eq-eqb a b same) in both_ways _ z e

pub free_by_test : (bs : List ℕ) → free_test bs ≡ true → Free bs
free_by_test [] e = (tt, tt)
free_by_test (b ∷ bs) e =
    let p = and_parts (not (eqb b 44)) (not (eqb b 10) && free_test bs) e in
    let q = and_parts (not (eqb b 10)) (free_test bs) p.1 in
    let r = free_by_test bs q.1 in
    ((not_equal b 44 p.0, r.0), (not_equal b 10 q.0, r.1))

-- whether the words among the slots are free
abbrev pub words_free : List Slot → Bool
words_free [] = true
words_free (literal w ∷ ss) = free_test w && words_free ss
words_free (number n ∷ ss) = words_free ss
words_free (word z ∷ ss) = words_free ss

pub fits_free : (ss : List Slot) (fs : List (List ℕ)) → words_free ss ≡ true → Fits ss fs → AllByRecursion Free fs
fits_free [] [] e h = tt
fits_free [] (f ∷ fs) e h = absurd h
fits_free (s ∷ ss) [] e h = absurd h
fits_free (literal w ∷ ss) (f ∷ fs) e h =
    let p = and_parts (free_test w) (words_free ss) e in
    (subst Free (sym h.0) (free_by_test w p.0), fits_free ss fs p.1 h.1)
fits_free (number n ∷ ss) (f ∷ fs) e h = (h.0, fits_free ss fs e h.1)
fits_free (word z ∷ ss) (f ∷ fs) e h = (h.0, fits_free ss fs e h.1)

-- slots whose words are free and whose numbers are in range are written freely
pub written_all_free : (ss : List Slot) → words_free ss ≡ true → AllByRecursion InRange ss → AllByRecursion Free (map written ss)
written_all_free [] e h = tt
written_all_free (literal w ∷ ss) e h = let p = and_parts (free_test w) (words_free ss) e in (free_by_test w p.0, written_all_free ss p.1 h.1)
written_all_free (number n ∷ ss) e h = (written_free (number n) h.0 (λ bs same. cc), written_all_free ss e h.1)
written_all_free (word z ∷ ss) e h = (written_free (word z) h.0 (λ bs same. cc), written_all_free ss e h.1)

-- the printing of slots whose numbers are in range fits them
pub written_fits : (ss : List Slot) → AllByRecursion InRange ss → Fits ss (map written ss)
written_fits [] h = tt
written_fits (literal w ∷ ss) h = (refl, written_fits ss h.1)
written_fits (number n ∷ ss) h = (written_free (number n) h.0 (λ bs same. cc), written_fits ss h.1)
written_fits (word z ∷ ss) h = (written_free (word z) h.0 (λ bs same. cc), written_fits ss h.1)

-- free fields that are parted by commas have no line feed
pub commas_lack : (fs : List (List ℕ)) → AllByRecursion Free fs → Lacks 10 (commas fs)
commas_lack [] h = tt
commas_lack (f ∷ []) h = h.0.1
commas_lack (f ∷ g ∷ fs) h =
    All-append (λ b. b ≡ 10 → ⊥) f (44 ∷ commas (g ∷ fs)) h.0.1 ((λ e. omega arith), commas_lack (g ∷ fs) h.1)

pub cut_fields : (fs : List (List ℕ)) → AllByRecursion Free fs → (fs ≡ [] → ⊥) → cut (commas fs) ≡ fs
cut_fields [] free some = absurd (some refl)
cut_fields (f ∷ fs) free some = cut_commas f fs free
