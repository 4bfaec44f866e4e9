-- What the searches, the loop and the branches of the code come to, on lists alone.
use Rattle.std.proofs.Common.{◌≡◌, ℕ, zero, suc, ◌+◌, ◌-◌, ◌*◌, ◌^◌, ◌<◌, ◌≤◌, Bool, true, false, cond, eqb, List, [], ◌∷◌, ◌++◌, length, get_or, take, drop, ℤ, pos, negsuc, ◌-ℤ◌, Some, None, decimal, Option, sym, refl, ap, ◌∙◌, subst, ⊎_elim, arith, w32, w64, SFits, to_z, of_z, MatchOption}
use Rattle.std.specs.Str.Parse.{AllDigits, digits_value}
use Rattle.std.specs.Int.{IsInRange}
use Rattle.std.specs.Char.{digit_value}
use Rattle.std.specs.Fmt.{signed_decimal}
use Rattle.std.proofs.lemmas.Fmt.{decimal_nonempty, decimal_digit, decimal-digits_value, digits_decimal, first_decimal, length-decimal-le, decimal_injective}
use Rattle.std.proofs.lemmas.Int.Digits.{digits_more, digits_value_more}
use Rattle.std.proofs.lemmas.List.{drop_more, length-take, take_all, take-append-drop, take_rest}
use Rattle.std.proofs.lemmas.Str.Parse.{IsNumeralModel, digit_at, numerals_by_value, tells_digits, digits_value_short}
use Rattle.std.proofs.lemmas.Int.{ints, to_z_pos}
use Rattle.std.proofs.lemmas.Bool.{cases_eq, eqb-false, eqb-true}
use Rattle.std.proofs.lemmas.Iterator.Adapters.{position_from-zero}
use Rattle.std.proofs.lemmas.List.Quantifiers.{position-Some}
use Rattle.std.proofs.lemmas.List.Recursion.{is_count_by}
use Rattle.std.specs.List.{count_by, position, position_from}
use Rattle.text.specs.Reading.{in_front, cut, number_of, word_of}
use Rattle.text.specs.Slots.{Lacks}
use Rattle.text.proofs.Laws.{cut_some, number_is, word_is}

-- a list is what stands before a place, the byte there, and what stands after it
pub parts_at : (bs : List ℕ) (i b : ℕ) → i < length bs → get_or bs i 0 ≡ b → bs ≡ take (i - 0) bs ++ (b ∷ take (length bs - (i + 1)) (drop (i + 1) bs))
parts_at bs i b h e =
    let zero_less : i - 0 ≡ i = omega arith in
    rw (zero_less, take_rest bs (i + 1))
    (sym (take-append-drop i bs) ∙ ap (λ t. take i bs ++ t) (drop_more bs i 0 h ∙ ap (λ x. x ∷ drop (i + 1) bs) e))

-- the first place of a byte parts the bytes, and the byte stands nowhere before it
lacks_before : (b : ℕ) (bs : List ℕ) (i : ℕ) → ((k : ℕ) → k < i → eqb (get_or bs k 0) b ≡ false) → Lacks b (take i bs)
lacks_before b [] zero passed = tt
lacks_before b [] (suc i) passed = tt
lacks_before b (x ∷ bs) zero passed = tt
lacks_before b (x ∷ bs) (suc i) passed =
    (eqb-false x b (passed 0 (omega arith)), lacks_before b bs i (λ k l. passed (suc k) (omega arith)))

pub parted_at_first : (bs : List ℕ) (b i : ℕ) → position (λ x. eqb x b) bs ≡ Some i → (bs ≡ take (i - 0) bs ++ (b ∷ take (length bs - (i + 1)) (drop (i + 1) bs))) × Lacks b (take (i - 0) bs)
parted_at_first bs b i first =
    let at = position-Some (λ x. eqb x b) bs i 0 first in
    let zero_less : i - 0 ≡ i = omega arith in
    (parts_at bs i b at.0 (eqb-true _ _ at.1), rw zero_less (lacks_before b bs i at.2))

-- bytes in which a byte has no place lack it
pub lacks_unplaced : (bs : List ℕ) (b : ℕ) → position (λ x. eqb x b) bs ≡ None → Lacks b bs
lacks_unplaced bs b none = passed 0 bs (sym (position_from-zero (λ x. eqb x b) bs) ∙ none)
  where
    here : (x i : ℕ) (xs : List ℕ) (t : Bool) → eqb x b ≡ t → cond t (Some i) (position_from (λ y. eqb y b) (i + 1) xs) ≡ None → (x ≡ b → ⊥) × (position_from (λ y. eqb y b) (i + 1) xs ≡ None)
    here x i xs true is e = cc
    here x i xs false is e = (eqb-false x b is, e)

    passed : (i : ℕ) (xs : List ℕ) → position_from (λ y. eqb y b) i xs ≡ None → Lacks b xs
    passed i [] e = tt
    passed i (x ∷ xs) e = let h = here x i xs (eqb x b) refl e in (h.0, passed (i + 1) xs h.1)

-- one field more than there are commas
further_in_front : (t : Bool) (b : ℕ) (fs : List (List ℕ)) → 0 < length fs → length (in_front t b fs) - 1 ≡ cond t (1 + (length fs - 1)) (length fs - 1)
further_in_front true b fs some = omega arith
further_in_front false b [] some = absurd (omega arith)
further_in_front false b (f ∷ fs) some = refl

further_fields : (bs : List ℕ) → length (cut bs) - 1 ≡ count_by (λ b. eqb b 44) bs
unfolding cut
further_fields bs =
    is_count_by (λ xs. length (cut xs) - 1) (λ b. eqb b 44) refl (λ x xs. further_in_front (eqb x 44) x (cut xs) (cut_some xs)) bs

pub length_cut : (bs : List ℕ) → length (cut bs) ≡ count_by (λ b. eqb b 44) bs + 1
length_cut bs = omega (arith, cut_some bs, further_fields bs)

-- the words of the library for digits and what they write
numerals : IsNumeralModel (AllDigits 10) (digits_value 10)
numerals = numerals_by_value (AllDigits 10) tells_digits

-- what a decimal of at most ten digits looks like
pub record Shape (bs : List ℕ) : Type 0 where
  pub some : 0 < length bs
  pub few : length bs ≤ 10
  pub zero_alone : get_or bs 0 0 ≡ 48 → length bs ≡ 1
  pub digit : (i : ℕ) → i < length bs → IsInRange 48 57 (get_or bs i 0)

decimal_zero_alone : (n : ℕ) → n < 10 ^ 10 → get_or (decimal n) 0 0 ≡ 48 → length (decimal n) ≡ 1
decimal_zero_alone n h e =
    ⊎_elim (λ (z : n ≡ 0). ap length (ap decimal z ∙ decimal_digit 0 (omega arith)))
    (λ (s : n ≡ 0 → ⊥). let more : 48 < get_or (decimal n) 0 0 = first_decimal n (omega arith) (omega arith) in absurd (omega arith))
    (cases_eq n 0)

decimal_shape : (n : ℕ) → n < 10 ^ 10 → Shape (decimal n)
decimal_shape n h =
    let small : n < 2 ^ 64 = omega arith in
    record {
      some = decimal_nonempty n small;
      few = length-decimal-le 10 n (omega arith) h small;
      zero_alone = decimal_zero_alone n h;
      digit = λ i k. digit_at (decimal n) i (digits_decimal numerals n small) k;
    }

-- bytes of another look are the decimal of no such number
pub shape_of : (bs : List ℕ) (n : ℕ) → n < 10 ^ 10 → decimal n ≡ bs → Shape bs
shape_of bs n h e = subst Shape e (decimal_shape n h)

-- the step, the bounds and the end of the loop that reads digits
digit_is : (c : ℕ) → IsInRange 48 57 c → digit_value c ≡ c - 48
digit_is c h = grind arith

pub digits_step : (bs : List ℕ) (i v : ℕ) → i < length bs → IsInRange 48 57 (get_or bs i 0) → AllDigits 10 (take i bs) × (v ≡ digits_value 10 (take i bs)) → AllDigits 10 (take (i + 1) bs) × (v * 10 + (get_or bs i 0 - 48) ≡ digits_value 10 (take (i + 1) bs))
digits_step bs i v h d inv =
    let e = digit_is (get_or bs i 0) d in
    let low : digit_value (get_or bs i 0) < 10 = omega arith in
    let more = digits_value_more 10 bs i h in
    let same = ap (λ x. x * 10) inv.1 in
    (digits_more 10 bs i h inv.0 low, omega arith)

pub value_bound : (bs : List ℕ) (i v : ℕ) → length bs ≤ 10 → AllDigits 10 (take i bs) × (v ≡ digits_value 10 (take i bs)) → v < 10 ^ 10
value_bound bs i v h inv =
    let short : length (take i bs) ≤ 10 = omega (arith, length-take i bs) in
    let low = digits_value_short numerals (take i bs) 10 inv.0 short in
    omega (arith, inv.1)

pub digits_end : (bs : List ℕ) (i v : ℕ) → 0 < length bs → length bs ≤ 10 → (get_or bs 0 0 ≡ 48 → length bs ≡ 1) → length bs ≤ i → AllDigits 10 (take i bs) × (v ≡ digits_value 10 (take i bs)) → (v < 10 ^ 10) × (decimal v ≡ bs)
digits_end bs i v some few alone past inv =
    let P : List ℕ → Type 0 = λ t. AllDigits 10 t × (v ≡ digits_value 10 t) in
    let all = subst P (take_all i bs past) inv in
    let low = digits_value_short numerals bs 10 all.0 few in
    (omega (arith, all.1), ap decimal all.1 ∙ decimal-digits_value numerals bs all.0 some alone (omega arith))

-- a number has one decimal
pub same_number : (m n : ℕ) (bs : List ℕ) → m < 10 ^ 10 → n < 10 ^ 10 → decimal m ≡ bs → decimal n ≡ bs → m ≡ n
same_number m n bs h k p q = decimal_injective m n (omega arith) (omega arith) (p ∙ sym q)

-- a number is read from the bytes just where it is at most the limit and they are its decimal
abbrev pub ReadsUpTo : ℕ → List ℕ → Option ℕ → Type 0
ReadsUpTo limit bs r = MatchOption r ((n : ℕ) → n ≤ limit → decimal n ≡ bs → ⊥) (λ n. (n ≤ limit) × (decimal n ≡ bs))

pub number_at_limit : (limit : ℕ) (bs : List ℕ) (r : Option ℕ) → ReadsUpTo limit bs r → limit ≡ 65535 → r ≡ number_of bs
number_at_limit limit bs r h e = let P : ℕ → Type 0 = λ l. ReadsUpTo l bs r in number_is bs r (subst P e h)

pub none_up_to : (limit : ℕ) (bs : List ℕ) (r : Option ℕ) → limit < 2 ^ 32 → r ≡ None → ((n : ℕ) → n < 10 ^ 10 → decimal n ≡ bs → ⊥) → ReadsUpTo limit bs r
none_up_to limit bs (Some v) low e h = cc
none_up_to limit bs None low e h = λ n k. h n (omega arith)

pub larger_up_to : (limit v : ℕ) (bs : List ℕ) → limit < v → v < 10 ^ 10 → decimal v ≡ bs → ReadsUpTo limit bs None
larger_up_to limit v bs more low e = λ n k d. let same = same_number n v bs (omega arith) low d e in omega arith

-- a word is read from the bytes just where it has 32 bits and they are its signed decimal
abbrev pub ReadsWord : List ℕ → Option ℤ → Type 0
ReadsWord bs r = MatchOption r ((z : ℤ) → SFits w32 z → signed_decimal z ≡ bs → ⊥) (λ z. SFits w32 z × (signed_decimal z ≡ bs))

pub no_word : (bs : List ℕ) (r : Option ℤ) → r ≡ None → ReadsWord bs None → (r ≡ word_of bs) × ReadsWord bs r
no_word bs (Some z) e h = cc
no_word bs None e h = (word_is bs None h, h)

-- bytes that begin with no minus
pub plain_some : (bs : List ℕ) (v : ℕ) → v ≤ 2147483647 → decimal v ≡ bs → ReadsWord bs (Some (to_z w32 v))
plain_some bs v h e =
    let P : ℤ → Type 0 = λ z. SFits w32 z × (signed_decimal z ≡ bs) in
    subst P (sym (to_z_pos w32 v (omega arith))) (record { sfits = omega arith }, e)

pub plain_none : (bs : List ℕ) → (get_or bs 0 0 ≡ 45 → ⊥) → ((n : ℕ) → n ≤ 2147483647 → decimal n ≡ bs → ⊥) → ReadsWord bs None
plain_none bs plain h = none_plain
  where
    none_plain : (z : ℤ) → SFits w32 z → signed_decimal z ≡ bs → ⊥
    none_plain (pos n) fits e = h n (omega (arith, fits.sfits)) e
    none_plain (negsuc n) fits e = plain (ap (λ t. get_or t 0 0) (sym e))

-- digits behind a minus
-- the bits of the negation of a number of at most 2^31
negated : (v : ℕ) → 0 < v → v ≤ 2 ^ 31 → to_z w32 (of_z w32 (to_z w64 (of_z w64 (pos 0 -ℤ to_z w64 v)))) ≡ negsuc (v - 1)
negated v h k = omega (arith, ints)

pub minus_some : (bs : List ℕ) (v : ℕ) → 0 < v → v ≤ 2147483648 → decimal v ≡ bs → ReadsWord (45 ∷ bs) (Some (to_z w32 (of_z w32 (to_z w64 (of_z w64 (pos 0 -ℤ to_z w64 v))))))
minus_some bs v more h e =
    let P : ℤ → Type 0 = λ z. SFits w32 z × (signed_decimal z ≡ 45 ∷ bs) in
    let back : suc (v - 1) ≡ v = omega arith in
    subst P (sym (negated v more h)) (record { sfits = omega arith }, ap (λ t. 45 ∷ t) (ap decimal back ∙ e))

minus_no_decimal : (n : ℕ) (bs : List ℕ) → n < 10 ^ 10 → decimal n ≡ 45 ∷ bs → ⊥
minus_no_decimal n bs h e =
    let s = shape_of (45 ∷ bs) n h e in
    let d = s.digit 0 s.some in
    omega arith

pub minus_none : (bs : List ℕ) → ((n : ℕ) → 0 < n → n ≤ 2147483648 → decimal n ≡ bs → ⊥) → ReadsWord (45 ∷ bs) None
minus_none bs h = none_minus
  where
    none_minus : (z : ℤ) → SFits w32 z → signed_decimal z ≡ 45 ∷ bs → ⊥
    none_minus (pos n) fits e = minus_no_decimal n bs (omega (arith, fits.sfits)) e
    none_minus (negsuc n) fits e =
        let rest : decimal (suc n) ≡ bs = ap (drop 1) e in
        h (suc n) (omega arith) (omega (arith, fits.sfits)) rest
