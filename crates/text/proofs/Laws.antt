-- The laws of the reading of lines: what is written is read back, and what is read was written.
use Rattle.std.proofs.Common.{◌≡◌, ℕ, suc, ◌^◌, ◌<◌, ◌≤◌, Bool, true, false, cond, ◌&&◌, eqb, ltb, leb, ◌⊎◌, List, [], ◌∷◌, ◌++◌, length, get_or, ℤ, pos, negsuc, neg_ℤ, Some, None, decimal, Option, sym, refl, ap, ◌∙◌, subst, inl, inr, ⊎_elim, arith, w32, SFits, rules, MatchOption}
use lib.Signed.{mag}
use Rattle.std.specs.Int.{IsInRange}
use Rattle.std.specs.Fmt.{signed_decimal}
use Rattle.std.specs.List.{AllByRecursion}
use Rattle.std.specs.Str.{all_ascii_digits, bytes_eq}
use Rattle.std.proofs.lemmas.Slice.Eq.{bytes_eq-Decides}
use Rattle.std.proofs.lemmas.Fmt.{digits_decimal, digits_value-decimal, decimal_nonempty}
use Rattle.std.proofs.ByRecursion.{All-from_get_or}
use Rattle.std.proofs.lemmas.Str.Parse.{IsNumeralModel, numerals_by_fold, not_in_digits}
use Rattle.std.proofs.lemmas.Bool.{eqb-true, eqb-false, ne_eqb, leb-true, le-leb, ltb-true, lt-ltb, and_parts, and_from, cond-false}
use Rattle.text.specs.Slots
use Rattle.text.specs.Slots.{Slot, written, InRange, Lacks, Free, commas, line_of}
use Rattle.text.specs.Reading.{in_front, cut, given, read_on, number_of, signed_value, word_of, keyword_of, both, all_three, one_number, two_numbers, three_numbers}

-- a byte in front of the fields is a byte in front of their line
commas_in_front : (t : Bool) (b : ℕ) (fs : List (List ℕ)) → (t ≡ true → b ≡ 44) → 0 < length fs → commas (in_front t b fs) ≡ b ∷ commas fs
commas_in_front true b [] h some = absurd (omega arith)
commas_in_front false b [] h some = absurd (omega arith)
commas_in_front true b (f ∷ fs) h some = ap (λ c. c ∷ commas (f ∷ fs)) (sym (h refl))
commas_in_front false b (f ∷ []) h some = refl
commas_in_front false b (f ∷ g ∷ fs) h some = refl

in_front_some : (t : Bool) (b : ℕ) (fs : List (List ℕ)) → 0 < length (in_front t b fs)
in_front_some true b fs = omega arith
in_front_some false b [] = omega arith
in_front_some false b (f ∷ fs) = omega arith

-- there is at least one field
pub cut_some : (bs : List ℕ) → 0 < length (cut bs)
unfolding cut
cut_some [] = omega arith
cut_some (b ∷ bs) = in_front_some (eqb b 44) b (cut bs)

-- the fields, parted by commas, are the bytes again
pub commas_cut : (bs : List ℕ) → commas (cut bs) ≡ bs
unfolding cut
commas_cut [] = refl
commas_cut (b ∷ bs) = commas_in_front (eqb b 44) b (cut bs) (eqb-true b 44) (cut_some bs) ∙ ap (λ t. b ∷ t) (commas_cut bs)

in_front_free : (t : Bool) (b : ℕ) (fs : List (List ℕ)) → (t ≡ false → b ≡ 44 → ⊥) → (b ≡ 10 → ⊥) → AllByRecursion Free fs → AllByRecursion Free (in_front t b fs)
in_front_free true b fs comma feed h = ((tt, tt), h)
in_front_free false b [] comma feed h = (((comma refl, tt), (feed, tt)), tt)
in_front_free false b (f ∷ fs) comma feed h = (((comma refl, h.0.0), (feed, h.0.1)), h.1)

-- no field of bytes without a line feed has a comma or a line feed
pub cut_free : (bs : List ℕ) → Lacks 10 bs → AllByRecursion Free (cut bs)
unfolding cut
cut_free [] h = ((tt, tt), tt)
cut_free (b ∷ bs) h = in_front_free (eqb b 44) b (cut bs) (eqb-false b 44) h.0 (cut_free bs h.1)

-- the bytes up to the first comma are the first field, and what follows has the others
pub cut_front : (f bs : List ℕ) → Lacks 44 f → cut (f ++ (44 ∷ bs)) ≡ f ∷ cut bs
unfolding cut
cut_front [] bs h = refl
cut_front (b ∷ f) bs h = rw (ne_eqb b 44 h.0, cut_front f bs h.1) refl

-- bytes with no comma are one field
pub cut_last : (f : List ℕ) → Lacks 44 f → cut f ≡ f ∷ []
unfolding cut
cut_last [] h = refl
cut_last (b ∷ f) h = rw (ne_eqb b 44 h.0, cut_last f h.1) refl

-- free fields that are parted by commas are found again
pub cut_commas : (f : List ℕ) (fs : List (List ℕ)) → AllByRecursion Free (f ∷ fs) → cut (commas (f ∷ fs)) ≡ f ∷ fs
cut_commas f [] h = cut_last f h.0.0
cut_commas f (g ∷ fs) h = cut_front f (commas (g ∷ fs)) h.0.0 ∙ ap (λ t. f ∷ t) (cut_commas g fs h.1)

-- lists of free fields that are parted by commas to the same bytes are the same
pub commas_same : (f g : List ℕ) (fs gs : List (List ℕ)) → AllByRecursion Free (f ∷ fs) → AllByRecursion Free (g ∷ gs) → commas (f ∷ fs) ≡ commas (g ∷ gs) → ◌≡◌ {A = List (List ℕ)} (f ∷ fs) (g ∷ gs)
commas_same f g fs gs h k e = sym (cut_commas f fs h) ∙ ap cut e ∙ cut_commas g gs k

-- nothing is not something
pub none_some : {X : Type 0} (x : X) → ◌≡◌ {A = Option X} None (Some x) → ⊥
none_some x e = cc

none_is : {X : Type 0} (o : Option X) → ((x : X) → o ≡ Some x → ⊥) → None ≡ o
none_is None k = refl
none_is (Some x) k = absurd (k x refl)

given_holds : {X : Type 0} (t : Bool) (x : X) → t ≡ true → given t x ≡ Some x
given_holds true x h = refl
given_holds false x h = cc

given_says : {X : Type 0} (t : Bool) (x y : X) → given t x ≡ Some y → (t ≡ true) × (x ≡ y)
given_says true x y e = (refl, cc)
given_says false x y e = cc

-- the words of this crate for digits and what they write
numerals : IsNumeralModel (λ ds. all_ascii_digits ds ≡ true) (read_on 0)
numerals = numerals_by_fold _ (search rules) read_on (search rules)

read_decimal : (n : ℕ) → n < 2 ^ 64 → read_on 0 (decimal n) ≡ n
read_decimal n small = digits_value-decimal numerals n small

-- a byte that is no digit stands nowhere in a decimal
decimal_lacks : (c n : ℕ) → n < 2 ^ 64 → (IsInRange 48 57 c → ⊥) → Lacks c (decimal n)
decimal_lacks c n small other =
    All-from_get_or (λ b. b ≡ c → ⊥) (decimal n) 0 (not_in_digits numerals (decimal n) c (digits_decimal numerals n small) other)

same_bytes : (bs : List ℕ) → bytes_eq bs bs ≡ true
same_bytes bs = (bytes_eq-Decides bs bs).1 refl

number_checked : (v n : ℕ) → v ≡ n → n ≤ 65535 → given (leb v 65535 && bytes_eq (decimal v) (decimal n)) v ≡ Some n
number_checked v n e h =
    rw e (given_holds (leb n 65535 && bytes_eq (decimal n) (decimal n)) n (and_from _ _ (le-leb n 65535 h) (same_bytes (decimal n))))

-- a number in range is read from its decimal
pub number_written : (n : ℕ) → n ≤ 65535 → number_of (decimal n) ≡ Some n
unfolding number_of
number_written n h = number_checked (read_on 0 (decimal n)) n (read_decimal n (omega arith)) h

-- the number that is read is in range, and its decimal is just the bytes
pub number_exact : (bs : List ℕ) (n : ℕ) → number_of bs ≡ Some n → (n ≤ 65535) × (decimal n ≡ bs)
unfolding number_of
number_exact bs n e =
    let p = given_says _ (read_on 0 bs) n e in
    let q = and_parts (leb (read_on 0 bs) 65535) (bytes_eq (decimal (read_on 0 bs)) bs) p.0 in
    let P : ℕ → Type 0 = λ v. (v ≤ 65535) × (decimal v ≡ bs) in
    subst P p.1 (leb-true _ _ q.0, (bytes_eq-Decides (decimal (read_on 0 bs)) bs).0 q.1)

-- an answer that is exact, and is there where one can be, is the number of the bytes
pub number_is : (bs : List ℕ) (r : Option ℕ) → MatchOption r ((n : ℕ) → n ≤ 65535 → decimal n ≡ bs → ⊥) (λ n. (n ≤ 65535) × (decimal n ≡ bs)) → r ≡ number_of bs
number_is bs (Some n) h = sym (number_written n h.0) ∙ ap number_of h.1
number_is bs None h = none_is (number_of bs) (λ n e. h n (number_exact bs n e).0 (number_exact bs n e).1)

signed_value_of : (z : ℤ) → mag z < 2 ^ 31 → signed_value (signed_decimal z) ≡ z
signed_value_of (pos n) h =
    let small : n < 2 ^ 64 = omega arith in
    let plain : eqb (get_or (decimal n) 0 0) 45 ≡ false = ne_eqb _ 45 (not_in_digits numerals (decimal n) 45 (digits_decimal numerals n small) (λ d. omega arith) 0 (decimal_nonempty n small)) in
    cond-false _ _ (pos (read_on 0 (decimal n))) plain ∙ ap pos (read_decimal n small)
signed_value_of (negsuc n) h = ap (λ v. neg_ℤ (pos v)) (read_decimal (suc n) (omega arith))

word_checked : (v z : ℤ) → v ≡ z → mag z < 2 ^ 31 → given (ltb (mag v) (2 ^ 31) && bytes_eq (signed_decimal v) (signed_decimal z)) v ≡ Some z
word_checked v z e h =
    rw e (given_holds (ltb (mag z) (2 ^ 31) && bytes_eq (signed_decimal z) (signed_decimal z)) z (and_from _ _ (lt-ltb (mag z) (2 ^ 31) h) (same_bytes (signed_decimal z))))

-- a word of 32 bits is read from its signed decimal
pub word_written : (z : ℤ) → SFits w32 z → word_of (signed_decimal z) ≡ Some z
unfolding word_of
word_written z h = word_checked (signed_value (signed_decimal z)) z (signed_value_of z h.sfits) h.sfits

-- the word that is read has 32 bits, and its signed decimal is just the bytes
pub word_exact : (bs : List ℕ) (z : ℤ) → word_of bs ≡ Some z → SFits w32 z × (signed_decimal z ≡ bs)
unfolding word_of
word_exact bs z e =
    let p = given_says _ (signed_value bs) z e in
    let q = and_parts (ltb (mag (signed_value bs)) (2 ^ 31)) (bytes_eq (signed_decimal (signed_value bs)) bs) p.0 in
    let P : ℤ → Type 0 = λ v. SFits w32 v × (signed_decimal v ≡ bs) in
    subst P p.1 (record { sfits = ltb-true _ _ q.0 }, (bytes_eq-Decides (signed_decimal (signed_value bs)) bs).0 q.1)

-- an answer that is exact, and is there where one can be, is the word of the bytes
pub word_is : (bs : List ℕ) (r : Option ℤ) → MatchOption r ((z : ℤ) → SFits w32 z → signed_decimal z ≡ bs → ⊥) (λ z. SFits w32 z × (signed_decimal z ≡ bs)) → r ≡ word_of bs
word_is bs (Some z) h = sym (word_written z h.0) ∙ ap word_of h.1
word_is bs None h = none_is (word_of bs) (λ z e. h z (word_exact bs z e).0 (word_exact bs z e).1)

found_here : {K : Type 0} (t : Bool) (k x : K) (others : Option K) → cond t (Some k) others ≡ Some x → ((t ≡ true) × (k ≡ x)) ⊎ (others ≡ Some x)
found_here true k x others e = inl (refl, cc)
found_here false k x others e = inr e

-- the keyword that is found is spelled by the bytes
pub keyword_found : {K : Type 0} (spelled : K → List ℕ) (table : List K) (bs : List ℕ) (k : K) → keyword_of spelled table bs ≡ Some k → spelled k ≡ bs
keyword_found spelled [] bs k e = cc
keyword_found spelled (x ∷ xs) bs k e =
    ⊎_elim (λ h. ap spelled (sym h.1) ∙ (bytes_eq-Decides (spelled x) bs).0 h.0)
    (keyword_found spelled xs bs k)
    (found_here (bytes_eq (spelled x) bs) x k (keyword_of spelled xs bs) e)

-- where none is found, no keyword is spelled by the bytes, if each is found by its own spelling
pub keyword_none : {K : Type 0} (spelled : K → List ℕ) (table : List K) (bs : List ℕ) (k : K) → keyword_of spelled table bs ≡ None → keyword_of spelled table (spelled k) ≡ Some k → spelled k ≡ bs → ⊥
keyword_none spelled table bs k e found same = none_some k (sym e ∙ ap (keyword_of spelled table) (sym same) ∙ found)

-- what is found is spelled by the bytes, and where none is found no keyword is
pub keyword_read : {K : Type 0} (spelled : K → List ℕ) (table : List K) (bs : List ℕ) (r : Option K) → r ≡ keyword_of spelled table bs → ((k : K) → keyword_of spelled table (spelled k) ≡ Some k) → MatchOption r ((k : K) → spelled k ≡ bs → ⊥) (λ k. spelled k ≡ bs)
keyword_read spelled table bs None e found = λ k same. keyword_none spelled table bs k (sym e) (found k) same
keyword_read spelled table bs (Some k) e found = keyword_found spelled table bs k (sym e)

-- a field in range has no comma and no line feed, if no given word has one
pub written_free : (s : Slot) → InRange s → ((bs : List ℕ) → s ≡ Slots.literal bs → Free bs) → Free (written s)
written_free (Slots.literal bs) range free = free bs refl
written_free (Slots.number n) range free = (decimal_lacks 44 n (omega arith) (λ d. omega arith), decimal_lacks 10 n (omega arith) (λ d. omega arith))
written_free (Slots.word (pos n)) range free =
    let small : n < 2 ^ 64 = omega (arith, range.sfits) in
    (decimal_lacks 44 n small (λ d. omega arith), decimal_lacks 10 n small (λ d. omega arith))
written_free (Slots.word (negsuc n)) range free =
    let small : suc n < 2 ^ 64 = omega (arith, range.sfits) in
    (((λ e. omega arith), decimal_lacks 44 (suc n) small (λ d. omega arith)), ((λ e. omega arith), decimal_lacks 10 (suc n) small (λ d. omega arith)))

-- values that are both read are each read
pub both_says : {A B : Type 0} (x : Option A) (y : Option B) (a : A) (b : B) → both x y ≡ Some (a, b) → (x ≡ Some a) × (y ≡ Some b)
both_says x y a b e = grind arith

three_says : (x y z : Option ℕ) (a b c : ℕ) → all_three x y z ≡ Some (a, b, c) → (x ≡ Some a) × (y ≡ Some b) × (z ≡ Some c)
three_says None y z a b c e = cc
three_says (Some p) None z a b c e = cc
three_says (Some p) (Some q) None a b c e = cc
three_says (Some p) (Some q) (Some r) a b c e =
    let d : ◌≡◌ {A = ℕ × ℕ × ℕ} (p, q, r) (a, b, c) = cc in
    (ap (λ (t : ℕ × ℕ × ℕ). Some t.0) d, ap (λ (t : ℕ × ℕ × ℕ). Some t.1) d, ap (λ (t : ℕ × ℕ × ℕ). Some t.2) d)

-- the one number that is read is in range, and its decimal is the one field
pub one_exact : (fs : List (List ℕ)) (a : ℕ) → one_number fs ≡ Some a → (fs ≡ decimal a ∷ []) × (a ≤ 65535)
one_exact [] a e = cc
one_exact (f ∷ []) a e = let x = number_exact f a e in (rw x.1 refl, x.0)
one_exact (f ∷ g ∷ fs) a e = cc

-- the two numbers that are read are in range, and their decimals are the two fields
pub two_exact : (fs : List (List ℕ)) (a b : ℕ) → two_numbers fs ≡ Some (a, b) → (fs ≡ decimal a ∷ decimal b ∷ []) × (a ≤ 65535) × (b ≤ 65535)
two_exact [] a b e = cc
two_exact (f ∷ []) a b e = cc
two_exact (f ∷ g ∷ []) a b e =
    let p = both_says (number_of f) (number_of g) a b e in
    let x = number_exact f a p.0 in
    let y = number_exact g b p.1 in
    (rw (x.1, y.1) refl, x.0, y.0)
two_exact (f ∷ g ∷ h ∷ fs) a b e = cc

-- three numbers in range are read from their decimals
pub three_written : (a b c : ℕ) → a ≤ 65535 → b ≤ 65535 → c ≤ 65535 → three_numbers (decimal a ∷ decimal b ∷ decimal c ∷ []) ≡ Some (a, b, c)
three_written a b c h k l = rw (number_written a h, number_written b k, number_written c l) refl

-- the three numbers that are read are in range, and their decimals are the three fields
pub three_exact : (fs : List (List ℕ)) (a b c : ℕ) → three_numbers fs ≡ Some (a, b, c) → (fs ≡ decimal a ∷ decimal b ∷ decimal c ∷ []) × (a ≤ 65535) × (b ≤ 65535) × (c ≤ 65535)
three_exact [] a b c e = cc
three_exact (f ∷ []) a b c e = cc
three_exact (f ∷ g ∷ []) a b c e = cc
three_exact (f ∷ g ∷ h ∷ []) a b c e =
    let p = three_says (number_of f) (number_of g) (number_of h) a b c e in
    let x = number_exact f a p.0 in
    let y = number_exact g b p.1 in
    let z = number_exact h c p.2 in
    (rw (x.1, y.1, z.1) refl, x.0, y.0, z.0)
three_exact (f ∷ g ∷ h ∷ i ∷ fs) a b c e = cc
