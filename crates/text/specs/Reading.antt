-- How the bytes of a line are read: its fields, and what a field says.
use Rattle.std.specs.Prelude.{ℕ, ◌+◌, ◌-◌, ◌*◌, ◌^◌, Bool, true, false, cond, ◌&&◌, List, [], ◌∷◌, drop, ℤ, pos, neg_ℤ, Some, None, decimal, Option, ◌==◌, nat_le, nat_lt, slice_index}
use Rattle.std.specs.List.{find}
use Rattle.std.specs.Int.Signed.{mag}
use Rattle.std.specs.Fmt.{signed_decimal}
use Rattle.std.specs.Str.{bytes_eq}

-- a byte in front of the fields: a comma begins a field, and any other byte begins the first one
abbrev pub in_front : Bool → ℕ → List (List ℕ) → List (List ℕ)
in_front true b fs = [] ∷ fs
in_front false b [] = (b ∷ []) ∷ []
in_front false b (f ∷ fs) = (b ∷ f) ∷ fs

-- the fields of the bytes before a line feed: one more than there are commas
unfoldable pub cut : List ℕ → List (List ℕ)
cut [] = [] ∷ []
cut (b ∷ bs) = in_front (b == 44) b (cut bs)

-- the value, if a test holds
abbrev pub given : {X : Type 0} → Bool → X → Option X
given true x = Some x
given false x = None

-- the number that digits write after the number n
abbrev pub read_on : ℕ → List ℕ → ℕ
read_on n [] = n
read_on n (b ∷ bs) = read_on (n * 10 + (b - 48)) bs

-- the number from 0 to 65,535 that is written by just these bytes
unfoldable pub number_of : List ℕ → Option ℕ
number_of bs = given (nat_le (read_on 0 bs) 65535 && bytes_eq (decimal (read_on 0 bs)) bs) (read_on 0 bs)

-- the signed number that digits write, a minus (45) before them or none
abbrev pub signed_value : List ℕ → ℤ
signed_value bs = cond (slice_index bs 0 == 45) (neg_ℤ (pos (read_on 0 (drop 1 bs)))) (pos (read_on 0 bs))

-- the word of 32 bits that is written by just these bytes
unfoldable pub word_of : List ℕ → Option ℤ
word_of bs = given (nat_lt (mag (signed_value bs)) (2 ^ 31) && bytes_eq (signed_decimal (signed_value bs)) bs) (signed_value bs)

-- the first of the table that is spelled so
abbrev pub keyword_of : {K : Type 0} → (K → List ℕ) → List K → List ℕ → Option K
keyword_of spelled table bs = find (λ k. bytes_eq (spelled k) bs) table

-- the one field, where there is just one
abbrev pub only_field : List (List ℕ) → Option (List ℕ)
only_field [] = None
only_field (f ∷ []) = Some f
only_field (f ∷ g ∷ fs) = None

-- two values, where both are there
abbrev pub both : {A B : Type 0} → Option A → Option B → Option (A × B)
both None y = None
both (Some a) None = None
both (Some a) (Some b) = Some (a, b)

-- three values, where all are there
abbrev pub all_three : {A B C : Type 0} → Option A → Option B → Option C → Option (A × B × C)
all_three None y z = None
all_three (Some a) None z = None
all_three (Some a) (Some b) None = None
all_three (Some a) (Some b) (Some c) = Some (a, b, c)

-- what the only field says, where a field of bytes may say a value
abbrev pub one_value : {A : Type 0} → (List ℕ → Option A) → List (List ℕ) → Option A
one_value said [] = None
one_value said (f ∷ []) = said f
one_value said (f ∷ g ∷ fs) = None

-- what the only two fields say
abbrev pub two_values : {A B : Type 0} → (List ℕ → Option A) → (List ℕ → Option B) → List (List ℕ) → Option (A × B)
two_values first second [] = None
two_values first second (f ∷ []) = None
two_values first second (f ∷ g ∷ []) = both (first f) (second g)
two_values first second (f ∷ g ∷ h ∷ fs) = None

-- what the only three fields say
abbrev pub three_values : {A B C : Type 0} → (List ℕ → Option A) → (List ℕ → Option B) → (List ℕ → Option C) → List (List ℕ) → Option (A × B × C)
three_values first second third [] = None
three_values first second third (f ∷ []) = None
three_values first second third (f ∷ g ∷ []) = None
three_values first second third (f ∷ g ∷ h ∷ []) = all_three (first f) (second g) (third h)
three_values first second third (f ∷ g ∷ h ∷ i ∷ fs) = None

-- the number that the only field is
abbrev pub one_number : List (List ℕ) → Option ℕ
one_number = one_value number_of

-- the numbers that the only two fields are
abbrev pub two_numbers : List (List ℕ) → Option (ℕ × ℕ)
two_numbers = two_values number_of number_of

-- the numbers that the only three fields are
abbrev pub three_numbers : List (List ℕ) → Option (ℕ × ℕ × ℕ)
three_numbers = three_values number_of number_of number_of
