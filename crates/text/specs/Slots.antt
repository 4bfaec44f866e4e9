-- What a line of text is: fields parted by commas, and a line feed at the end. A byte is a number below 256.
use Rattle.std.specs.Prelude.{◌≡◌, ℕ, ◌≤◌, List, [], ◌∷◌, ◌++◌, map, ℤ, decimal, FitsSigned, ◌≢◌}
use Rattle.std.specs.Int.{w32}
use Rattle.std.specs.Fmt.{signed_decimal}
use Rattle.std.specs.List.{AllByRecursion}

-- one field of a line: a word that is given, a number, or a signed word
pub data Slot : Type 0 where
  literal : List ℕ → Slot
  number : ℕ → Slot
  word : ℤ → Slot

-- the bytes that a field is written as
abbrev pub written : Slot → List ℕ
written (literal bs) = bs
written (number n) = decimal n
written (word z) = signed_decimal z

-- a number is at most 65,535, and a signed word is at least −2^31 and below 2^31
abbrev pub InRange : Slot → Type 0
InRange (literal bs) = Unit {0}
InRange (number n) = n ≤ 65535
InRange (word z) = FitsSigned w32 z

-- no byte of the list is c
abbrev pub Lacks : ℕ → List ℕ → Type 0
Lacks c bs = AllByRecursion (λ b. b ≢ c) bs

-- no byte of the list is a comma or a line feed
abbrev pub Free : List ℕ → Type 0
Free bs = Lacks 44 bs × Lacks 10 bs

-- the bytes may stand where the field stands: just these for a given word, any free bytes for a number
abbrev pub Takes : Slot → List ℕ → Type 0
Takes (literal w) bs = bs ≡ w
Takes (number n) bs = Free bs
Takes (word z) bs = Free bs

-- as many fields as slots, each such that its slot takes it
abbrev pub Fits : List Slot → List (List ℕ) → Type 0
Fits [] [] = Unit {0}
Fits [] (f ∷ fs) = ⊥
Fits (s ∷ ss) [] = ⊥
Fits (s ∷ ss) (f ∷ fs) = Takes s f × Fits ss fs

-- the fields with a comma between each two
abbrev pub commas : List (List ℕ) → List ℕ
commas [] = []
commas (f ∷ []) = f
commas (f ∷ g ∷ fs) = f ++ (44 ∷ commas (g ∷ fs))

-- the fields as a line
abbrev pub line_of : List (List ℕ) → List ℕ
line_of fs = commas fs ++ (10 ∷ [])

-- the line that the slots are written as
abbrev pub printed : List Slot → List ℕ
printed ss = line_of (map written ss)
