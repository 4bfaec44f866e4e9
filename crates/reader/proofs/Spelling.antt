-- The fields of a row's line spell that row and no other; the forms of lines. Assumes nothing.
use Rattle.std.specs.Fmt.{signed_decimal}
use Rattle.std.proofs.Common.{◌≡◌, ℕ, ◌≤◌, ℤ, w32, SFits, List, [], ◌∷◌, map, Some, None, codes, decimal, Option, refl, subst, rules}
use Rattle.std.specs.Option.{option_map}
use Rattle.std.specs.List.{AllByRecursion}
use Rattle.arithmetic.specs.declared.Operation.{Operation}
use Rattle.arithmetic.specs.Words.{operation_word, operation_table}
use Rattle.text.specs.Slots.{Slot, literal, number, written, InRange}
use Rattle.text.specs.Reading.{keyword_of, number_of, word_of}
use Rattle.text.proofs.Laws.{number_written, word_written, word_exact, number_exact, keyword_found}
use Rattle.rows.specs.declared.forms.TypeForm.{TypeForm}
use Rattle.rows.specs.declared.forms.MethodForm.{MethodForm}
use Rattle.rows.specs.declared.forms.TermForm.{TermForm}
use Rattle.rows.specs.declared.forms.Row.{Row}
use Rattle.rows.specs.declared.forms.Row.TheVariants.{«Type» as TypeRow, Method as MethodRow, Term as TermRow}
use Rattle.rows.specs.declared.forms.Section.{Section}
use Rattle.rows.specs.declared.forms.Section.TheVariants.{Types, Variables, Methods, Globals, Terms}
use Rattle.rows.specs.Sections.{section_word, section_table}
use Rattle.rows.specs.Printing.{slots, type_slots, method_slots, term_slots}
use Rattle.rows.specs.Faults.{NumbersInRange}
use Rattle.reader.specs.declared.keywords.TypeWord.{TypeWord}
use Rattle.reader.specs.declared.keywords.MethodWord.{MethodWord}
use Rattle.reader.specs.declared.keywords.TermWord.{TermWord}
use Rattle.reader.specs.declared.keywords.TermWord.TheVariants.{Unit as UnitWord, Num, Var, Meth, Get, Lam, Set, Op, Pair, Fst, Snd, App, If, Let, Assert}
use Rattle.reader.specs.Words.{type_word, type_table, method_word, method_table, term_word, term_table}
use Rattle.reader.specs.Fields.{spelled_from, type_parts, type_of, method_parts, method_of, operation_parts, operation_of, term_parts, term_of, row_parts, row_numbered, section_parts, row_of}

pub operation_found : (o : Operation) → keyword_of operation_word operation_table (operation_word o) ≡ Some o
operation_found = search rules

-- the fields of a row spell it
pub row_written : (row : Row) → NumbersInRange row → row_of (map written (slots row)) ≡ Some row
row_written = search (rules, number_written, word_written, operation_found)

-- slots whose numbers are in range, and that the fields are written by
abbrev WrittenBy : List Slot → List (List ℕ) → Type 0
WrittenBy ss fs = AllByRecursion InRange ss × (map written ss ≡ fs)

number_small : (bs : List ℕ) (n : ℕ) → number_of bs ≡ Some n → n ≤ 65535
number_small bs n e = (number_exact bs n e).0

number_same : (bs : List ℕ) (n : ℕ) → number_of bs ≡ Some n → decimal n ≡ bs
number_same bs n e = (number_exact bs n e).1

word_small : (bs : List ℕ) (z : ℤ) → word_of bs ≡ Some z → SFits w32 z
word_small bs z e = (word_exact bs z e).0

word_same : (bs : List ℕ) (z : ℤ) → word_of bs ≡ Some z → signed_decimal z ≡ bs
word_same bs z e = (word_exact bs z e).1

-- what is spelled is written by the fields, if what each keyword and its parts spell is
spelled_exact : {K X : Type 0} (spelled : K → List ℕ) (table : List K) (made : K → List (List ℕ) → Option X) (Written : X → List (List ℕ) → Type 0) → ((k : K) (fs : List (List ℕ)) (x : X) → made k fs ≡ Some x → Written x (spelled k ∷ fs)) → (fs : List (List ℕ)) (x : X) → spelled_from spelled table made fs ≡ Some x → Written x fs
spelled_exact = search (rules, keyword_found)

-- the form that the fields spell is written by them
type_parts_exact : (w : TypeWord) (fs : List (List ℕ)) (f : TypeForm) → type_parts w fs ≡ Some f → WrittenBy (type_slots f) (type_word w ∷ fs)
type_parts_exact = search (rules, number_small, number_same)

method_parts_exact : (w : MethodWord) (fs : List (List ℕ)) (f : MethodForm) → method_parts w fs ≡ Some f → WrittenBy (method_slots f) (method_word w ∷ fs)
method_parts_exact = search (rules, number_small, number_same)

operation_parts_exact : (o : Operation) (fs : List (List ℕ)) (f : TermForm) → operation_parts o fs ≡ Some f → WrittenBy (term_slots f) (codes "op" ∷ operation_word o ∷ fs)
operation_parts_exact = search (rules, number_small, number_same)

operation_exact : (fs : List (List ℕ)) (f : TermForm) → operation_of fs ≡ Some f → WrittenBy (term_slots f) (codes "op" ∷ fs)
operation_exact = spelled_exact operation_word operation_table operation_parts (λ f fs. WrittenBy (term_slots f) (codes "op" ∷ fs)) operation_parts_exact

term_parts_exact : (w : TermWord) (fs : List (List ℕ)) (f : TermForm) → term_parts w fs ≡ Some f → WrittenBy (term_slots f) (term_word w ∷ fs)
term_parts_exact UnitWord = search (rules, number_small, number_same)
term_parts_exact Var = search (rules, number_small, number_same)
term_parts_exact Meth = search (rules, number_small, number_same)
term_parts_exact Get = search (rules, number_small, number_same)
term_parts_exact Fst = search (rules, number_small, number_same)
term_parts_exact Snd = search (rules, number_small, number_same)
term_parts_exact Assert = search (rules, number_small, number_same)
term_parts_exact Lam = search (rules, number_small, number_same)
term_parts_exact Set = search (rules, number_small, number_same)
term_parts_exact Pair = search (rules, number_small, number_same)
term_parts_exact App = search (rules, number_small, number_same)
term_parts_exact If = search (rules, number_small, number_same)
term_parts_exact Let = search (rules, number_small, number_same)
term_parts_exact Num = search (rules, word_small, word_same)
term_parts_exact Op = operation_exact

-- what is made of the parts of a row is written by its section, its number and the parts
after_number : {X : Type 0} (s : Section) (n : ℕ) → n ≤ 65535 → (read : List (List ℕ) → Option X) (part_slots : X → List Slot) → ((fs : List (List ℕ)) (x : X) → read fs ≡ Some x → WrittenBy (part_slots x) fs) → (make : X → Row) → ((x : X) → slots (make x) ≡ literal (section_word s) ∷ number n ∷ part_slots x) → (fs : List (List ℕ)) (row : Row) → option_map make (read fs) ≡ Some row → WrittenBy (slots row) (section_word s ∷ decimal n ∷ fs)
after_number = search rules

row_parts_exact : (s : Section) (n : ℕ) → n ≤ 65535 → (fs : List (List ℕ)) (row : Row) → row_parts s n fs ≡ Some row → WrittenBy (slots row) (section_word s ∷ decimal n ∷ fs)
row_parts_exact Types n small = after_number Types n small type_of type_slots (spelled_exact type_word type_table type_parts (λ f. WrittenBy (type_slots f)) type_parts_exact) (TypeRow n) (λ f. refl)
row_parts_exact Variables n small = search (rules, number_small, number_same)
row_parts_exact Methods n small = after_number Methods n small method_of method_slots (spelled_exact method_word method_table method_parts (λ f. WrittenBy (method_slots f)) method_parts_exact) (MethodRow n) (λ f. refl)
row_parts_exact Globals n small = search (rules, number_small, number_same)
row_parts_exact Terms n small = after_number Terms n small term_of term_slots (spelled_exact term_word term_table term_parts (λ f. WrittenBy (term_slots f)) term_parts_exact) (TermRow n) (λ f. refl)

section_parts_exact : (s : Section) (fs : List (List ℕ)) (row : Row) → section_parts s fs ≡ Some row → WrittenBy (slots row) (section_word s ∷ fs)
section_parts_exact s [] row e = cc
section_parts_exact s (n ∷ fs) row e = go (number_of n) refl e
  where
    go : (m : Option ℕ) → number_of n ≡ m → row_numbered s m fs ≡ Some row → WrittenBy (slots row) (section_word s ∷ n ∷ fs)
    go None is h = cc
    go (Some m) is h =
        let x = number_exact n m is in
        subst (λ v. WrittenBy (slots row) (section_word s ∷ v ∷ fs)) x.1 (row_parts_exact s m x.0 fs row h)

pub row_exact : (fs : List (List ℕ)) (row : Row) → row_of fs ≡ Some row → NumbersInRange row × (map written (slots row) ≡ fs)
row_exact = spelled_exact section_word section_table section_parts (λ row. WrittenBy (slots row)) section_parts_exact
