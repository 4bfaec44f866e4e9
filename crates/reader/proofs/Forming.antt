-- A line has a form just where its fields have one. Assumes nothing.
use Rattle.std.proofs.Common.{◌≡◌, ℕ, Bool, true, eqb, List, [], ◌∷◌, length, replicate, pos, sym, refl, subst, rules, true-eqb}
use Rattle.std.specs.List.{AllByRecursion}
use Rattle.arithmetic.specs.declared.Operation.{Operation}
use Rattle.arithmetic.specs.Words.{operation_word, operation_table}
use Rattle.text.specs.Slots.{literal, number, word, Free, Fits}
use Rattle.text.proofs.Forms.{fits_length}
use Rattle.text.proofs.Laws.{keyword_found}
use Rattle.rows.specs.declared.forms.TypeForm.{TypeForm}
use Rattle.rows.specs.declared.forms.TypeForm.TheVariants.{Unit as UnitType, Int as IntType, Pair as PairType, Fun as FunType}
use Rattle.rows.specs.declared.forms.MethodForm.{MethodForm}
use Rattle.rows.specs.declared.forms.MethodForm.TheVariants.{Abstract as AbstractMethod, Public as PublicMethod, Private as PrivateMethod}
use Rattle.rows.specs.declared.forms.TermForm.{TermForm}
use Rattle.rows.specs.declared.forms.TermForm.TheVariants.{Unit as UnitTerm, Num as NumTerm, Var as VarTerm, Meth as MethTerm, Get as GetTerm, Lam as LamTerm, Set as SetTerm, Op as OpTerm, Pair as PairTerm, Fst as FstTerm, Snd as SndTerm, App as AppTerm, If as IfTerm, Let as LetTerm, Assert as AssertTerm}
use Rattle.rows.specs.declared.forms.Row.{Row}
use Rattle.rows.specs.declared.forms.Row.TheVariants.{«Type» as TypeRow, Variable as VariableRow, Method as MethodRow, Global as GlobalRow, Term as TermRow}
use Rattle.rows.specs.declared.forms.Section.{Section}
use Rattle.rows.specs.declared.forms.Section.TheVariants.{Types, Variables, Methods, Globals, Terms}
use Rattle.rows.specs.Sections.{section_word, section_table}
use Rattle.rows.specs.Printing.{slots, type_slots, method_slots, term_slots}
use Rattle.reader.specs.declared.keywords.TypeWord.{TypeWord}
use Rattle.reader.specs.declared.keywords.TypeWord.TheVariants.{Unit as UnitTypeWord, Int, Pair as PairTypeWord, Fun}
use Rattle.reader.specs.declared.keywords.MethodWord.{MethodWord}
use Rattle.reader.specs.declared.keywords.MethodWord.TheVariants.{Abstract, Public, Private}
use Rattle.reader.specs.declared.keywords.TermWord.{TermWord}
use Rattle.reader.specs.declared.keywords.TermWord.TheVariants.{Unit as UnitWord, Num, Var, Meth, Get, Lam, Set, Op, Pair, Fst, Snd, App, If, Let, Assert}
use Rattle.reader.specs.Words.{type_word, type_table, method_word, method_table, term_word, term_table}
use Rattle.reader.specs.Fields.{formed_from, type_counted, type_formed, method_counted, method_formed, operation_counted, operation_formed, parts_formed, term_formed, numbered_formed, has_form}
use Rattle.reader.proofs.Spelling.{operation_found}

-- fields that fit a row's slots have a form
pub row_fits : (row : Row) (gs : List (List ℕ)) → Fits (slots row) gs → has_form gs ≡ true
row_fits = search (rules, fits_length, operation_found)

-- free fields fit number slots, if there are as many
numbers_fit : (gs : List (List ℕ)) → AllByRecursion Free gs → Fits (replicate (length gs) (number 0)) gs
numbers_fit [] free = tt
numbers_fit (g ∷ gs) free = (free.0, numbers_fit gs free.1)

count_fit : (k : ℕ) (gs : List (List ℕ)) → AllByRecursion Free gs → eqb (length gs) k ≡ true → Fits (replicate k (number 0)) gs
count_fit k gs free e = subst (λ n. Fits (replicate n (number 0)) gs) (true-eqb (length gs) k (sym e)) (numbers_fit gs free)

-- a number slot and a word slot take the same fields
word_fit : (gs : List (List ℕ)) → Fits (number 0 ∷ []) gs → Fits (word (pos 0) ∷ []) gs
word_fit [] h = h
word_fit (f ∷ gs) h = h

-- free fields that have a form fit something, if those after each keyword do
formed_with : {K X : Type 0} (spelled : K → List ℕ) (table : List K) (takes : K → List (List ℕ) → Bool) (Fit : X → List (List ℕ) → Type 0) → ((k : K) (gs : List (List ℕ)) → AllByRecursion Free gs → takes k gs ≡ true → (x : X) × Fit x (spelled k ∷ gs)) → (gs : List (List ℕ)) → AllByRecursion Free gs → formed_from spelled table takes gs ≡ true → (x : X) × Fit x gs
formed_with = search (rules, keyword_found)

type_with : (k : TypeWord) (gs : List (List ℕ)) → AllByRecursion Free gs → type_counted k gs ≡ true → (f : TypeForm) × Fits (type_slots f) (type_word k ∷ gs)
type_with UnitTypeWord gs free e = (UnitType, (refl, count_fit 0 gs free e))
type_with Int gs free e = (IntType, (refl, count_fit 0 gs free e))
type_with PairTypeWord gs free e = (PairType 0 0, (refl, count_fit 2 gs free e))
type_with Fun gs free e = (FunType 0 0, (refl, count_fit 2 gs free e))

method_with : (k : MethodWord) (gs : List (List ℕ)) → AllByRecursion Free gs → method_counted k gs ≡ true → (f : MethodForm) × Fits (method_slots f) (method_word k ∷ gs)
method_with Abstract gs free e = (AbstractMethod 0, (refl, count_fit 1 gs free e))
method_with Public gs free e = (PublicMethod 0 0, (refl, count_fit 2 gs free e))
method_with Private gs free e = (PrivateMethod 0 0, (refl, count_fit 2 gs free e))

operation_form : (gs : List (List ℕ)) → AllByRecursion Free gs → operation_formed gs ≡ true → (o : Operation) × Fits (literal (operation_word o) ∷ number 0 ∷ number 0 ∷ []) gs
operation_form = formed_with operation_word operation_table operation_counted (λ o. Fits (literal (operation_word o) ∷ number 0 ∷ number 0 ∷ [])) (λ o gs free e. (o, (refl, count_fit 2 gs free e)))

term_with : (k : TermWord) (gs : List (List ℕ)) → AllByRecursion Free gs → parts_formed k gs ≡ true → (f : TermForm) × Fits (term_slots f) (term_word k ∷ gs)
term_with UnitWord gs free e = (UnitTerm, (refl, count_fit 0 gs free e))
term_with Num gs free e = (NumTerm (pos 0), (refl, word_fit gs (count_fit 1 gs free e)))
term_with Op gs free e = let p = operation_form gs free e in (OpTerm p.0 0 0, (refl, p.1))
term_with Var gs free e = (VarTerm 0, (refl, count_fit 1 gs free e))
term_with Meth gs free e = (MethTerm 0, (refl, count_fit 1 gs free e))
term_with Get gs free e = (GetTerm 0, (refl, count_fit 1 gs free e))
term_with Fst gs free e = (FstTerm 0, (refl, count_fit 1 gs free e))
term_with Snd gs free e = (SndTerm 0, (refl, count_fit 1 gs free e))
term_with Assert gs free e = (AssertTerm 0, (refl, count_fit 1 gs free e))
term_with Lam gs free e = (LamTerm 0 0, (refl, count_fit 2 gs free e))
term_with Set gs free e = (SetTerm 0 0, (refl, count_fit 2 gs free e))
term_with Pair gs free e = (PairTerm 0 0, (refl, count_fit 2 gs free e))
term_with App gs free e = (AppTerm 0 0, (refl, count_fit 2 gs free e))
term_with If gs free e = (IfTerm 0 0 0, (refl, count_fit 3 gs free e))
term_with Let gs free e = (LetTerm 0 0 0, (refl, count_fit 3 gs free e))

type_form : (gs : List (List ℕ)) → AllByRecursion Free gs → type_formed gs ≡ true → (f : TypeForm) × Fits (type_slots f) gs
type_form = formed_with type_word type_table type_counted (λ f. Fits (type_slots f)) type_with

method_form : (gs : List (List ℕ)) → AllByRecursion Free gs → method_formed gs ≡ true → (f : MethodForm) × Fits (method_slots f) gs
method_form = formed_with method_word method_table method_counted (λ f. Fits (method_slots f)) method_with

term_form : (gs : List (List ℕ)) → AllByRecursion Free gs → term_formed gs ≡ true → (f : TermForm) × Fits (term_slots f) gs
term_form = formed_with term_word term_table parts_formed (λ f. Fits (term_slots f)) term_with

row_with : (s : Section) (gs : List (List ℕ)) → AllByRecursion Free gs → numbered_formed s gs ≡ true → (row : Row) × Fits (slots row) (section_word s ∷ gs)
row_with s [] free e = cc
row_with Types (n ∷ gs) free e = let p = type_form gs free.1 e in (TypeRow 0 p.0, (refl, (free.0, p.1)))
row_with Variables (n ∷ gs) free e = (VariableRow 0 0, (refl, (free.0, count_fit 1 gs free.1 e)))
row_with Methods (n ∷ gs) free e = let p = method_form gs free.1 e in (MethodRow 0 p.0, (refl, (free.0, p.1)))
row_with Globals (n ∷ gs) free e = (GlobalRow 0 0 0, (refl, (free.0, count_fit 2 gs free.1 e)))
row_with Terms (n ∷ gs) free e = let p = term_form gs free.1 e in (TermRow 0 p.0, (refl, (free.0, p.1)))

pub row_form : (gs : List (List ℕ)) → AllByRecursion Free gs → has_form gs ≡ true → (row : Row) × Fits (slots row) gs
row_form = formed_with section_word section_table numbered_formed (λ row. Fits (slots row)) row_with
