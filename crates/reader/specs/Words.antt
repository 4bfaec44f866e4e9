-- The words of a library text, each as the bytes of its letters. Assumes nothing.
use Rattle.std.specs.Prelude.{ℕ, List, [], ◌∷◌, codes}
use Rattle.reader.specs.declared.keywords.TypeWord.{TypeWord}
use Rattle.reader.specs.declared.keywords.TypeWord.TheVariants.{Unit as UnitType, Int as IntType, Pair as PairType, Fun as FunType}
use Rattle.reader.specs.declared.keywords.MethodWord.{MethodWord}
use Rattle.reader.specs.declared.keywords.MethodWord.TheVariants.{Abstract, Public, Private}
use Rattle.reader.specs.declared.keywords.TermWord.{TermWord}
use Rattle.reader.specs.declared.keywords.TermWord.TheVariants.{Unit as UnitTerm, Num, Var, Meth, Get, Lam, Set, Op, Pair, Fst, Snd, App, If, Let, Assert}

abbrev pub type_word : TypeWord → List ℕ
type_word UnitType = codes "unit"
type_word IntType = codes "int"
type_word PairType = codes "pair"
type_word FunType = codes "fun"

abbrev pub type_table : List TypeWord
type_table = UnitType ∷ IntType ∷ PairType ∷ FunType ∷ []

abbrev pub method_word : MethodWord → List ℕ
method_word Abstract = codes "abstract"
method_word Public = codes "public"
method_word Private = codes "private"

abbrev pub method_table : List MethodWord
method_table = Abstract ∷ Public ∷ Private ∷ []

abbrev pub term_word : TermWord → List ℕ
term_word UnitTerm = codes "unit"
term_word Num = codes "num"
term_word Var = codes "var"
term_word Meth = codes "meth"
term_word Get = codes "get"
term_word Lam = codes "lam"
term_word Set = codes "set"
term_word Op = codes "op"
term_word Pair = codes "pair"
term_word Fst = codes "fst"
term_word Snd = codes "snd"
term_word App = codes "app"
term_word If = codes "if"
term_word Let = codes "let"
term_word Assert = codes "assert"

abbrev pub term_table : List TermWord
term_table = UnitTerm ∷ Num ∷ Var ∷ Meth ∷ Get ∷ Lam ∷ Set ∷ Op ∷ Pair ∷ Fst ∷ Snd ∷ App ∷ If ∷ Let ∷ Assert ∷ []
