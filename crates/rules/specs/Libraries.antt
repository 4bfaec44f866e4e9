-- The libraries of the worked plays: each as its text, and as the rows that the text spells. Assumes nothing.
use Rattle.std.specs.Prelude.{ℕ, cond, List, [], ◌∷◌, ◌++◌, pos, codes, ◌==◌}
use Rattle.arithmetic.specs.declared.Operation.TheVariants.{Add, Sub, Equal}
use Rattle.rows.specs.declared.forms.TypeForm.TheVariants.{Unit as UnitType, Int as IntType, Pair as PairType, Fun as FunType}
use Rattle.rows.specs.declared.forms.MethodForm.TheVariants.{Abstract, Public}
use Rattle.rows.specs.declared.forms.TermForm.TheVariants.{Unit as UnitTerm, Num, Var, Meth, Get, Lam, Set, Op, App, Let, Assert}
use Rattle.rows.specs.declared.forms.Row.{Row}
use Rattle.rows.specs.declared.forms.Row.TheVariants.{«Type» as TypeRow, Variable as VariableRow, Method as MethodRow, Global as GlobalRow, Term as TermRow}

-- text as it is written below, with a blank (32) in the place of each line feed (10)
abbrev pub lines : List ℕ → List ℕ
lines [] = []
lines (b ∷ bs) = cond (b == 32) 10 b ∷ lines bs

-- asserts that a global is not zero, clears it, and calls out
abbrev pub asserts_and_calls_out_text : List ℕ
asserts_and_calls_out_text =
    lines (codes "type,0,unit type,1,int type,2,fun,0,0 var,0,0 var,1,0 method,0,abstract,2 method,1,public,2,10 global,0,1,0 " ++
    codes "term,0,num,1 term,1,get,0 term,2,assert,1 term,3,num,0 term,4,set,0,3 term,5,unit term,6,meth,0 term,7,app,6,5 " ++
    codes "term,8,let,1,4,7 term,9,let,1,2,8 term,10,lam,0,9 ")

abbrev pub asserts_and_calls_out : List Row
asserts_and_calls_out =
    TypeRow 0 UnitType ∷ TypeRow 1 IntType ∷ TypeRow 2 (FunType 0 0) ∷ VariableRow 0 0 ∷ VariableRow 1 0 ∷
    MethodRow 0 (Abstract 2) ∷ MethodRow 1 (Public 2 10) ∷ GlobalRow 0 1 0 ∷ TermRow 0 (Num (pos 1)) ∷ TermRow 1 (Get 0) ∷
    TermRow 2 (Assert 1) ∷ TermRow 3 (Num (pos 0)) ∷ TermRow 4 (Set 0 3) ∷ TermRow 5 UnitTerm ∷ TermRow 6 (Meth 0) ∷
    TermRow 7 (App 6 5) ∷ TermRow 8 (Let 1 4 7) ∷ TermRow 9 (Let 1 2 8) ∷ TermRow 10 (Lam 0 9) ∷ []

-- takes a number, adds 1 to it, subtracts 1, and asserts that this gives the number
abbrev pub adds_and_subtracts_text : List ℕ
adds_and_subtracts_text =
    lines (codes "type,0,unit type,1,int type,2,fun,1,0 var,0,1 method,0,public,2,7 term,0,var,0 term,1,num,1 term,2,op,add,0,1 " ++
    codes "term,3,op,sub,2,1 term,4,op,equal,3,0 term,5,assert,4 term,6,unit term,7,lam,0,5 ")

abbrev pub adds_and_subtracts : List Row
adds_and_subtracts =
    TypeRow 0 UnitType ∷ TypeRow 1 IntType ∷ TypeRow 2 (FunType 1 0) ∷ VariableRow 0 1 ∷ MethodRow 0 (Public 2 7) ∷
    TermRow 0 (Var 0) ∷ TermRow 1 (Num (pos 1)) ∷ TermRow 2 (Op Add 0 1) ∷ TermRow 3 (Op Sub 2 1) ∷
    TermRow 4 (Op Equal 3 0) ∷ TermRow 5 (Assert 4) ∷ TermRow 6 UnitTerm ∷ TermRow 7 (Lam 0 5) ∷ []

-- has no row at all
abbrev pub empty : List Row
empty = []

-- answers with a function that it makes at each call
abbrev pub hands_out_a_function_text : List ℕ
hands_out_a_function_text =
    lines (codes "type,0,unit type,1,int type,2,fun,0,1 type,3,fun,0,2 var,0,0 method,0,public,3,3 term,0,unit term,1,num,5 " ++
    codes "term,2,lam,0,1 term,3,lam,0,2 ")

abbrev pub hands_out_a_function : List Row
hands_out_a_function =
    TypeRow 0 UnitType ∷ TypeRow 1 IntType ∷ TypeRow 2 (FunType 0 1) ∷ TypeRow 3 (FunType 0 2) ∷ VariableRow 0 0 ∷
    MethodRow 0 (Public 3 3) ∷ TermRow 0 UnitTerm ∷ TermRow 1 (Num (pos 5)) ∷ TermRow 2 (Lam 0 1) ∷ TermRow 3 (Lam 0 2) ∷ []

-- keeps a function of the host's in a global, and calls it later
abbrev pub keeps_a_function_text : List ℕ
keeps_a_function_text =
    lines (codes "type,0,unit type,1,fun,0,0 type,2,fun,1,0 var,0,1 var,1,0 method,0,public,2,3 method,1,public,1,6 global,0,1,7 " ++
    codes "term,0,var,0 term,1,set,0,0 term,2,unit term,3,lam,0,1 term,4,get,0 term,5,app,4,2 term,6,lam,1,5 term,7,lam,1,2 ")

abbrev pub keeps_a_function : List Row
keeps_a_function =
    TypeRow 0 UnitType ∷ TypeRow 1 (FunType 0 0) ∷ TypeRow 2 (FunType 1 0) ∷ VariableRow 0 1 ∷ VariableRow 1 0 ∷
    MethodRow 0 (Public 2 3) ∷ MethodRow 1 (Public 1 6) ∷ GlobalRow 0 1 7 ∷ TermRow 0 (Var 0) ∷ TermRow 1 (Set 0 0) ∷
    TermRow 2 UnitTerm ∷ TermRow 3 (Lam 0 1) ∷ TermRow 4 (Get 0) ∷ TermRow 5 (App 4 2) ∷ TermRow 6 (Lam 1 5) ∷
    TermRow 7 (Lam 1 2) ∷ []

-- takes a pair of four leaves and answers with it
abbrev pub takes_four_leaves_text : List ℕ
takes_four_leaves_text =
    lines (codes "type,0,unit type,1,int type,2,fun,0,0 type,3,pair,1,2 type,4,pair,1,0 type,5,pair,3,4 type,6,fun,5,5 var,0,5 " ++
    codes "method,0,public,6,1 term,0,var,0 term,1,lam,0,0 ")

abbrev pub takes_four_leaves : List Row
takes_four_leaves =
    TypeRow 0 UnitType ∷ TypeRow 1 IntType ∷ TypeRow 2 (FunType 0 0) ∷ TypeRow 3 (PairType 1 2) ∷ TypeRow 4 (PairType 1 0) ∷
    TypeRow 5 (PairType 3 4) ∷ TypeRow 6 (FunType 5 5) ∷ VariableRow 0 5 ∷ MethodRow 0 (Public 6 1) ∷ TermRow 0 (Var 0) ∷
    TermRow 1 (Lam 0 0) ∷ []

-- calls out, and answers what it is answered
abbrev pub calls_out_text : List ℕ
calls_out_text =
    lines (codes "type,0,unit type,1,fun,0,0 var,0,0 method,0,abstract,1 method,1,public,1,3 term,0,unit term,1,meth,0 term,2,app,1,0 " ++
    codes "term,3,lam,0,2 ")

abbrev pub calls_out : List Row
calls_out =
    TypeRow 0 UnitType ∷ TypeRow 1 (FunType 0 0) ∷ VariableRow 0 0 ∷ MethodRow 0 (Abstract 1) ∷ MethodRow 1 (Public 1 3) ∷
    TermRow 0 UnitTerm ∷ TermRow 1 (Meth 0) ∷ TermRow 2 (App 1 0) ∷ TermRow 3 (Lam 0 2) ∷ []
