-- The word by which a text names each operation, as the bytes of its letters. Assumes nothing.
use Rattle.std.specs.Prelude.{ℕ, List, [], ◌∷◌, codes}
use Rattle.arithmetic.specs.declared.Operation.{Operation}
use Rattle.arithmetic.specs.declared.Operation.TheVariants.{Add, Sub, Mul, Less, Equal}

abbrev pub operation_word : Operation → List ℕ
operation_word Add = codes "add"
operation_word Sub = codes "sub"
operation_word Mul = codes "mul"
operation_word Less = codes "less"
operation_word Equal = codes "equal"

-- the operations
abbrev pub operation_table : List Operation
operation_table = Add ∷ Sub ∷ Mul ∷ Less ∷ Equal ∷ []
