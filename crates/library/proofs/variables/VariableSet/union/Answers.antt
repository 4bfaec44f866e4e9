use Rattle.std.proofs.lemmas.Nat.{or_lt}
use Rattle.library.proofs.variables.VariableSet.union.Goals as goal

pub invariant_of-result : goal.invariant_of-result
invariant_of-result c = record { word = or_lt 64 _ _ c.args.self.word c.args.other.word }
