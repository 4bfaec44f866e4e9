use Rattle.std.proofs.lemmas.Nat.{xor_lt}
use Rattle.std.specs.Int.Bits.{and_lt}
use Rattle.library.proofs.variables.VariableSet.without.Goals as goal

pub invariant_of-result : goal.invariant_of-result
invariant_of-result c = record { word = xor_lt 64 _ _ c.args.self.word (and_lt 64 _ _ c.args.self.word c.of.result.word) }
