use Rattle.reader.proofs.Progress.{SoFar}
use Rattle.reader.proofs.read.Given as goal

abbrev pub invariant-loop-count : goal.invariant-loop-count
invariant-loop-count l = SoFar l.text l.initial.rows l.rows l.count-iterator.count l.count-iterator.iter.rest.now l.tally.counts l.tally.leaves
