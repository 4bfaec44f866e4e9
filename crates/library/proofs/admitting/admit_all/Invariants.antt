use Rattle.std.proofs.Common.{take}
use Rattle.rows.specs.Faults.{Faultless}
use Rattle.rows.specs.Tallies.{Tallied}
use Rattle.library.proofs.admitting.admit_all.Given as goal

abbrev pub invariant-loop-place : goal.invariant-loop-place
invariant-loop-place l = Faultless (take l.place l.rows) × Tallied (take l.place l.rows) l.tally.counts l.tally.leaves
