use Rattle.std.proofs.Common.{vec_items}
use Rattle.library.proofs.Steps.{FoundSoFar}
use Rattle.library.proofs.listing.Listing.facts_of_terms.Given as goal

abbrev pub invariant-loop-place : goal.invariant-loop-place
invariant-loop-place l = FoundSoFar l.self.rows.now l.place (vec_items l.found)
