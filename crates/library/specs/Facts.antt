-- What is found of each term, as a list of each of its parts. Assumes nothing.
use Rattle.std.specs.Prelude.{ℕ, List, map}
use Rattle.library.specs.declared.facts.TermFacts.{TermFacts}

-- the numbers of the types of terms
abbrev pub type_numbers : List TermFacts → List ℕ
type_numbers known = map (λ (facts : TermFacts). facts.type_number) known

-- the sets of the free variables of terms
abbrev pub free_sets : List TermFacts → List ℕ
free_sets known = map (λ (facts : TermFacts). facts.free.bits) known
