-- At most one fault is the least that holds. Assumes nothing.
use Rattle.std.proofs.Common.{◌≡◌, ℕ, ⊎_elim}
use Rattle.std.proofs.lemmas.Bool.{cases_order}
use Rattle.faults.specs.Least.{LeastOf}

-- where a fault is told by its number
pub least_once : {Fault : Type 0} (number : Fault → ℕ) → ((f g : Fault) → number f ≡ number g → f ≡ g) → (holds : Fault → Type 0) (f g : Fault) → LeastOf number holds f → LeastOf number holds g → f ≡ g
least_once number told holds f g h k =
    ⊎_elim (λ same. told f g same)
    (⊎_elim (λ less. absurd (k.none_smaller f less h.here)) (λ more. absurd (h.none_smaller g more k.here)))
    (cases_order (number f) (number g))
