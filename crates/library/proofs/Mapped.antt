-- What is known of a result whose error was mapped. Assumes nothing.
use Rattle.std.proofs.Common.{◌≡◌, Ok, Err, Result, MatchResult, sym, refl, ◌∙◌}

-- the second result is the first, where each error is turned into another
abbrev pub Mapped : {T D E : Type 0} → Result T D → (D → E) → Result T E → Type 0
Mapped told turned mapped = MatchResult told (λ x. mapped ≡ Ok x) (λ fault. mapped ≡ Err (turned fault))

pub mapped_ok : {T D E : Type 0} (turned : D → E) (told : Result T D) (mapped : Result T E) → Mapped told turned mapped → (x : T) → mapped ≡ Ok x → told ≡ Ok x
mapped_ok turned (Ok y) mapped is x e = let same : Ok y ≡ Ok x = sym is ∙ e in cc
mapped_ok turned (Err fault) mapped is x e = let other : Err (turned fault) ≡ Ok x = sym is ∙ e in cc

pub mapped_err : {T D E : Type 0} (turned : D → E) (told : Result T D) (mapped : Result T E) → Mapped told turned mapped → (y : E) → mapped ≡ Err y → (fault : D) × (told ≡ Err fault) × (y ≡ turned fault)
mapped_err turned (Ok x) mapped is y e = let other : Ok x ≡ Err y = sym is ∙ e in cc
mapped_err turned (Err fault) mapped is y e = let same : Err (turned fault) ≡ Err y = sym is ∙ e in (fault, refl, cc)
