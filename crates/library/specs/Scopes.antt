-- How the free variables of a term are found, as a set of variable numbers in the bits of a word, from those of its parts.
-- Assumes nothing.
use Rattle.std.specs.Prelude.{◌≡◌, ℕ, ◌^◌, ◌<◌, cond, List, take, Some, bit_and, bit_or, bit_xor, nat_lt}
use Rattle.std.specs.List.{slice_get}
use Rattle.std.specs.Option.{unwrap_or}
use Rattle.rows.specs.declared.forms.TermForm.{TermForm}
use Rattle.rows.specs.declared.forms.TermForm.TheVariants.{Unit as UnitTerm, Num, Var, Meth, Get, Lam, Set, Op, Pair, Fst, Snd, App, If, Let, Assert}
use Rattle.rows.specs.declared.forms.Row.{Row}
use Rattle.library.specs.Listing.{term_at}

-- the set of one variable
abbrev pub only : ℕ → ℕ
only x = cond (nat_lt x 64) (2 ^ x) 0

-- a set without a variable
abbrev pub without : ℕ → ℕ → ℕ
without set x = bit_xor set (bit_and set (only x))

-- the free variables of a term, where known are those of the terms before it
abbrev pub free_in : List ℕ → TermForm → ℕ
free_in known UnitTerm = 0
free_in known (Num i) = 0
free_in known (Var x) = only x
free_in known (Meth m) = 0
free_in known (Get r) = 0
free_in known (Lam x a) = without (unwrap_or (slice_get known a) 0) x
free_in known (Set r a) = unwrap_or (slice_get known a) 0
free_in known (Op o a b) = bit_or (unwrap_or (slice_get known a) 0) (unwrap_or (slice_get known b) 0)
free_in known (Pair a b) = bit_or (unwrap_or (slice_get known a) 0) (unwrap_or (slice_get known b) 0)
free_in known (Fst a) = unwrap_or (slice_get known a) 0
free_in known (Snd a) = unwrap_or (slice_get known a) 0
free_in known (App f a) = bit_or (unwrap_or (slice_get known f) 0) (unwrap_or (slice_get known a) 0)
free_in known (If c a b) = bit_or (unwrap_or (slice_get known c) 0) (bit_or (unwrap_or (slice_get known a) 0) (unwrap_or (slice_get known b) 0))
free_in known (Let x a b) = bit_or (unwrap_or (slice_get known a) 0) (without (unwrap_or (slice_get known b) 0) x)
free_in known (Assert a) = unwrap_or (slice_get known a) 0

-- the sets are those of the first terms, each found from those before it
abbrev pub ScopedBy : List Row → List ℕ → Type 0
ScopedBy rows known = (t set : ℕ) (form : TermForm) → slice_get known t ≡ Some set → term_at rows t ≡ Some form → set ≡ free_in (take t known) form

-- each set fits a word of 64 bits
abbrev pub Words : List ℕ → Type 0
Words known = (t set : ℕ) → slice_get known t ≡ Some set → set < 2 ^ 64
