-- The words from lo to hi, each at one place of the ascending list. Assumes nothing.
use Rattle.std.specs.Prelude.{◌≡◌, ℤ, pos, ◌+ℤ◌, ◌-ℤ◌, unsigned_abs}
use Rattle.std.proofs.Common.{arith}
use Rattle.std.proofs.lemmas.Int.{ints}
use Rattle.arithmetic.specs.Kinds.{between, ascending}
use Rattle.arithmetic.specs.Meaning.{Meaning, Listed}
use Rattle.arithmetic.specs.Settings.{host_range}

-- whatever else an arithmetic means, its host's list is lawful where the host may say just the words from lo to hi
pub ascending_listed : (lo hi : ℤ) → host_range lo hi → (m : Meaning) → ((z : ℤ) → m.may_say z ≡ between lo hi z) → Listed m (ascending lo hi)
ascending_listed lo hi limits m says = record {
  some = omega arith;
  few = omega (arith, ints);
  stands = λ z h. let said = says z in (unsigned_abs (z -ℤ lo), grind (arith, ints), grind (arith, ints));
  once = λ p q _ _ e. omega (arith, ints);
  only = λ p h. let said = says (lo +ℤ pos p) in grind (arith, ints);
}
