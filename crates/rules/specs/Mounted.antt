-- What the rules ask of a library's rows: that they are mounted, and that their numbers are lawful. Assumes nothing.
use Rattle.std.specs.Prelude.{◌≡◌, ℕ, true, List, ℤ}
use mathlib.Core.List.{Memᴰ}
use Rattle.arithmetic.specs.Meaning.{Meaning, Closed}
use Rattle.rows.specs.Faults.{Faultless}
use Rattle.rows.specs.declared.forms.MethodForm.{MethodForm}
use Rattle.rows.specs.declared.forms.TermForm.TheVariants.{Num}
use Rattle.rows.specs.declared.forms.Row.{Row}
use Rattle.rows.specs.declared.forms.Row.TheVariants.{Method as MethodRow, Global as GlobalRow}
use Rattle.library.specs.Typing.{TermIs}
use Rattle.library.specs.Definitions.{MethodRule, GlobalRule}
use Rattle.rules.specs.Game.{Game}

-- no row has a fault after the rows before it, and each method and each global keeps its rule
pub record Mounted (rows : List Row) : Type 0 where
  pub faultless : Faultless rows
  pub methods : (n : ℕ) (form : MethodForm) → Memᴰ (MethodRow n form) rows → MethodRule rows form
  pub globals : (n type term : ℕ) → Memᴰ (GlobalRow n type term) rows → GlobalRule rows type term

-- each number among the terms is a lawful word
abbrev pub LawfulNumbers : Meaning → List Row → Type 0
LawfulNumbers A rows = (t : ℕ) (i : ℤ) → TermIs rows t (Num i) → A.lawful i ≡ true

-- a game that can be played: its library is mounted and has lawful numbers, and its arithmetic keeps its laws
pub record Playable (G : Game) : Type 0 where
  pub mounted : Mounted G.rows
  pub lawful : LawfulNumbers G.meaning G.rows
  pub closed : Closed G.meaning
