-- What the rules ask of a game holds where its library mounts. Assumes nothing.
use Rattle.std.specs.Prelude.{Ok}
use Rattle.arithmetic.specs.Meaning.{Closed}
use Rattle.library.specs.Mounting.{Mounts}
use Rattle.rules.specs.Game.{Game}
use Rattle.rules.specs.Mounted.{LawfulNumbers, Playable}

-- a game whose rows mount, whose numbers are lawful and whose arithmetic keeps its laws can be played
abbrev pub MountingIsPlayable : Type 0
MountingIsPlayable = (G : Game) → Mounts G.rows (Ok tt) → LawfulNumbers G.meaning G.rows → Closed G.meaning → Playable G
