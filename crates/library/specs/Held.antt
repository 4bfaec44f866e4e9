-- What a library holds. Assumes nothing.
use Rattle.std.specs.Prelude.{List, vec_items}
use Rattle.rows.specs.declared.forms.Row.{Row}
use Rattle.library.specs.declared.library.Library.{Library}

-- the rows of a library
abbrev pub library_rows : Library → List Row
library_rows library = vec_items library.rows
