use Rattle.std.proofs.Common.{vec_items}
use Rattle.library.proofs.Held.{leaves_told}
use Rattle.library.proofs.library.Library.tallied.Goals as goal

pub returns : goal.returns
returns c =
    let l = c.args.self.now in
    record { counts_of_rows = l.counted; leaves_of_types = leaves_told (vec_items l.rows) l.tally.counts l.tally.leaves l.counted l.leaves }
