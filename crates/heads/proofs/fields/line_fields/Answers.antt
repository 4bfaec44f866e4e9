-- A line with a line feed does not lack it.
use Rattle.std.proofs.Common.{arith}
use Rattle.heads.proofs.Lines.{has_feed}
use Rattle.heads.proofs.fields.line_fields.Goals as goal

pub returns : goal.returns
returns c = grind (arith, has_feed)
