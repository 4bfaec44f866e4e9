-- The first place of the byte parts the text.
use Rattle.std.proofs.Common.{sym, ◌∙◌}
use Rattle.text.proofs.Steps.{lacks_unplaced, parted_at_first}
use Rattle.text.proofs.cut_at.Goals as goal

pub returns-in_err-place : goal.returns-in_err-place
returns-in_err-place c =
    rw c.from_residual.ensures (record { parts = lacks_unplaced c.args.text.now c.args.byte (sym c.first_place.ensures.place_of_byte ∙ c.in_err-place.was) })

pub returns : goal.returns
returns c =
    record { parts = parted_at_first c.args.text.now c.args.byte c.in_ok-place.place (sym c.first_place.ensures.place_of_byte ∙ c.in_ok-place.was) }
