-- The bytes up to the first comma are the first field.
use Rattle.std.proofs.Common.{ap, ◌∙◌}
use Rattle.text.specs.Reading.{cut}
use Rattle.text.proofs.Laws.{cut_front, cut_last}
use Rattle.text.proofs.first_field.Goals as goal

pub returns-in-Some : goal.returns-in-Some
returns-in-Some c =
    let h = c.in-Some.ensures.parts in
    record { parts = ap cut h.0 ∙ cut_front c.in-Some.field.now c.in-Some.others.now h.1 }

pub returns-in-None : goal.returns-in-None
returns-in-None c = record { parts = cut_last c.args.bytes.now c.in-None.ensures.parts }
