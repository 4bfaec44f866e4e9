use Rattle.rules.proofs.Texts.{worked_libraries_mount}
use Rattle.rules.proofs.worked_libraries_mount.Goals as goal

pub returns : goal.returns
returns c = record { read_and_mounted = worked_libraries_mount }
