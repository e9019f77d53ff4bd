use Rattle.rules.proofs.Theorems.{none_clash}
use Rattle.rules.proofs.no_moves_clash.Goals as goal

pub returns : goal.returns
returns c = none_clash
