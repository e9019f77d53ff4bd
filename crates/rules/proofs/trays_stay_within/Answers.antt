use Rattle.rules.proofs.Theorems.{trays_stay_within}
use Rattle.rules.proofs.trays_stay_within.Goals as goal

pub returns : goal.returns
returns c = trays_stay_within
