use Rattle.rules.proofs.Trails.{trails_suffice}
use Rattle.rules.proofs.trails_suffice.Goals as goal

pub returns : goal.returns
returns c = trails_suffice
