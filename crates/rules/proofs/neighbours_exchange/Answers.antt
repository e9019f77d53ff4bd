use Rattle.rules.proofs.Theorems.{neighbours_exchange}
use Rattle.rules.proofs.neighbours_exchange.Goals as goal

pub returns : goal.returns
returns c = neighbours_exchange
