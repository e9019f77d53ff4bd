use Rattle.rules.proofs.Clashes.{clashes_are_real}
use Rattle.rules.proofs.clashes_are_real.Goals as goal

pub returns : goal.returns
returns c = clashes_are_real
